-- The values of each kind in plain words, to be held beside REFERENCE, The kinds of value. Assumes nothing.
use Rattle.std.specs.Prelude.{ℕ, suc, ◌≤◌, ◌≡◌, true, List, [], ◌∷◌, ◌++◌, ◌⊎◌}
use Rattle.value_kinds.specs.Octets.{Octets, inner, escapee, backslash, comma, semicolon, colon, letter, scheme, graphic, digit, sex, holds}
use Rattle.octets.specs.Counts.{all_in}

abbrev pub In : Octets → ℕ → Type 0
In p x = holds p x ≡ true

abbrev pub All : Octets → List ℕ → Type 0
All p v = all_in (holds p) v ≡ true

-- each backslash starts an escape; so many commas and so many semicolons are bare
pub data Escaped : ℕ → ℕ → List ℕ → Type 0 where
  ends : Escaped 0 0 []
  bare : {c s x : ℕ} {v : List ℕ} → In inner x → Escaped c s v → Escaped c s (x ∷ v)
  bare_comma : {c s x : ℕ} {v : List ℕ} → In comma x → Escaped c s v → Escaped (suc c) s (x ∷ v)
  bare_semicolon : {c s x : ℕ} {v : List ℕ} → In semicolon x → Escaped c s v → Escaped c (suc s) (x ∷ v)
  escape : {c s b x : ℕ} {v : List ℕ} → In backslash b → In escapee x → Escaped c s v → Escaped c s (b ∷ x ∷ v)

-- no bare comma
abbrev pub Text : List ℕ → Type 0
Text v = (s : ℕ) × Escaped 0 s v

-- any number of bare commas
abbrev pub Texts : List ℕ → Type 0
Texts v = (c : ℕ) × (s : ℕ) × Escaped c s v

-- so many bare semicolons
abbrev pub Semicolons : ℕ → List ℕ → Type 0
Semicolons n v = (c : ℕ) × Escaped c n v

-- from lo to hi components, one more than there are bare semicolons
abbrev pub Components : ℕ → ℕ → List ℕ → Type 0
Components lo hi v = (n : ℕ) × (lo ≤ suc n) × (suc n ≤ hi) × Semicolons n v

-- a letter, then letters, digits, `+`, `-`, `.`, then `:`, then octets 21-7E only
abbrev pub Uri : List ℕ → Type 0
Uri v =
    (x : ℕ) × (a : List ℕ) × (m : ℕ) × (b : List ℕ)
    × (v ≡ x ∷ a ++ m ∷ b) × In letter x × All scheme a × In colon m × All graphic b

-- empty or one of M F O N U in any case, then optionally `;` and text
abbrev pub Gender : List ℕ → Type 0
Gender v =
    (a : List ℕ) × (b : List ℕ) × (v ≡ a ++ b)
    × ((a ≡ []) ⊎ ((x : ℕ) × (a ≡ x ∷ []) × In sex x))
    × ((b ≡ []) ⊎ ((m : ℕ) × (t : List ℕ) × (b ≡ m ∷ t) × In semicolon m × Text t))

-- one or more digits, `;`, URI
abbrev pub Pidmap : List ℕ → Type 0
Pidmap v =
    (x : ℕ) × (a : List ℕ) × (m : ℕ) × (b : List ℕ)
    × (v ≡ x ∷ a ++ m ∷ b) × In digit x × All digit a × In semicolon m × Uri b

-- A character at the start of a text, texts of allowed characters, and the first octet that is in none, by RFC 3629's grammar. Assumes nothing.
use Rattle.std.specs.Prelude.{ℕ, ◌<◌, ◌≡◌, Bool, true, List, [], ◌∷◌, ◌++◌, length, take, drop, get_or}
use Rattle.utf8.specs.Rfc3629.{Character}

-- the character c stands at the start of l
abbrev pub Begins : List ℕ → List ℕ → Type 0
Begins l c = Character c × ((r : List ℕ) × (l ≡ c ++ r))

-- UTF8-octets where p allows the first octet of each character
pub data Text (p : ℕ → Bool) : List ℕ → Type 0 where
  none : Text p []
  more : {c l : List ℕ} → Character c → p (get_or c 0 0) ≡ true → Text p l → Text p (c ++ l)

-- no character stands at the start of l whose first octet p allows
abbrev pub Stops : (ℕ → Bool) → List ℕ → Type 0
Stops p l = (c : List ℕ) → Begins l c → p (get_or c 0 0) ≡ true → ⊥

-- allowed characters before k, and none at k
pub record BadAt (p : ℕ → Bool) (l : List ℕ) (k : ℕ) : Type 0 where
  pub inside : k < length l
  pub before : Text p (take k l)
  pub there : Stops p (drop k l)

-- p allows each octet of a list
unfoldable pub Each : (ℕ → Bool) → List ℕ → Type 0
Each p [] = Unit {0}
Each p (x ∷ xs) = (p x ≡ true) × Each p xs

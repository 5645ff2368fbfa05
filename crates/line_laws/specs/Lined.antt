-- Raw lines and logical lines in plain words: folds, ends of lines, and an input split into its lines. Assumes nothing.
use Rattle.std.specs.Prelude.{ℕ, suc, ◌+◌, ◌≡◌, List, [], ◌∷◌, ◌++◌, ◌⊎◌, get_or}

-- a space or a tab
abbrev pub Blank : ℕ → Type 0
Blank b = (b ≡ 32) ⊎ (b ≡ 9)

-- r is the line l with any number of folds in it, each "CR LF followed by one space or tab"
pub data Folded : List ℕ → List ℕ → Type 0 where
  end : Folded [] []
  octet : {b : ℕ} {l r : List ℕ} → Folded l r → Folded (b ∷ l) (b ∷ r)
  fold : {b : ℕ} {l r : List ℕ} → Blank b → Folded l r → Folded l (13 ∷ 10 ∷ b ∷ r)

-- octet o of the line l stands at p in r, which is l with folds in it: after all the folds before it; the end of l stands at the end of r
pub data At : List ℕ → List ℕ → ℕ → ℕ → Type 0 where
  ends : At [] [] 0 0
  here : {b : ℕ} {l r : List ℕ} → Folded l r → At (b ∷ l) (b ∷ r) 0 0
  next : {b o p : ℕ} {l r : List ℕ} → At l r o p → At (b ∷ l) (b ∷ r) (suc o) (suc p)
  past : {b o p : ℕ} {l r : List ℕ} → Blank b → At l r o p → At l (13 ∷ 10 ∷ b ∷ r) o (3 + p)

-- no octet is CR or LF
unfoldable pub Unbroken : List ℕ → Type 0
Unbroken [] = Unit {0}
Unbroken (b ∷ l) = ((b ≡ 13 → ⊥) × (b ≡ 10 → ⊥)) × Unbroken l

-- neither a space nor a tab stands first, so that a CR LF before it is no fold
unfoldable pub Unled : List ℕ → Type 0
Unled l = (get_or l 0 0 ≡ 32 → ⊥) × (get_or l 0 0 ≡ 9 → ⊥)

-- i is the raw lines rs in order, each ended by a CR LF that no space or tab follows; without their folds they are the logical lines ls,
-- which have no CR and no LF
pub data Lined : List ℕ → List (List ℕ) → List (List ℕ) → Type 0 where
  no_line : Lined [] [] []
  and_then : {i l r : List ℕ} {rs ls : List (List ℕ)} → Folded l r → Unbroken l → Unled i → Lined i rs ls → Lined (r ++ (13 ∷ 10 ∷ i)) (r ∷ rs) (l ∷ ls)

-- "last two octets" are CR LF
abbrev pub EndsCrLf : List ℕ → Type 0
EndsCrLf i = (j : List ℕ) × (i ≡ j ++ (13 ∷ 10 ∷ []))

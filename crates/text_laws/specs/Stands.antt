-- Text with escapes, as REFERENCE, Escaping draws it: the text that it stands for, and its faults. Assumes nothing.
use Rattle.std.specs.Prelude.{ℕ, ◌≡◌, List, [], ◌∷◌}
use Rattle.octets.specs.Ascii as ascii

-- the five escapes: what follows the backslash, and the octet that the two stand for
pub data Escape : ℕ → ℕ → Type 0 where
  backslash : Escape ascii.backslash ascii.backslash
  comma : Escape ascii.comma ascii.comma
  semicolon : Escape ascii.semicolon ascii.semicolon
  small_n : Escape ascii.small_n ascii.lf
  capital_n : Escape ascii.capital_n ascii.lf

-- octets as written, and those that they stand for: any octet but comma and backslash stands for itself
pub data Stands : List ℕ → List ℕ → Type 0 where
  none : Stands [] []
  itself : {x : ℕ} {w t : List ℕ} → (x ≡ ascii.comma → ⊥) → (x ≡ ascii.backslash → ⊥) → Stands w t → Stands (x ∷ w) (x ∷ t)
  escape : {y x : ℕ} {w t : List ℕ} → Escape y x → Stands w t → Stands (ascii.backslash ∷ y ∷ w) (x ∷ t)

-- a fault at the start: a bare comma, or a backslash that starts no escape
pub data Faulty : List ℕ → Type 0 where
  bare_comma : {w : List ℕ} → Faulty (ascii.comma ∷ w)
  last_backslash : Faulty (ascii.backslash ∷ [])
  bare_backslash : {y : ℕ} {w : List ℕ} → ((x : ℕ) → Escape y x → ⊥) → Faulty (ascii.backslash ∷ y ∷ w)

-- Labels, as REFERENCE, Labels draws them by RFC 6350 and RFC 6868: what a label stands for, and what a rule can write. Assumes nothing.
use Rattle.std.specs.Prelude.{ℕ, ◌<◌, ◌≡◌, List, [], ◌∷◌, ◌⊎◌, length, get_or, take}
use Rattle.octets.specs.Ascii as ascii
use Rattle.label_carets.specs.declared.Rule.{Rule}
use Rattle.label_carets.specs.declared.Rule.TheVariants.{Rfc6350, Rfc6868}

-- the three pairs: what follows the caret, and the octet that the two stand for
pub data Pair : ℕ → ℕ → Type 0 where
  newline : Pair ascii.small_n ascii.lf
  caret : Pair ascii.caret ascii.caret
  quote : Pair ascii.apostrophe ascii.quote

-- any other caret: nothing follows it, or an octet that makes no pair
pub data Lone : List ℕ → Type 0 where
  last : Lone []
  before : {y : ℕ} {w : List ℕ} → ((x : ℕ) → Pair y x → ⊥) → Lone (y ∷ w)

-- octets as written, and those that they stand for: an octet other than a caret stands for itself under either rule, a caret by RFC 6350 too;
-- by RFC 6868 a pair stands for its octet, and any other caret for itself, with what follows it read anew
pub data Reads : Rule → List ℕ → List ℕ → Type 0 where
  none : {r : Rule} → Reads r [] []
  itself : {r : Rule} {b : ℕ} {w v : List ℕ} → (b ≡ ascii.caret → ⊥) → Reads r w v → Reads r (b ∷ w) (b ∷ v)
  old_caret : {w v : List ℕ} → Reads Rfc6350 w v → Reads Rfc6350 (ascii.caret ∷ w) (ascii.caret ∷ v)
  pair : {y x : ℕ} {w v : List ℕ} → Pair y x → Reads Rfc6868 w v → Reads Rfc6868 (ascii.caret ∷ y ∷ w) (x ∷ v)
  lone : {w v : List ℕ} → Lone w → Reads Rfc6868 w v → Reads Rfc6868 (ascii.caret ∷ w) (ascii.caret ∷ v)

-- no octet is a caret
pub data Caretless : List ℕ → Type 0 where
  none : Caretless []
  more : {b : ℕ} {w : List ℕ} → (b ≡ ascii.caret → ⊥) → Caretless w → Caretless (b ∷ w)

-- what a rule asks of an octet of a value: RFC 6350 can't write a newline or a quote mark
abbrev pub Says : Rule → ℕ → Type 0
Says Rfc6350 b = (b ≡ ascii.lf → ⊥) × (b ≡ ascii.quote → ⊥)
Says Rfc6868 b = Unit {0}

-- a rule can write each octet of a value
pub data Sayable (r : Rule) : List ℕ → Type 0 where
  none : Sayable r []
  more : {b : ℕ} {l : List ℕ} → Says r b → Sayable r l → Sayable r (b ∷ l)

-- the first newline or quote mark of a value stands at p
pub record Unsaid (t : List ℕ) (p : ℕ) : Type 0 where
  pub inside : p < length t
  pub before : Sayable Rfc6350 (take p t)
  pub there : (get_or t p 0 ≡ ascii.lf) ⊎ (get_or t p 0 ≡ ascii.quote)

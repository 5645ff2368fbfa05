-- A text without backslash and comma has no fault, and stands for itself. Assumes nothing.
use mathlib.Core.Path.{◌≡◌, refl, ap, ◌∙◌}
use mathlib.Core.Bool.{false, ◌||◌}
use mathlib.Core.List.{List, [], ◌∷◌}
use Prim.Native.Nat.{ℕ}
use lib.Dec.{eqb}
use lib.ListN.{length}
use Rattle.octets.specs.Counts.{any}
use Rattle.octets.specs.Scan.{scan, gather}
use Rattle.text_marks.specs.Marks.{backslash}
use Rattle.text_marks.specs.Seen.{held}
use Rattle.octets.proofs.Bools.{or_none_left, or_none_right}
use Rattle.text_unescaping.specs.Unescaped.{first_fault, unescaped}
use Rattle.text_unescaping.proofs.UnescapeLaws.{first_octet}
use Rattle.text_unescaping.proofs.PairLaws.{flat, fault_past}

bare_octet : (b : ℕ) → held 44 44 b ≡ false → (backslash b ≡ false) × (eqb b 44 ≡ false)
unfolding held
bare_octet b e =
    let h = or_none_left (backslash b || eqb b 44) (eqb b 44 || eqb b 44) e in
    (or_none_left (backslash b) (eqb b 44) h, or_none_right (backslash b) (eqb b 44) h)

empty : (first_fault [] ≡ 0) × (unescaped [] ≡ [])
unfolding first_fault scan unescaped gather
empty = (refl, refl)

pub bare : (s : List ℕ) → any (held 44 44) s ≡ false → (first_fault s ≡ length s) × (unescaped s ≡ s)
unfolding any
bare [] e = empty
bare (x ∷ xs) e =
    let h = bare_octet x (or_none_left (held 44 44 x) (any (held 44 44) xs) e) in
    let r = bare xs (or_none_right (held 44 44 x) (any (held 44 44) xs) e) in
    (fault_past x xs h.0 h.1 r.0, first_octet x xs (flat x xs h.0) ∙ ap (λ (l : List ℕ). x ∷ l) r.1)

-- A text breaks off at one octet at most, and where two properties are one it breaks off alike. Assumes nothing.
use mathlib.Core.Path.{◌≡◌, refl, ap, subst}
use mathlib.Core.List.{List, [], ◌∷◌, ◌++◌}
use mathlib.Core.Logic.{◌↔◌}
use Prim.Native.Nat.{ℕ, zero, suc, ◌<◌, ◌≤◌}
use native.Mathlib.Omega.{arith}
use lib.Dec.{ltb}
use lib.ListN.{take}
use borrow.Author.Tests.{ltb-true, ltb-false}
use Rattle.octets.proofs.Bools.{by}
use Rattle.value_laws.specs.Dead.{Dead}

-- a longer part of a text is a continuation of a shorter one
longer : (n m : ℕ) (v w : List ℕ) → n ≤ m → (z : List ℕ) × (take m v ++ w ≡ take n v ++ z)
longer zero m v w h = (take m v ++ w, refl)
longer (suc n) zero v w h = absurd (omega arith)
longer (suc n) (suc m) [] w h = (w, refl)
longer (suc n) (suc m) (x ∷ v) w h =
    let k = longer n m v w (omega arith) in
    (k.0, ap (λ (l : List ℕ). x ∷ l) k.1)

module _ (P : List ℕ → Type 0) (v : List ℕ) (n m : ℕ) where
  not_before : Dead P v n → Dead P v m → n < m → ⊥
  not_before g h l =
      let k = longer (suc n) m v h.goes_on.0 l in
      g.no_more (omega (arith, h.inside)) k.0 (subst P k.1 h.goes_on.2)

-- it is one octet, or the end
pub dead_once : (P : List ℕ → Type 0) (v : List ℕ) (n m : ℕ) → Dead P v n → Dead P v m → n ≡ m
dead_once P v n m g h =
    by (ltb n m) (λ e. absurd (not_before P v n m g h (ltb-true n m e)))
    (λ e. by (ltb m n) (λ f. absurd (not_before P v m n h g (ltb-true m n f))) (λ f. omega (arith, ltb-false n m e, ltb-false m n f)))

-- it goes by which texts are of P alone
pub dead_alike : (P Q : List ℕ → Type 0) → ((w : List ℕ) → P w ↔ Q w) → (v : List ℕ) (o : ℕ) → Dead P v o → Dead Q v o
dead_alike P Q f v o h =
    record {
      unfit = λ q. h.unfit ((f v).1 q);
      inside = h.inside;
      goes_on = (h.goes_on.0, h.goes_on.1, (f _).0 h.goes_on.2);
      no_more = λ l w q. h.no_more l w ((f _).1 q);
    }

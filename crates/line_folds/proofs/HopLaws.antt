-- Octets that are no CR, one and sixteen at a time. Assumes nothing.
use mathlib.Core.Path.{◌≡◌, sym, ap, ◌∙◌}
use mathlib.Core.Bool.{Bool, true, false, not, true≢false}
use mathlib.Core.List.{List}
use Prim.Native.Nat.{ℕ, zero, suc, ◌+◌, ◌<◌, ◌≤◌}
use native.Mathlib.Nat.{add-zero}
use native.Mathlib.Omega.{arith}
use lib.Dec.{eqb}
use lib.Bits.{bit_or}
use lib.ListN.{length, get_or, drop}
use borrow.Author.Tests.{eq-eqb, ne_eqb}
use mir.Val.{bool_byte}
use Rattle.octets.specs.Classes.{run}
use Rattle.line_folds.specs.Folds.{not_cr}
use Rattle.octets.proofs.BitLaws.{byte_no, or_zero_right}
use Rattle.octets.proofs.Runs.{run_step}

pub unmarked : (a x : ℕ) → bit_or a (bool_byte (eqb x 13)) ≡ 0 → x ≡ 13 → ⊥
unmarked a x e q = true≢false (sym (eq-eqb x 13 q) ∙ byte_no (eqb x 13) (or_zero_right a (bool_byte (eqb x 13)) e))

pub no_cr : (x : ℕ) → (x ≡ 13 → ⊥) → not_cr x ≡ true
unfolding not_cr
no_cr x h = ap not (ne_eqb x 13 h)

pub a_cr : (x : ℕ) → x ≡ 13 → not_cr x ≡ false
unfolding not_cr
a_cr x h = ap not (eq-eqb x 13 h)

-- n octets that satisfy the test are passed at once
pub run_many : (p : ℕ → Bool) (s : List ℕ) (i n : ℕ) → i + n ≤ length s → ((k : ℕ) → k < n → p (get_or s (i + k) 0) ≡ true)
    → i + run p (drop i s) ≡ (i + n) + run p (drop (i + n) s)
run_many p s i zero h all = ap (λ (m : ℕ). m + run p (drop m s)) (sym (add-zero i))
run_many p s i (suc n) h all =
    let e : i + n + 1 ≡ i + suc n = omega arith in
    run_many p s i n (omega arith) (λ k l. all k (omega arith))
    ∙ run_step p s (i + n) (omega arith) (all n (omega arith))
    ∙ ap (λ (m : ℕ). m + run p (drop m s)) e

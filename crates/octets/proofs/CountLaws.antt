-- The laws of `all_in` and `count` along a list, as a loop with no way out goes. Assumes nothing.
use mathlib.Core.Path.{◌≡◌, ap, ◌∙◌}
use mathlib.Core.Bool.{Bool, not, ◌&&◌, and-true, not-not}
use mathlib.Core.List.{List}
use Prim.Native.Nat.{ℕ, ◌+◌, ◌<◌, ◌≤◌}
use native.Mathlib.Nat.{add-zero}
use native.Mathlib.Numerals.{add-one}
use native.Mathlib.Omega.{arith}
use lib.Dec.{eqb}
use lib.Bits.{bit_or}
use lib.ListN.{length, get_or, drop, drop_of_length-le}
use lib.Seq.{drop-cons}
use Rattle.octets.specs.Classes.{bit}
use Rattle.octets.specs.Counts.{all_in, count}
use Rattle.octets.proofs.Marks.{mark_step}

module _ (p : ℕ → Bool) (s : List ℕ) (i : ℕ) where
  all_at : i < length s → all_in p (drop i s) ≡ (not (not (p (get_or s i 0))) && all_in p (drop (i + 1) s))
  unfolding all_in
  all_at h = rw (add-one, drop-cons s i 0, not-not)

  pub all_step : i < length s → (a x : ℕ) → x ≡ bit (not (p (get_or s i 0))) 1
      → (eqb a 0 && all_in p (drop i s)) ≡ (eqb (bit_or a x) 0 && all_in p (drop (i + 1) s))
  all_step h a x e =
      ap (λ (t : Bool). eqb a 0 && t) (all_at h) ∙ mark_step a x (not (p (get_or s i 0))) (all_in p (drop (i + 1) s)) e

  pub all_end : length s ≤ i → (a : ℕ) → (eqb a 0 && all_in p (drop i s)) ≡ eqb a 0
  unfolding all_in
  all_end h a = rw (drop_of_length-le s h, and-true)

  pub count_step : i < length s → (n x : ℕ) → x ≡ bit (p (get_or s i 0)) 1 → n + count p (drop i s) ≡ (n + x) + count p (drop (i + 1) s)
  unfolding count
  count_step h n x e = rw (add-one, drop-cons s i 0, e) (omega arith)

  pub count_end : length s ≤ i → (n : ℕ) → n + count p (drop i s) ≡ n
  unfolding count
  count_end h n = rw (drop_of_length-le s h, add-zero)

-- Numbers of 32 bits with a sign: what a local holds is read back, and the sign taken off. Assumes nothing.
use mathlib.Core.Path.{◌≡◌, refl, sym, ap, ◌∙◌}
use mathlib.Core.Bool.{true, false, false≢true}
use Prim.Native.Nat.{zero, suc, ◌≤◌}
use native.Mathlib.Omega.{arith}
use lib.Dec.{T}
use lib.IntN.{ℤ, pos, negsuc, neg_ℤ, nat_abs, ◌-ℤ◌, +ℤ_idl}
use lib.Signed.{lt_z, non_neg}
use borrow.Author.Tests.{ltb-true}
use mir.Syntax.{w32}
use mir.Val.{to_z, of_z, SFits}
use mir.ValLaws.{to_z-of_z}
use Rattle.value_offsets.specs.Minutes.{most_minutes}

pub fits : (z : ℤ) → nat_abs z ≤ most_minutes → SFits w32 z
fits (pos n) h = record { sfits = omega arith }
fits (negsuc n) h = record { sfits = omega arith }

pub back : (z : ℤ) → nat_abs z ≤ most_minutes → to_z w32 (of_z w32 z) ≡ z
back z h = to_z-of_z w32 z (fits z h)

pub abs_neg : (z : ℤ) → nat_abs (neg_ℤ z) ≡ nat_abs z
abs_neg (pos zero) = refl
abs_neg (pos (suc n)) = refl
abs_neg (negsuc n) = refl

pub small_neg : (z : ℤ) → nat_abs z ≤ most_minutes → nat_abs (neg_ℤ z) ≤ most_minutes
small_neg z h = rw (abs_neg z) h

pub less : (z : ℤ) → nat_abs z ≤ most_minutes → pos 0 -ℤ to_z w32 (of_z w32 z) ≡ neg_ℤ z
less z h = ap (λ (y : ℤ). pos 0 -ℤ y) (back z h) ∙ +ℤ_idl (neg_ℤ z)

pub less_back : (z : ℤ) → nat_abs z ≤ most_minutes → to_z w32 (of_z w32 (pos 0 -ℤ to_z w32 (of_z w32 z))) ≡ neg_ℤ z
less_back z h = ap (λ (y : ℤ). to_z w32 (of_z w32 y)) (less z h) ∙ back (neg_ℤ z) (small_neg z h)

pub below : (z : ℤ) → lt_z z (pos 0) ≡ true → T (non_neg (neg_ℤ z))
below (pos n) e = absurd (omega (arith, ltb-true n 0 e))
below (negsuc n) e = tt

pub above : (z : ℤ) → lt_z z (pos 0) ≡ false → T (non_neg z)
above (pos n) e = tt
above (negsuc n) e = absurd (false≢true (sym e))

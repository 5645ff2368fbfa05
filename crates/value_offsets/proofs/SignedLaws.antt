-- Minutes that fit 32 bits, ahead and behind. Assumes nothing.
use mathlib.Core.Path.{◌≡◌, refl, sym, ap, subst, ◌∙◌}
use mathlib.Core.Bool.{Bool, true, false}
use Prim.Native.Nat.{ℕ, zero, suc, ◌<◌, ◌≤◌}
use native.Mathlib.Omega.{arith}
use lib.IntN.{ℤ, pos, neg_ℤ, nat_abs, ◌-ℤ◌, +ℤ_idl}
use lib.Signed.{mag}
use mir.Syntax.{w32}
use mir.Val.{to_z, SFits}
use mir.ValLaws.{to_z_pos}
use Rattle.value_offsets.specs.Minutes.{most_minutes, signed}

small : (n : ℕ) → n ≤ most_minutes → mag (neg_ℤ (pos n)) < 2147483648
small zero h = omega arith
small (suc n) h = omega arith

pub signed_fits : (b : Bool) (n : ℕ) → n ≤ most_minutes → SFits w32 (signed b n)
unfolding signed
signed_fits true n h = record { sfits = small n h }
signed_fits false n h = record { sfits = omega arith }

-- the number as 32 bits is read as itself, and so is what it lacks to 0
pub here : (n : ℕ) → n ≤ most_minutes → to_z w32 n ≡ pos n
here n h = to_z_pos w32 n (omega arith)

pub less : (n : ℕ) → n ≤ most_minutes → pos 0 -ℤ to_z w32 n ≡ signed true n
unfolding signed
less n h = ap (λ (z : ℤ). pos 0 -ℤ z) (here n h) ∙ +ℤ_idl (neg_ℤ (pos n))

pub less_fits : (n : ℕ) → n ≤ most_minutes → SFits w32 (pos 0 -ℤ to_z w32 n)
less_fits n h = subst (SFits w32) (sym (less n h)) (signed_fits true n h)

pub signed_size : (b : Bool) (n : ℕ) → nat_abs (signed b n) ≡ n
unfolding signed
signed_size true zero = refl
signed_size true (suc n) = refl
signed_size false n = refl

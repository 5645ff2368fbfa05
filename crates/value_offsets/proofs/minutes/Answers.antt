-- `value_offsets::minutes` meets its contract. Assumes nothing.
use mathlib.Core.Path.{sym, ap, subst, ◌∙◌}
use Prim.Native.Nat.{◌≤◌}
use lib.IntN.{ℤ, nat_abs}
use mir.Syntax.{w32}
use mir.Val.{SFits}
use mir.ValLaws.{to_z-of_z}
use Rattle.value_offsets.specs.Minutes.{most_minutes, minutes_of}
use Rattle.value_offsets.specs.declared.Offset.TheVariants.{Minutes}
use Rattle.value_offsets.proofs.SignedLaws.{signed_fits, signed_size}
use Rattle.value_offsets.proofs.minutes.Goals as goal

pub returns-in-Breaks : goal.returns-in-Breaks
unfolding minutes_of
returns-in-Breaks c = record { value = simp (sym c.value_fault-f.ensures ∙ c.in-Breaks.is, c.number.ensures); bounded = tt }

pub returns : goal.returns
unfolding minutes_of
returns c =
    let fits = subst (SFits w32) (sym c.signed.ensures) (signed_fits c.is_behind.result c.time_of.result c.time_of.ensures.upper_bound) in
    let back = to_z-of_z w32 c.signed.result fits in
    let size = ap nat_abs c.signed.ensures ∙ signed_size c.is_behind.result c.time_of.result in record {
      value = ap Minutes back
          ∙ rw (c.signed.ensures, c.is_behind.ensures, c.time_of.ensures.value, sym c.value_fault-f.ensures ∙ c.in_default.is);
      bounded = (subst (λ (z : ℤ). nat_abs z ≤ most_minutes) (sym back) (rw size c.time_of.ensures.upper_bound));
    }

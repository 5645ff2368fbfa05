-- `value_offsets::pair_at` meets its contract. Assumes nothing.
use native.Mathlib.Omega.{arith}
use Rattle.value_offsets.specs.Minutes.{pair_at}
use Rattle.value_offsets.proofs.pair_at.Goals as goal

pub returns : goal.returns
unfolding pair_at
returns c = record { value = rw (c.digit_at-tens.ensures.value, c.digit_at-ones.ensures.value); upper_bound = omega arith }

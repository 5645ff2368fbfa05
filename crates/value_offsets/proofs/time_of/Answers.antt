-- `value_offsets::time_of` meets its contract. Assumes nothing.
use native.Mathlib.Omega.{arith}
use Rattle.value_offsets.specs.Minutes.{time_of}
use Rattle.value_offsets.proofs.time_of.Goals as goal

pub returns : goal.returns
unfolding time_of
returns c = record { value = rw (c.pair_at-hours.ensures.value, c.pair_at-minutes.ensures.value); upper_bound = omega arith }

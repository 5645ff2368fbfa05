-- `replay_script::numerals::read_four` meets its contract. Assumes nothing.
use native.Mathlib.Omega.{arith}
use Rattle.replay_script.specs.Numerals.{four_at}
use Rattle.replay_script.proofs.numerals.read_four.Goals as goal

pub returns : goal.returns
unfolding four_at
returns c = omega arith

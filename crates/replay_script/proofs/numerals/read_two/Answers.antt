-- `replay_script::numerals::read_two` meets its contract. Assumes nothing.
use native.Mathlib.Omega.{arith}
use Rattle.replay_script.specs.Numerals.{two_at}
use Rattle.replay_script.proofs.numerals.read_two.Goals as goal

pub returns : goal.returns
unfolding two_at
returns c = (omega arith, omega arith)

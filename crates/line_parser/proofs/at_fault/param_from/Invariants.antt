-- `line_parser::at_fault::param_from` meets its contract. Assumes nothing.
use mathlib.Core.Path.{◌≡◌}
use Prim.Native.Nat.{ℕ, suc, ◌-◌, ◌<◌}
use lib.ListN.{length}
use Rattle.line_parser.specs.AtFault.{param_from}
use Rattle.line_parser.proofs.at_fault.param_from.Given as goal

abbrev pub invariant-loop-at : goal.invariant-loop-at
invariant-loop-at l = (n : ℕ) × (length l.s - l.at < n) × (param_from (suc (length l.s)) l.from l.s ≡ param_from n l.at l.s)

abbrev pub decreases-loop-at : goal.decreases-loop-at
decreases-loop-at l = length l.s - l.at

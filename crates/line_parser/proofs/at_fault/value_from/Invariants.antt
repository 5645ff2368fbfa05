-- `line_parser::at_fault::value_from` meets its contract. Assumes nothing.
use mathlib.Core.Path.{◌≡◌}
use Prim.Native.Nat.{ℕ, suc, ◌-◌, ◌<◌}
use lib.ListN.{length}
use Rattle.line_parser.specs.AtFault.{value_from}
use Rattle.line_parser.proofs.at_fault.value_from.Given as goal

abbrev pub invariant-loop-start : goal.invariant-loop-start
invariant-loop-start l = (n : ℕ) × (length l.s - l.start < n) × (value_from (suc (length l.s)) l.from l.s ≡ value_from n l.start l.s)

abbrev pub decreases-loop-start : goal.decreases-loop-start
decreases-loop-start l = length l.s - l.start

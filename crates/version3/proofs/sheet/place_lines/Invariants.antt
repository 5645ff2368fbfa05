-- `version3::sheet::place_lines` meets its contract. Assumes nothing.
use mathlib.Core.Path.{◌≡◌}
use Prim.Native.Nat.{◌-◌}
use lib.ListN.{length}
use Rattle.version3.specs.Places.{Halfway}
use Rattle.version3.proofs.sheet.place_lines.Given as goal

abbrev pub invariant-loop-at : goal.invariant-loop-at
invariant-loop-at l = (length l.scratch ≡ length l.initial.scratch) × (length l.form ≡ length l.initial.form) × (length l.first ≡ length l.initial.first) × (length l.second ≡ length l.initial.second) × (length l.others ≡ length l.initial.others) × Halfway l.way l.s l.first l.second l.others l.at l.e

abbrev pub decreases-loop-at : goal.decreases-loop-at
decreases-loop-at l = length l.s - l.at

-- `console_entries::rooms::are_kept` meets its contract. Assumes nothing.
use Prim.Native.Nat.{◌-◌}
use mathlib.Core.Path.{◌≡◌}
use lib.ListN.{length, drop}
use Rattle.console_entries.specs.Rooms.{number_fill, all}
use Rattle.console_entries.proofs.rooms.are_kept.Given as goal

abbrev pub invariant-loop-i : goal.invariant-loop-i
invariant-loop-i l = all number_fill (drop l.from l.room) ≡ all number_fill (drop l.i l.room)

abbrev pub decreases-loop-i : goal.decreases-loop-i
decreases-loop-i l = length l.room - l.i

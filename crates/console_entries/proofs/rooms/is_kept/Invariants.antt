-- `console_entries::rooms::is_kept` meets its contract. Assumes nothing.
use Prim.Native.Nat.{◌-◌}
use mathlib.Core.Path.{◌≡◌}
use lib.ListN.{length, drop}
use Rattle.console_entries.specs.Rooms.{octet_fill, all}
use Rattle.console_entries.proofs.rooms.is_kept.Given as goal

abbrev pub invariant-loop-i : goal.invariant-loop-i
invariant-loop-i l = all octet_fill (drop l.from l.room) ≡ all octet_fill (drop l.i l.room)

abbrev pub decreases-loop-i : goal.decreases-loop-i
decreases-loop-i l = length l.room - l.i

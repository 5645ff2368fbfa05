-- `desk_slots::Table::find_idle` meets its contract. Assumes nothing.
use mathlib.Core.Path.{◌≡◌}
use Rattle.desk_entries.specs.Search.{lowest_of}
use Rattle.desk_slots.specs.Slots.{idle_at}
use Rattle.desk_slots.proofs.Table.find_idle.Given as goal

abbrev pub invariant-loop-i : goal.invariant-loop-i
invariant-loop-i l = l.lowest ≡ lowest_of (idle_at l.self.entries l.self.stamps l.now) l.i

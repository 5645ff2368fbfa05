-- `desk_slots::Table::look_along` meets its contract. Assumes nothing.
use Rattle.desk_slots.proofs.LookLaws.{Looked}
use Rattle.desk_slots.proofs.Table.look_along.Given as goal

abbrev pub invariant-loop-i : goal.invariant-loop-i
invariant-loop-i l = Looked l.self.entries l.self.slots l.self.next l.self.stamps l.self.tick l.t l.ts l.highest l.found l.run l.i

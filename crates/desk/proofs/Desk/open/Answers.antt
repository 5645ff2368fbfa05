-- `desk::Desk::open` meets its contract. Assumes nothing.
use mathlib.Core.Path.{sym, ap, ◌∙◌}
use native.Mathlib.Omega.{arith}
use lib.ListN.{length}
use Rattle.std.specs.Prelude.{Ok}
use Rattle.desk_slots.specs.Slots.{position}
use Rattle.desk_slots.proofs.SlotLaws.{position_short}
use Rattle.desk.specs.Steps.{turned}
use Rattle.desk.specs.declared.Turn.{Turn}
use Rattle.desk.proofs.DeskLaws.{open_barred, open_used, open_left, can_take}
use Rattle.desk.proofs.Desk.open.Goals as goal

pub returns-then-self-eq-TICKETS : goal.returns-then-self-eq-TICKETS
returns-then-self-eq-TICKETS c =
    let a = c.args in
    open_used a.self a.pool.now a.tram a.tick _ (rw c.table.ensures at c.find_slot.ensures.value) _ c.in-Ok.is c.if-self-eq-TICKETS.true _ c.refuse-then-self-eq-TICKETS.ensures

pub begin-requires : goal.begin-requires
begin-requires c =
    let a = c.args in
    (position_short a.self.entries a.self.slots a.self.next a.self.stamps a.self.tick (length a.pool.now) 0 _ (sym (rw c.table.ensures at c.find_slot.ensures.value) ∙ ap position (c.in-Ok.is ∙ ap Ok c.in-Some.is)), omega arith)

pub reclaim-requires : goal.reclaim-requires
reclaim-requires c =
    let a = c.args in
    can_take a.self a.pool.now (sym (rw c.table.ensures at c.find_slot.ensures.value) ∙ ap position (c.in-Ok.is ∙ ap Ok c.in-None.is)) (omega arith)

pub returns-in-Err : goal.returns-in-Err
returns-in-Err c =
    let a = c.args in
    open_barred a.self a.pool.now a.tram a.tick _ (rw c.table.ensures at c.find_slot.ensures.value) _ c.in-Err.is c.in-Err.ensures.start _ c.refuse.ensures

pub returns-in-Some : goal.returns-in-Some
returns-in-Some c =
    let a = c.args in
    ap (λ (r : Turn). turned r a.pool.now) (rw c.higher-now.ensures at c.begin.ensures) ∙ (rw c.in-Some.is at (open_left a.self a.pool.now a.tram a.tick _ (rw c.table.ensures at c.find_slot.ensures.value) _ c.in-Ok.is c.if-self-eq-TICKETS.false))

pub returns-in-None : goal.returns-in-None
returns-in-None c =
    let a = c.args in
    (rw c.higher-now.ensures at c.reclaim.ensures) ∙ (rw c.in-None.is at (open_left a.self a.pool.now a.tram a.tick _ (rw c.table.ensures at c.find_slot.ensures.value) _ c.in-Ok.is c.if-self-eq-TICKETS.false))

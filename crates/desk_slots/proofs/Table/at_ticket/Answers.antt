-- `desk_slots::Table::at_ticket` meets its contract. Assumes nothing.
use mathlib.Core.Path.{sym, ap, ◌∙◌}
use Rattle.desk_slots.specs.Slots.{found}
use Rattle.std.proofs.lemmas.Result.{err_from_is_err_and}
use Rattle.desk_slots.proofs.SlotLaws.{within}
use Rattle.desk_slots.proofs.LookLaws.{barred_start, slot_barred, slot_seen, or_22}
use Rattle.desk_slots.proofs.Table.at_ticket.Goals as goal

pub returns-in_err-seen-clause-slot : goal.returns-in_err-seen-clause-slot
returns-in_err-seen-clause-slot c =
    let a = c.args in
    let p = err_from_is_err_and c.from_residual.result c.from_residual.ensures.1 in
    rw (p.1, p.2) (slot_barred a.self.now.entries a.self.now.slots a.self.now.next a.self.now.stamps a.self.now.tick a.size a.t _ c.checked_look.ensures _ c.in_err-seen.was)

pub returns-in_err-seen-clause-start : goal.returns-in_err-seen-clause-start
returns-in_err-seen-clause-start c =
    let a = c.args in
    let p = err_from_is_err_and c.from_residual.result c.from_residual.ensures.1 in
    rw (p.1, p.2) (barred_start a.self.now.entries a.self.now.slots a.self.now.next a.self.now.stamps a.self.now.tick a.size a.t _ c.checked_look.ensures _ c.in_err-seen.was)

pub returns-clause-slot : goal.returns-clause-slot
returns-clause-slot c =
    let a = c.args in
    ap found c.ok_or.ensures.value ∙ sym (or_22 c.in_ok-seen.seen.found) ∙ slot_seen a.self.now.entries a.self.now.slots a.self.now.next a.self.now.stamps a.self.now.tick a.size a.t _ c.checked_look.ensures _ c.in_ok-seen.was

pub returns-clause-within : goal.returns-clause-within
returns-clause-within c =
    let a = c.args in
    let e = ap found c.ok_or.ensures.value ∙ sym (or_22 c.in_ok-seen.seen.found) ∙ slot_seen a.self.now.entries a.self.now.slots a.self.now.next a.self.now.stamps a.self.now.tick a.size a.t _ c.checked_look.ensures _ c.in_ok-seen.was in
    within a.self.now.entries a.self.now.slots a.self.now.next a.self.now.stamps a.self.now.tick a.size a.t _ e

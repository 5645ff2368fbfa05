-- `desk_slots::Table::find_slot` meets its contract. Assumes nothing.
use Rattle.std.proofs.lemmas.Result.{err_from_is_err_and}
use Rattle.desk_slots.proofs.LookLaws.{barred_start, position_barred, position_free, position_full}
use Rattle.desk_slots.proofs.Table.find_slot.Goals as goal

pub returns-in_err-seen-clause-value : goal.returns-in_err-seen-clause-value
returns-in_err-seen-clause-value c =
    let a = c.args in
    let p = err_from_is_err_and c.from_residual.result c.from_residual.ensures.1 in
    rw (p.1, p.2) (position_barred a.self.now.entries a.self.now.slots a.self.now.next a.self.now.stamps a.self.now.tick a.size _ c.checked_look.ensures _ c.in_err-seen.was)

pub returns-in_err-seen-clause-start : goal.returns-in_err-seen-clause-start
returns-in_err-seen-clause-start c =
    let a = c.args in
    let p = err_from_is_err_and c.from_residual.result c.from_residual.ensures.1 in
    rw (p.1, p.2) (barred_start a.self.now.entries a.self.now.slots a.self.now.next a.self.now.stamps a.self.now.tick a.size 0 _ c.checked_look.ensures _ c.in_err-seen.was)

pub returns-then-seen-self-clause-value : goal.returns-then-seen-self-clause-value
returns-then-seen-self-clause-value c =
    let a = c.args in
    position_free a.self.now.entries a.self.now.slots a.self.now.next a.self.now.stamps a.self.now.tick a.size _ c.checked_look.ensures _ c.in_ok-seen.was c.if-seen-self.true

pub returns-clause-value : goal.returns-clause-value
returns-clause-value c =
    let a = c.args in
    position_full a.self.now.entries a.self.now.slots a.self.now.next a.self.now.stamps a.self.now.tick a.size _ c.checked_look.ensures _ c.in_ok-seen.was c.if-seen-self.false

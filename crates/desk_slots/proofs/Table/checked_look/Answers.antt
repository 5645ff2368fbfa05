-- `desk_slots::Table::checked_look` meets its contract. Assumes nothing.
use mathlib.Core.Path.{sym, ◌∙◌}
use native.Mathlib.Omega.{arith}
use Rattle.desk_slots.proofs.LookLaws.{seen_few, seen_unsized, seen_sized, unseen}
use Rattle.desk_slots.proofs.Table.checked_look.Goals as goal

pub returns-in_default : goal.returns-in_default
returns-in_default c =
    let a = c.args in
    unseen a.self.now.entries a.self.now.slots a.self.now.next a.self.now.stamps a.self.now.tick a.size a.t (sym c.in_default.is ∙ c.look_along.ensures)

pub overflow_mul-self : goal.overflow_mul-self
overflow_mul-self c =
    let a = c.args in
    let h = seen_few a.self.now.entries a.self.now.slots a.self.now.next a.self.now.stamps a.self.now.tick a.size a.t _ (sym c.in-Some.is ∙ c.look_along.ensures) in
    omega arith

pub returns-then-size-self : goal.returns-then-size-self
returns-then-size-self c =
    let a = c.args in
    seen_unsized a.self.now.entries a.self.now.slots a.self.now.next a.self.now.stamps a.self.now.tick a.size a.t _ (sym c.in-Some.is ∙ c.look_along.ensures) c.if-size-self.true

pub returns : goal.returns
returns c =
    let a = c.args in
    seen_sized a.self.now.entries a.self.now.slots a.self.now.next a.self.now.stamps a.self.now.tick a.size a.t _ (sym c.in-Some.is ∙ c.look_along.ensures) c.if-size-self.false

-- `desk_slots::Table::find_idle` meets its contract. Assumes nothing.
use mathlib.Core.Path.{◌≡◌, sym, ap, ◌∙◌}
use native.Mathlib.Omega.{arith}
use Rattle.desk_entries.specs.Search.{lowest_of}
use Rattle.desk_entries.proofs.Searches.{lowest_of_none, lowest_of_more, lowest_mapped, lowest_found}
use borrow.Author.Rules.{rules}
use Rattle.desk_slots.specs.Slots.{idle_at, idle_of}
use Rattle.desk_slots.proofs.Table.find_idle.Goals as goal

pub loop-i-init : goal.loop-i-init
loop-i-init c = sym (lowest_of_none _)

pub loop-i-preserved : goal.loop-i-preserved
loop-i-preserved c =
    let l = c.loop-i in
    let a = c.args in
    let f = idle_at a.self.now.entries a.self.now.stamps a.now in
    c.lower-lowest.ensures ∙ rw (l.invariant, c.idle_ticket-ticket.ensures) (sym (lowest_of_more f l.i))

pub returns : goal.returns
unfolding idle_of
returns c =
    let l = c.loop-i in
    let a = c.args in
    let e : l.i ≡ a.self.now.slots = omega arith in
    let found = l.invariant ∙ ap (lowest_of (idle_at a.self.now.entries a.self.now.stamps a.now)) e in
    lowest_mapped _ _ _ c.map.ensures.cases (λ x y q. search rules) ∙ lowest_found _ _ _ found

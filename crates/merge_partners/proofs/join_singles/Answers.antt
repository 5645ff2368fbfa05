-- `merge_partners::join_singles` meets its contract. Assumes nothing.
use mathlib.Core.Path.{refl, sym, ap, ◌∙◌}
use mathlib.Core.Bool.{true}
use native.Mathlib.Omega.{arith}
use Rattle.merge_partners.specs.Pairs.{joined, join_all}
use Rattle.merge_partners.proofs.JoinLaws.{join_on, join_off}
use Rattle.merge_partners.proofs.WalkLaws.{singles_turn, singles_over}
use Rattle.merge_partners.proofs.join_singles.Goals as goal

pub loop-row-init : goal.loop-row-init
loop-row-init c = (refl)

pub join_row-requires : goal.join_row-requires
join_row-requires c = record { lists = c.table-rows.ensures; row_lt_all = omega (arith, c.loop-row-test.true) }

pub returns-then-not-join_row : goal.returns-then-not-join_row
returns-then-not-join_row c =
    let a = c.args in
    let l = c.loop-row in
    sym (l.invariant ∙ ap (join_all (joined true l.p l.t)) (singles_turn a.x.now.records.now a.x.now.lines a.y.now.records.now a.y.now.lines 39 l.row c.loop-row-test.true) ∙ join_off (joined true l.p l.t) _ _ _ _ c.join_row.ensures _ c.if-not-join_row.true)

pub loop-row-preserved : goal.loop-row-preserved
loop-row-preserved c =
    let a = c.args in
    let l = c.loop-row in
    (l.invariant ∙ ap (join_all (joined true l.p l.t)) (singles_turn a.x.now.records.now a.x.now.lines a.y.now.records.now a.y.now.lines 39 l.row c.loop-row-test.true) ∙ join_on (joined true l.p l.t) _ _ _ _ c.join_row.ensures _ c.if-not-join_row.false)

pub returns : goal.returns
unfolding join_all
returns c =
    let a = c.args in
    let l = c.loop-row in
    sym (l.invariant ∙ rw (singles_over a.x.now.records.now a.x.now.lines a.y.now.records.now a.y.now.lines 39 l.row c.loop-row-test.false))

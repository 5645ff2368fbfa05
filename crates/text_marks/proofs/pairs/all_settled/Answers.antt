-- `text_marks::pairs::all_settled` meets its contract. Assumes nothing.
use mathlib.Core.Path.{sym, ap, ◌∙◌}
use mathlib.Core.Bool.{Bool, ◌&&◌}
use lib.ListN.{drop}
use borrow.Author.Tests.{eq-eqb}
use Rattle.text_marks.specs.Pairs.{settled}
use Rattle.text_marks.proofs.PairLaws.{settled_step, settled_end}
use Rattle.text_marks.proofs.pairs.all_settled.Goals as goal

pub loop-b-preserved : goal.loop-b-preserved
loop-b-preserved c =
    let l = c.loop-b in
    let a = c.args in
    l.invariant ∙ settled_step a.listed a.s.now l.b-index c.loop-b-test.true l.before l.bad c.pair_bit-bad.result c.pair_bit-bad.ensures

pub returns-then-bad-eq0 : goal.returns-then-bad-eq0
returns-then-bad-eq0 c =
    let l = c.loop-b in
    let a = c.args in
    sym (l.invariant ∙ ap (λ (t : Bool). t && settled a.listed l.before (drop l.b-index a.s.now)) (eq-eqb l.bad 0 c.if-bad-eq0.true) ∙ settled_end a.listed a.s.now l.b-index c.loop-b-test.false l.before)

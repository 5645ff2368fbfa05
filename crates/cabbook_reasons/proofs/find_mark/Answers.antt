-- `cabbook_reasons::find_mark` meets its contract. Assumes nothing.
use Rattle.std.proofs.Common.{◌≡◌, refl, sym, ◌∙◌, arith}
use Rattle.cabbook_reasons.proofs.MarkLaws.{mark_here, mark_on, mark_end}
use Rattle.cabbook_reasons.proofs.find_mark.Goals as goal

pub loop-i-init : goal.loop-i-init
loop-i-init c = (refl, omega arith)

pub returns-then-is_mark : goal.returns-then-is_mark
returns-then-is_mark c = sym (mark_here c.args.s.now c.loop-i.i c.loop-i-test.true (sym c.is_mark.ensures ∙ c.if-is_mark.true)) ∙ c.loop-i.invariant.0

pub loop-i-preserved : goal.loop-i-preserved
loop-i-preserved c = (sym (mark_on c.args.s.now c.loop-i.i c.loop-i-test.true (sym c.is_mark.ensures ∙ c.if-is_mark.false)) ∙ c.loop-i.invariant.0, omega arith)

pub returns : goal.returns
returns c =
    let e : c.max.result ≡ c.loop-i.i = omega arith in
    e ∙ sym (mark_end c.args.s.now c.loop-i.i c.loop-i-test.false) ∙ c.loop-i.invariant.0

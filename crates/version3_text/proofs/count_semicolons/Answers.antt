-- `version3_text::count_semicolons` meets its contract. Assumes nothing.
use borrow.Author.Rules.{rules}
use mathlib.Core.Path.{sym, ap, ◌∙◌}
use native.Mathlib.Nat.{zero-add}
use native.Mathlib.Omega.{arith}
use lib.ListN.{length}
use Rattle.version3_text.proofs.RenewLaws.{pair_inside, semicolons_pair, semicolons_one, semicolons_end}
use Rattle.version3_text.proofs.MarkLaws.{semicolons_run}
use Rattle.version3_text.proofs.count_semicolons.Goals as goal

pub loop-i-init : goal.loop-i-init
loop-i-init c = (search rules, search rules, sym (zero-add _))

pub overflow_add-i : goal.overflow_add-i
overflow_add-i c = omega (arith, pair_inside c.args.text.now c.loop-i.i (sym c.is_pair.ensures ∙ c.if-is_pair.true))

pub loop-i-smaller-then-is_pair : goal.loop-i-smaller-then-is_pair
loop-i-smaller-then-is_pair c = omega (arith, pair_inside c.args.text.now c.loop-i.i (sym c.is_pair.ensures ∙ c.if-is_pair.true))

pub loop-i-preserved-then-is_pair : goal.loop-i-preserved-then-is_pair
loop-i-preserved-then-is_pair c =
    let s = c.args.text.now in
    let l = c.loop-i in
    let e = sym c.is_pair.ensures ∙ c.if-is_pair.true in
    (pair_inside s l.i e, omega arith, omega (arith, l.invariant.2, ap length (semicolons_pair s l.i c.loop-i-test.true e)))

pub loop-i-preserved-then-text-i-eq59 : goal.loop-i-preserved-then-text-i-eq59
loop-i-preserved-then-text-i-eq59 c =
    let s = c.args.text.now in
    let l = c.loop-i in
    let e = sym c.is_pair.ensures ∙ c.if-is_pair.false in
    (omega arith, omega arith, omega (arith, l.invariant.2, ap length (semicolons_one s l.i c.loop-i-test.true e c.if-text-i-eq59.true)))

pub loop-i-smaller : goal.loop-i-smaller
loop-i-smaller c = omega (arith, c.next_mark-i.ensures.0, c.next_mark-i.ensures.1)

pub loop-i-preserved : goal.loop-i-preserved
loop-i-preserved c =
    let m = c.next_mark-i in
    let s = c.args.text.now in
    let l = c.loop-i in
    let e = sym c.is_pair.ensures ∙ c.if-is_pair.false in
    (m.ensures.0, omega (arith, m.ensures.1), omega (arith, l.invariant.2, ap length (semicolons_run s l.i c.loop-i-test.true e m.result m.ensures.1 c.if-text-i-eq59.false)))

pub returns : goal.returns
returns c =
    let s = c.args.text.now in
    let l = c.loop-i in
    (omega (arith, l.invariant.2, ap length (semicolons_end s l.i c.loop-i-test.false)), omega arith)

-- `text_unescaping::measure_each` meets its contract. Assumes nothing.
use borrow.Author.Rules.{rules}
use mathlib.Core.Path.{sym, ap, ◌∙◌}
use native.Mathlib.Nat.{zero-add}
use native.Mathlib.Omega.{arith}
use lib.ListN.{length}
use Rattle.text_unescaping.proofs.UnescapeLaws.{escape_inside, escape_not, step_backslash, step_comma, fault_escape, fault_octet, fault_stop, fault_end, unescaped_escape, unescaped_octet, unescaped_end}
use Rattle.text_unescaping.proofs.MeasureLaws.{at_fault, at_end}
use Rattle.text_unescaping.proofs.measure_each.Goals as goal

pub loop-i-init : goal.loop-i-init
loop-i-init c = (search rules, search rules, sym (zero-add _), sym (zero-add _))

pub returns-then-not-escape_at : goal.returns-then-not-escape_at
returns-then-not-escape_at c =
    let s = c.args.text.now in
    let l = c.loop-i in
    let e = sym c.escape_at.ensures ∙ c.if-not-escape_at.true in
    at_fault s l.i (sym (l.invariant.2 ∙ fault_stop s l.i (step_backslash s l.i e c.if-text-i-eq92.true))) c.loop-i-test.true

pub overflow_add-i : goal.overflow_add-i
overflow_add-i c =
    let e = sym c.escape_at.ensures ∙ c.if-not-escape_at.false in
    omega (arith, escape_inside c.args.text.now c.loop-i.i e)

pub loop-i-smaller-then-text-i-eq92 : goal.loop-i-smaller-then-text-i-eq92
loop-i-smaller-then-text-i-eq92 c =
    let e = sym c.escape_at.ensures ∙ c.if-not-escape_at.false in
    omega (arith, escape_inside c.args.text.now c.loop-i.i e)

pub loop-i-preserved-then-text-i-eq92 : goal.loop-i-preserved-then-text-i-eq92
loop-i-preserved-then-text-i-eq92 c =
    let s = c.args.text.now in
    let l = c.loop-i in
    let e = sym c.escape_at.ensures ∙ c.if-not-escape_at.false in
    let h = c.loop-i-test.true in
    (escape_inside s l.i e, omega arith, l.invariant.2 ∙ fault_escape s l.i h e, omega (arith, l.invariant.3, ap length (unescaped_escape s l.i h e)))

pub returns-then-text-i-eq44 : goal.returns-then-text-i-eq44
returns-then-text-i-eq44 c =
    let s = c.args.text.now in
    let l = c.loop-i in
    at_fault s l.i (sym (l.invariant.2 ∙ fault_stop s l.i (step_comma s l.i (escape_not s l.i c.if-text-i-eq92.false) c.if-text-i-eq92.false c.if-text-i-eq44.true))) c.loop-i-test.true

pub loop-i-preserved : goal.loop-i-preserved
loop-i-preserved c =
    let s = c.args.text.now in
    let l = c.loop-i in
    let e = escape_not s l.i c.if-text-i-eq92.false in
    let h = c.loop-i-test.true in
    (omega arith, omega arith, l.invariant.2 ∙ fault_octet s l.i h e c.if-text-i-eq92.false c.if-text-i-eq44.false, omega (arith, l.invariant.3, ap length (unescaped_octet s l.i h e)))

pub returns : goal.returns
returns c =
    let s = c.args.text.now in
    let l = c.loop-i in
    at_end s l.kept (omega (arith, l.invariant.2, fault_end s l.i c.loop-i-test.false)) (omega (arith, l.invariant.3, ap length (unescaped_end s l.i c.loop-i-test.false)))

-- `line_folds::spans::line_end` meets its contract. Assumes nothing.
use mathlib.Core.Path.{sym, ◌∙◌}
use Prim.Native.Nat.{◌≤◌, ◌+◌}
use native.Mathlib.Omega.{arith}
use lib.ListN.{length}
use borrow.Author.Tests.{not-true, not-false}
use Rattle.octets.proofs.Scans.{scan_stop, scan_step, scan_end}
use Rattle.line_folds.specs.Folds.{line_step, line_length}
use Rattle.line_folds.proofs.FoldLaws.{fold_inside, line_fold, line_stop, line_octet}
use Rattle.line_folds.proofs.SpanLaws.{end_from}
use Rattle.line_folds.proofs.spans.line_end.Goals as goal

pub returns-then-not-fold : goal.returns-then-not-fold
unfolding line_length
returns-then-not-fold c =
    let l = c.loop-at in
    let s = c.args.s.now in
    let e = sym c.fold_at-fold.ensures ∙ not-true _ c.if-not-fold.true-raw in
    (sym (l.invariant.1 ∙ scan_stop line_step s l.at (line_stop s l.at e c.if-s-at-eq13.true)), l.invariant.0)

pub overflow_add-at : goal.overflow_add-at
overflow_add-at c = omega (arith, fold_inside c.args.s.now c.loop-at.at (sym c.fold_at-fold.ensures ∙ not-false _ c.if-not-fold.false-raw))

pub loop-at-smaller-then-s-at-eq13 : goal.loop-at-smaller-then-s-at-eq13
loop-at-smaller-then-s-at-eq13 c = omega (arith, fold_inside c.args.s.now c.loop-at.at (sym c.fold_at-fold.ensures ∙ not-false _ c.if-not-fold.false-raw))

pub loop-at-preserved-then-s-at-eq13 : goal.loop-at-preserved-then-s-at-eq13
loop-at-preserved-then-s-at-eq13 c =
    let l = c.loop-at in
    let s = c.args.s.now in
    let e = sym c.fold_at-fold.ensures ∙ not-false _ c.if-not-fold.false-raw in
    let h = fold_inside s l.at e in
    (h, l.invariant.1 ∙ scan_step line_step s l.at 3 (line_fold s l.at e) (omega arith) h)

pub loop-at-preserved-then-met-lt-ONE_BY_ONE : goal.loop-at-preserved-then-met-lt-ONE_BY_ONE
loop-at-preserved-then-met-lt-ONE_BY_ONE c =
    let l = c.loop-at in
    let s = c.args.s.now in
    let h : l.at + 1 ≤ length s = omega arith in
    (h, l.invariant.1 ∙ scan_step line_step s l.at 1 (line_octet s l.at c.if-s-at-eq13.false) (omega arith) h)

pub loop-at-smaller : goal.loop-at-smaller
loop-at-smaller c = omega (arith, c.next_cr-at.ensures.1)

pub loop-at-preserved : goal.loop-at-preserved
unfolding line_length
loop-at-preserved c =
    let l = c.loop-at in
    let s = c.args.s.now in
    let v = c.next_cr-at in
    let h : l.at + 1 ≤ length s = omega arith in
    (v.ensures.0, l.invariant.1 ∙ scan_step line_step s l.at 1 (line_octet s l.at c.if-s-at-eq13.false) (omega arith) h ∙ sym (end_from s (l.at + 1) v.result v.ensures.1))

pub returns : goal.returns
unfolding line_length
returns c = (sym (c.loop-at.invariant.1 ∙ scan_end line_step c.args.s.now c.loop-at.at c.loop-at-test.false), c.loop-at.invariant.0)

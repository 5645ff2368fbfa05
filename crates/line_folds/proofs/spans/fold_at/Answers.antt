-- `line_folds::spans::fold_at` meets its contract. Assumes nothing.
use mathlib.Core.Path.{sym, ◌∙◌}
use native.Mathlib.Omega.{arith}
use Prim.Native.Nat.{◌+◌}
use lib.ListN.{get_or}
use borrow.Author.Tests.{eq-eqb, ne_eqb}
use Rattle.line_folds.proofs.FoldLaws.{fold_eq, fold_short}
use Rattle.line_folds.proofs.spans.fold_at.Goals as goal

pub returns-then-s-i-ne13 : goal.returns-then-s-i-ne13
returns-then-s-i-ne13 c = sym (fold_eq c.args.s.now c.args.i ∙ simp (ne_eqb _ _ c.if-s-i-ne13.true))

pub returns-then-s-i-lt-FOLD_LENGTH : goal.returns-then-s-i-lt-FOLD_LENGTH
returns-then-s-i-lt-FOLD_LENGTH c = sym (fold_short c.args.s.now c.args.i (omega arith))

pub returns-then-s-i-ne10 : goal.returns-then-s-i-ne10
returns-then-s-i-ne10 c = sym (fold_eq c.args.s.now c.args.i ∙ simp (eq-eqb _ _ c.if-s-i-ne13.false, ne_eqb _ _ c.if-s-i-ne10.true))

pub returns-then-s-i-eq32 : goal.returns-then-s-i-eq32
returns-then-s-i-eq32 c = sym (fold_eq c.args.s.now c.args.i ∙ simp (eq-eqb _ _ c.if-s-i-ne13.false, eq-eqb _ _ c.if-s-i-ne10.false, eq-eqb _ _ c.if-s-i-eq32.true))

pub returns : goal.returns
returns c =
    let a = c.args in
    let s = a.s.now in
    let i = a.i in
    let e1 = eq-eqb (get_or s i 0) 13 c.if-s-i-ne13.false in
    let e3 = eq-eqb (get_or s (i + 1) 0) 10 c.if-s-i-ne10.false in
    let e4 = ne_eqb (get_or s (i + 2) 0) 32 c.if-s-i-eq32.false in
    sym (fold_eq s i ∙ rw (e1, e3, e4))

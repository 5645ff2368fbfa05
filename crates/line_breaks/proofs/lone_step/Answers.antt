-- `line_breaks::lone_step` meets its contract. Assumes nothing.
use borrow.Author.Tests.{eq-eqb, ne_eqb}
use mathlib.Core.Path.{sym, ◌∙◌}
use Prim.Native.Nat.{◌+◌, ◌≤◌}
use native.Mathlib.Omega.{arith}
use lib.ListN.{length, get_or-eq_default}
use Rattle.line_breaks.proofs.EndLaws.{step_eq}
use Rattle.line_breaks.proofs.lone_step.Goals as goal

pub returns-then-s-i-eq10 : goal.returns-then-s-i-eq10
returns-then-s-i-eq10 c = sym (step_eq c.args.s.now c.args.i ∙ simp (eq-eqb _ _ c.if-s-i-eq10.true))

pub returns-then-s-i-ne13 : goal.returns-then-s-i-ne13
returns-then-s-i-ne13 c = sym (step_eq c.args.s.now c.args.i ∙ simp (ne_eqb _ _ c.if-s-i-eq10.false, ne_eqb _ _ c.if-s-i-ne13.true))

pub returns-then-s-i-lt2 : goal.returns-then-s-i-lt2
returns-then-s-i-lt2 c =
    let a = c.args in
    let h : length a.s.now ≤ a.i + 1 = omega arith in
    sym (step_eq a.s.now a.i ∙ simp (ne_eqb _ _ c.if-s-i-eq10.false, eq-eqb _ _ c.if-s-i-ne13.false, get_or-eq_default a.s.now 0 h))

pub returns-then-s-i-ne10 : goal.returns-then-s-i-ne10
returns-then-s-i-ne10 c = sym (step_eq c.args.s.now c.args.i ∙ simp (ne_eqb _ _ c.if-s-i-eq10.false, eq-eqb _ _ c.if-s-i-ne13.false, ne_eqb _ _ c.if-s-i-ne10.true))

pub returns : goal.returns
returns c = sym (step_eq c.args.s.now c.args.i ∙ simp (ne_eqb _ _ c.if-s-i-eq10.false, eq-eqb _ _ c.if-s-i-ne13.false, eq-eqb _ _ c.if-s-i-ne10.false))

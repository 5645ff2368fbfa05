-- `line_unfolding::skip_to_fold` meets its contract. Assumes nothing.
use borrow.Author.Rules.{rules}
use Prim.Native.Nat.{◌+◌}
use native.Mathlib.Omega.{arith}
use Rattle.line_folds.proofs.FoldLaws.{not_cr_lem}
use Rattle.line_unfolding.proofs.RunLaws.{flat_none, flat_join, flat_sixteen, flat_run}
use Rattle.line_unfolding.proofs.skip_to_fold.Goals as goal

pub loop-i-init : goal.loop-i-init
loop-i-init c = (search rules, search rules, flat_none c.args.s.now c.args.from)

pub returns-then-has_cr : goal.returns-then-has_cr
returns-then-has_cr c =
    let a = c.args in
    let l = c.loop-i in
    let v = c.next_cr in
    (omega (arith, v.ensures.1), v.ensures.0, flat_join a.s.now a.from l.i v.result l.invariant.2 (flat_run a.s.now l.i v.result v.ensures.1))

pub loop-i-preserved : goal.loop-i-preserved
loop-i-preserved c =
    let a = c.args in
    let l = c.loop-i in
    (omega arith, omega arith, flat_join a.s.now a.from l.i (l.i + 16) l.invariant.2 (flat_sixteen a.s.now l.i (λ k h. not_cr_lem a.s.now (l.i + k) (c.has_cr.ensures c.if-has_cr.false k h))))

pub returns : goal.returns
returns c = c.loop-i.invariant

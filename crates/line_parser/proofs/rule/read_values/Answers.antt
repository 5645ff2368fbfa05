-- `line_parser::rule::read_values` meets its contract. Assumes nothing.
use Rattle.std.proofs.lemmas.Result.{err_from_is_err_and}
use Rattle.line_parser.proofs.Steps.{ok_upto, err_up, values_bad, values_first, more_bad, more_on, more_semicolon, more_colon, more_else, more_end}
use Rattle.line_parser.specs.Places.{place}
use Rattle.line_parser.specs.Rule.{value, more_values}
use lib.ListN.{length, drop, length-drop}
use native.Mathlib.Omega.{arith}
use Prim.Native.Nat.{ℕ, suc, ◌+◌, ◌-◌, ◌<◌}
use mathlib.Core.Path.{sym, ap, ◌∙◌}
use Rattle.line_parser.proofs.rule.read_values.Goals as goal

pub returns-in_err-at : goal.returns-in_err-at
returns-in_err-at c =
    let a = c.args in
    let s = a.s.now in
    let p = err_from_is_err_and c.from_residual.result c.from_residual.ensures.1 in
    rw (p.1, p.2) (err_up a.from (value (drop a.from s)) c.read_value.ensures c.in_err-at.was (λ x q. values_bad s a.from x q))

pub loop-at-init : goal.loop-at-init
loop-at-init c =
    let a = c.args in
    let s = a.s.now in
    let e = c.in_ok-at.at in
    ok_upto a.from (value (drop a.from s)) c.read_value.ensures c.in_ok-at.was (λ v k q h. (
      suc (length (drop e s)),
      rw length-drop (omega arith),
      values_first s a.from v k q ∙ ap (λ (i : ℕ). place i (more_values (suc (length (drop i s))) (drop i s))) (sym h),
    ))

pub returns-then-b-eq59 : goal.returns-then-b-eq59
returns-then-b-eq59 c =
    let s = c.args.s.now in
    let l = c.loop-at in
    let pos : 0 < l.invariant.0 = omega arith in
    sym (l.invariant.2 ∙ more_semicolon s l.at l.invariant.0 pos c.if-b-eq59.true)

pub returns-then-b-eq58 : goal.returns-then-b-eq58
returns-then-b-eq58 c =
    let s = c.args.s.now in
    let l = c.loop-at in
    let pos : 0 < l.invariant.0 = omega arith in
    sym (l.invariant.2 ∙ more_colon s l.at l.invariant.0 pos c.if-b-eq58.true)

pub returns-then-b-ne44 : goal.returns-then-b-ne44
returns-then-b-ne44 c =
    let s = c.args.s.now in
    let l = c.loop-at in
    let pos : 0 < l.invariant.0 = omega arith in
    sym (l.invariant.2 ∙ more_else s l.at l.invariant.0 pos c.loop-at-test.true c.if-b-ne44.true c.if-b-eq59.false c.if-b-eq58.false)

pub returns-in_err-at-2 : goal.returns-in_err-at-2
returns-in_err-at-2 c =
    let s = c.args.s.now in
    let l = c.loop-at in
    let pos : 0 < l.invariant.0 = omega arith in
    let p = err_from_is_err_and c.from_residual-in_err-at-2.result c.from_residual-in_err-at-2.ensures.1 in
    rw (p.1, p.2) (err_up (l.at + 1) (value (drop (l.at + 1) s)) c.read_value-in-loop-at.ensures c.in_err-at-2.was (λ x q.
    l.invariant.2 ∙ more_bad s l.at l.invariant.0 pos x c.if-b-ne44.false q))

pub loop-at-smaller : goal.loop-at-smaller
loop-at-smaller c =
    let s = c.args.s.now in
    let l = c.loop-at in
    ok_upto (l.at + 1) (value (drop (l.at + 1) s)) c.read_value-in-loop-at.ensures c.in_ok-at-2.was (λ v k q h.
    omega (arith, c.loop-at-test.true))

pub loop-at-preserved : goal.loop-at-preserved
loop-at-preserved c =
    let s = c.args.s.now in
    let l = c.loop-at in
    let e = c.in_ok-at-2.at in
    let pos : 0 < l.invariant.0 = omega arith in
    let lt = c.loop-at-test.true in
    ok_upto (l.at + 1) (value (drop (l.at + 1) s)) c.read_value-in-loop-at.ensures c.in_ok-at-2.was (λ v k q h. (
      l.invariant.0 - 1,
      omega arith,
      l.invariant.2 ∙ more_on s l.at l.invariant.0 pos v k c.if-b-ne44.false q
          ∙ ap (λ (i : ℕ). place i (more_values (l.invariant.0 - 1) (drop i s))) (sym h),
    ))

pub returns : goal.returns
returns c =
    let s = c.args.s.now in
    let l = c.loop-at in
    let pos : 0 < l.invariant.0 = omega arith in
    sym (l.invariant.2 ∙ more_end s l.at l.invariant.0 pos c.loop-at-test.false)

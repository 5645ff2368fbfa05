-- `line_parser::rule::read_params` meets its contract. Assumes nothing.
use Rattle.std.proofs.lemmas.Result.{err_from_is_err_and}
use Rattle.line_parser.proofs.Steps.{ok_upto, err_up, params_bad, params_on, params_colon, params_else, params_end}
use Rattle.line_parser.specs.Places.{listed}
use Rattle.line_parser.specs.Rule.{param, params}
use lib.ListN.{length, drop, length-drop}
use native.Mathlib.Omega.{arith}
use Prim.Native.Nat.{ℕ, suc, ◌+◌, ◌-◌, ◌<◌}
use mathlib.Core.Path.{sym, ap, ◌∙◌, refl}
use Rattle.line_parser.proofs.rule.read_params.Goals as goal

pub loop-at-init : goal.loop-at-init
loop-at-init c =
    let a = c.args in
    let s = a.s.now in
    (suc (length (drop a.from s)), rw length-drop (omega arith), omega arith, refl)

pub returns-then-b-eq58 : goal.returns-then-b-eq58
returns-then-b-eq58 c =
    let s = c.args.s.now in
    let l = c.loop-at in
    let pos : 0 < l.invariant.0 = omega arith in
    sym (l.invariant.3 ∙ params_colon s l.at l.count l.invariant.0 pos c.if-b-eq58.true)

pub returns-then-b-ne59 : goal.returns-then-b-ne59
returns-then-b-ne59 c =
    let s = c.args.s.now in
    let l = c.loop-at in
    let pos : 0 < l.invariant.0 = omega arith in
    sym (l.invariant.3 ∙ params_else s l.at l.count l.invariant.0 pos c.loop-at-test.true c.if-b-ne59.true c.if-b-eq58.false)

pub returns-in_err-at : goal.returns-in_err-at
returns-in_err-at c =
    let s = c.args.s.now in
    let l = c.loop-at in
    let pos : 0 < l.invariant.0 = omega arith in
    let p = err_from_is_err_and c.from_residual.result c.from_residual.ensures.1 in
    rw (p.1, p.2) (err_up (l.at + 1) (param (drop (l.at + 1) s)) c.read_param.ensures c.in_err-at.was (λ x q.
    l.invariant.3 ∙ params_bad s l.at l.count l.invariant.0 pos x c.if-b-ne59.false q))

pub loop-at-smaller : goal.loop-at-smaller
loop-at-smaller c =
    let s = c.args.s.now in
    let l = c.loop-at in
    let lt = c.loop-at-test.true in
    ok_upto (l.at + 1) (param (drop (l.at + 1) s)) c.read_param.ensures c.in_ok-at.was (λ p k q h. omega arith)

pub loop-at-preserved : goal.loop-at-preserved
loop-at-preserved c =
    let s = c.args.s.now in
    let l = c.loop-at in
    let pos : 0 < l.invariant.0 = omega arith in
    let lt = c.loop-at-test.true in
    ok_upto (l.at + 1) (param (drop (l.at + 1) s)) c.read_param.ensures c.in_ok-at.was (λ p k q h. (
      l.invariant.0 - 1,
      omega arith,
      omega arith,
      l.invariant.3 ∙ params_on s l.at l.count l.invariant.0 pos p k c.if-b-ne59.false q
          ∙ ap (λ (i : ℕ). listed (l.count + 1) i (params (l.invariant.0 - 1) (drop i s))) (sym h),
    ))

pub returns : goal.returns
returns c =
    let s = c.args.s.now in
    let l = c.loop-at in
    let pos : 0 < l.invariant.0 = omega arith in
    sym (l.invariant.3 ∙ params_end s l.at l.count l.invariant.0 pos c.loop-at-test.false)

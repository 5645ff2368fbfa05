-- `line_parser::at_fault::param_from` meets its contract. Assumes nothing.
use native.Mathlib.Omega.{arith}
use mathlib.Core.Path.{refl, sym, ap, ◌∙◌}
use Prim.Native.Nat.{ℕ, suc, ◌+◌, ◌-◌, ◌<◌}
use lib.ListN.{length, drop}
use Rattle.line_parser.specs.Rule.{param}
use Rattle.line_parser.specs.AtFault.{param_from}
use Rattle.line_parser.proofs.Steps.{not_upto, ok_upto, place_fault}
use Rattle.line_parser.proofs.FaultSteps.{param_over, param_bad, param_on}
use Rattle.line_parser.proofs.at_fault.param_from.Goals as goal

pub loop-at-init : goal.loop-at-init
loop-at-init c = (suc (length c.args.s.now), omega arith, refl)

pub returns-in_default : goal.returns-in_default
returns-in_default c =
    let s = c.args.s.now in
    let l = c.loop-at in
    let pos : 0 < l.invariant.0 = omega arith in
    place_fault (l.at + 1) (param (drop (l.at + 1) s)) c.read_param.ensures (not_upto c.read_param.result c.in_default.not-Ok) (λ x q.
    sym (l.invariant.2 ∙ param_bad s l.at l.invariant.0 pos c.loop-at-test.true x q))

pub loop-at-smaller : goal.loop-at-smaller
loop-at-smaller c =
    let s = c.args.s.now in
    let l = c.loop-at in
    let lt = c.loop-at-test.true in
    ok_upto (l.at + 1) (param (drop (l.at + 1) s)) c.read_param.ensures c.in-Ok.is (λ p k q h. omega arith)

pub loop-at-preserved : goal.loop-at-preserved
loop-at-preserved c =
    let s = c.args.s.now in
    let l = c.loop-at in
    let pos : 0 < l.invariant.0 = omega arith in
    let lt = c.loop-at-test.true in
    ok_upto (l.at + 1) (param (drop (l.at + 1) s)) c.read_param.ensures c.in-Ok.is (λ p k q h. (
      l.invariant.0 - 1,
      omega arith,
      l.invariant.2 ∙ param_on s l.at l.invariant.0 pos lt p k q ∙ ap (λ (i : ℕ). param_from (l.invariant.0 - 1) i s) (sym h),
    ))

pub returns : goal.returns
returns c =
    let l = c.loop-at in
    sym (l.invariant.2 ∙ param_over c.args.s.now l.at l.invariant.0 c.loop-at-test.false)

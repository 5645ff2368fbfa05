-- `line_parser::at_fault::value_from` meets its contract. Assumes nothing.
use native.Mathlib.Omega.{arith}
use mathlib.Core.Path.{refl, sym, ap, ◌∙◌}
use Prim.Native.Nat.{ℕ, suc, ◌+◌, ◌-◌, ◌<◌}
use lib.ListN.{length, drop}
use Rattle.line_parser.specs.Parse.{hd}
use Rattle.line_parser.specs.Rule.{value}
use Rattle.line_parser.specs.AtFault.{value_from}
use Rattle.line_parser.proofs.Steps.{not_upto, ok_upto, place_fault}
use Rattle.line_parser.proofs.FaultSteps.{inside, value_over, value_bad, value_last, value_on}
use borrow.Author.Rules.{rules}
use Rattle.line_parser.proofs.at_fault.value_from.Goals as goal

pub loop-start-init : goal.loop-start-init
loop-start-init c = (suc (length c.args.s.now), omega arith, refl)

pub returns-in_default : goal.returns-in_default
returns-in_default c =
    let s = c.args.s.now in
    let l = c.loop-start in
    place_fault l.start (value (drop l.start s)) c.read_value.ensures (not_upto c.read_value.result c.in_default.not-Ok) (λ x q.
    sym (l.invariant.2 ∙ value_bad s l.start l.invariant.0 c.loop-start-test.true x q))

pub returns-then-octet_at-ne44 : goal.returns-then-octet_at-ne44
returns-then-octet_at-ne44 c =
    let s = c.args.s.now in
    let l = c.loop-start in
    ok_upto l.start (value (drop l.start s)) c.read_value.ensures c.in-Ok.is (λ v k q h.
    sym (l.invariant.2 ∙ value_last s l.start l.invariant.0 c.loop-start-test.true v k q (λ e. c.if-octet_at-ne44.true (c.octet_at.ensures ∙ ap (λ (i : ℕ). hd (drop i s)) h ∙ e))))

pub overflow_add-start : goal.overflow_add-start
overflow_add-start c =
    let s = c.args.s.now in
    let i = inside s c.in-Ok.end 44 (omega arith) (sym c.octet_at.ensures ∙ c.if-octet_at-ne44.false) in
    search (rules, i)

pub loop-start-smaller : goal.loop-start-smaller
loop-start-smaller c =
    let s = c.args.s.now in
    let l = c.loop-start in
    let lt = c.loop-start-test.true in
    ok_upto l.start (value (drop l.start s)) c.read_value.ensures c.in-Ok.is (λ v k q h. omega arith)

pub loop-start-preserved : goal.loop-start-preserved
loop-start-preserved c =
    let s = c.args.s.now in
    let l = c.loop-start in
    let pos : 0 < l.invariant.0 = omega arith in
    let lt = c.loop-start-test.true in
    ok_upto l.start (value (drop l.start s)) c.read_value.ensures c.in-Ok.is (λ v k q h. (
      l.invariant.0 - 1,
      omega arith,
      l.invariant.2 ∙ value_on s l.start l.invariant.0 pos lt v k q (ap (λ (i : ℕ). hd (drop i s)) (sym h) ∙ sym c.octet_at.ensures ∙ c.if-octet_at-ne44.false)
          ∙ ap (λ (i : ℕ). value_from (l.invariant.0 - 1) (i + 1) s) (sym h),
    ))

pub returns : goal.returns
returns c =
    let l = c.loop-start in
    sym (l.invariant.2 ∙ value_over c.args.s.now l.start l.invariant.0 c.loop-start-test.false)

-- src/lib.rt:40:9
use mathlib.Core.Path.{sym, ap, ◌∙◌}
use Rattle.std.proofs.lemmas.Result.{err_from_is_err_and}
use borrow.Author.Tests.{not-true, not-false}
use Rattle.version3_judge.specs.Judge.{Step}
use Rattle.version3.specs.Outcome.{concluded}
use Rattle.version3.proofs.OutcomeLaws.{convert_long, convert_empty, convert_lone, convert_unended, convert_on}
use Rattle.version3.proofs.convert.Goals as goal

pub returns-then-input-gt-OCTETS : goal.returns-then-input-gt-OCTETS
returns-then-input-gt-OCTETS c = convert_long c.args.way c.args.input.now c.args.out.now c.if-input-gt-OCTETS.true

-- src/lib.rt:43:9
pub returns-then-input-eq0 : goal.returns-then-input-eq0
returns-then-input-eq0 c = convert_empty c.args.way c.args.input.now c.args.out.now c.if-input-gt-OCTETS.false c.if-input-eq0.true

-- src/lib.rt:47:9
pub returns-then-lone-input : goal.returns-then-lone-input
returns-then-lone-input c = convert_lone c.args.way c.args.input.now c.args.out.now c.if-input-gt-OCTETS.false c.if-input-eq0.false c.first_lone-lone.result c.first_lone-lone.ensures c.if-lone-input.true

-- src/lib.rt:51:9
pub returns-then-not-ended : goal.returns-then-not-ended
returns-then-not-ended c = convert_unended c.args.way c.args.input.now c.args.out.now c.if-input-gt-OCTETS.false c.if-input-eq0.false c.first_lone-lone.result c.first_lone-lone.ensures c.if-lone-input.false (sym c.ends_cr_lf-ended.ensures ∙ not-true _ c.if-not-ended.true-raw)

pub returns-in_err-last : goal.returns-in_err-last
returns-in_err-last c =
    let p = err_from_is_err_and c.from_residual.result c.from_residual.ensures.1 in
    let k = convert_on c.args.way c.args.input.now c.args.out.now c.if-input-gt-OCTETS.false c.if-input-eq0.false c.first_lone-lone.result c.first_lone-lone.ensures c.if-lone-input.false (sym c.ends_cr_lf-ended.ensures ∙ not-false _ c.if-not-ended.false-raw) in
    rw (p.1, p.2) (ap (λ (r : Step). concluded c.args.way r c.args.input.now c.args.out.now) c.in_err-last.ensures ∙ k)

pub returns : goal.returns
returns c =
    let k = convert_on c.args.way c.args.input.now c.args.out.now c.if-input-gt-OCTETS.false c.if-input-eq0.false c.first_lone-lone.result c.first_lone-lone.ensures c.if-lone-input.false (sym c.ends_cr_lf-ended.ensures ∙ not-false _ c.if-not-ended.false-raw) in
    c.conclude.ensures ∙ ap (λ (r : Step). concluded c.args.way r c.args.input.now c.args.out.now) c.in_ok-last.ensures ∙ k

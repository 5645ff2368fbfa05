-- `label::encode` meets its contract. Assumes nothing.
use mathlib.Core.Path.{◌≡◌}
use Rattle.std.proofs.lemmas.Result.{err_from_is_err_and}
use borrow.Author.Rules.{rules}
use Rattle.label_marks.specs.Seen.{mark, amiss}
use Rattle.label_marks.proofs.UnitLaws.{good_value}
use Rattle.label_carets.specs.declared.Rule.{Rule}
use mathlib.Core.Bool.{true}
use Rattle.utf8.specs.Characters.{allowed}
use Rattle.label.proofs.encode.Goals.{After-screen}
use Rattle.text.proofs.OutcomeLaws.{screened_for, refused_outcome, short_text, left_outcome, same_outcome}
use Rattle.label_carets.specs.declared.Rule.TheVariants.{Rfc6350, Rfc6868}
use Rattle.label.specs.Outcomes.{encode_outcome}
use Rattle.label.proofs.OutcomeLaws.{encoding}
use Rattle.label.proofs.encode.Goals as goal

told : (r : Rule) (c : After-screen) → c.screen.result ≡ screened_for (encoding r) c.args.value.now
told r c = c.screen.ensures (allowed true) (amiss 10 0) (mark 10 34) (λ n k. search rules) (λ n k. search rules) (good_value c.args.value.now)

pub returns-then-seen-lt2 : goal.returns-then-seen-lt2
unfolding encode_outcome
returns-then-seen-lt2 c =
    let a = c.args in
    same_outcome (encoding a.rule) a.value.now a.out.now (told c.args.rule (goal.at.returns-then-seen-lt2 c).After-screen) c.in_ok-seen.was c.if-seen-lt2.true c.put.ensures

pub encode_same-requires : goal.encode_same-requires
encode_same-requires c = short_text (encoding Rfc6350) c.args.value.now (told Rfc6350 (goal.at.encode_same-requires c).After-screen) c.in_ok-seen.was

pub encode_each-requires : goal.encode_each-requires
encode_each-requires c = short_text (encoding Rfc6350) c.args.value.now (told Rfc6350 (goal.at.encode_each-requires c).After-screen) c.in_ok-seen.was

pub returns-in_err-seen : goal.returns-in_err-seen
unfolding encode_outcome
returns-in_err-seen c =
    let a = c.args in
    let p = err_from_is_err_and c.from_residual.result c.from_residual.ensures.1 in
    rw (p.1, p.2) (refused_outcome (encoding a.rule) a.value.now a.out.now (told c.args.rule (goal.at.returns-in_err-seen c).After-screen) c.in_err-seen.was)

pub returns-in-Rfc6350 : goal.returns-in-Rfc6350
unfolding encode_outcome
returns-in-Rfc6350 c =
    let a = c.args in
    rw c.in-Rfc6350.is
    (left_outcome (encoding Rfc6350) a.value.now a.out.now (told Rfc6350 (goal.at.returns-in-Rfc6350 c).After-screen) c.in_ok-seen.was c.encode_same.ensures)

pub returns-in-Rfc6868 : goal.returns-in-Rfc6868
unfolding encode_outcome
returns-in-Rfc6868 c =
    let a = c.args in
    rw c.in-Rfc6868.is
    (left_outcome (encoding Rfc6868) a.value.now a.out.now (told Rfc6868 (goal.at.returns-in-Rfc6868 c).After-screen) c.in_ok-seen.was c.encode_each.ensures)

-- `label::decode` meets its contract. Assumes nothing.
use mathlib.Core.Path.{◌≡◌, ◌∙◌}
use Rattle.std.proofs.lemmas.Result.{err_from_is_err_and}
use borrow.Author.Rules.{rules}
use Rattle.label_marks.specs.Seen.{mark, amiss}
use Rattle.label_marks.proofs.UnitLaws.{good_label}
use Rattle.label_carets.specs.declared.Rule.{Rule}
use Rattle.octets.specs.Classes.{quoted}
use Rattle.label.proofs.decode.Goals.{After-screen}
use Rattle.text.proofs.OutcomeLaws.{screened_for, refused_outcome, left_outcome, same_outcome}
use Rattle.label_carets.specs.declared.Rule.TheVariants.{Rfc6350, Rfc6868}
use Rattle.label.specs.Outcomes.{decode_outcome}
use Rattle.label.proofs.OutcomeLaws.{decoding, old_decode}
use Rattle.label.proofs.decode.Goals as goal

told : (r : Rule) (c : After-screen) → c.screen.result ≡ screened_for (decoding r) c.args.label.now
told r c = c.screen.ensures quoted (amiss 94 34) (mark 94 94) (λ n k. search rules) (λ n k. search rules) (good_label c.args.label.now)

pub returns-then-seen-lt2 : goal.returns-then-seen-lt2
unfolding decode_outcome
returns-then-seen-lt2 c =
    let a = c.args in
    same_outcome (decoding a.rule) a.label.now a.out.now (told c.args.rule (goal.at.returns-then-seen-lt2 c).After-screen) c.in_ok-seen.was c.if-seen-lt2.true c.put.ensures

pub returns-in_err-seen : goal.returns-in_err-seen
unfolding decode_outcome
returns-in_err-seen c =
    let a = c.args in
    let p = err_from_is_err_and c.from_residual.result c.from_residual.ensures.1 in
    rw (p.1, p.2) (refused_outcome (decoding a.rule) a.label.now a.out.now (told c.args.rule (goal.at.returns-in_err-seen c).After-screen) c.in_err-seen.was)

pub returns-in-Rfc6350 : goal.returns-in-Rfc6350
unfolding decode_outcome
returns-in-Rfc6350 c =
    let a = c.args in
    rw c.in-Rfc6350.is
    (left_outcome (decoding Rfc6350) a.label.now a.out.now (told Rfc6350 (goal.at.returns-in-Rfc6350 c).After-screen) c.in_ok-seen.was ((c.put-in-Rfc6350.ensures ∙ old_decode a.label.now a.out.now)))

pub returns-in-Rfc6868 : goal.returns-in-Rfc6868
unfolding decode_outcome
returns-in-Rfc6868 c =
    let a = c.args in
    rw c.in-Rfc6868.is
    (left_outcome (decoding Rfc6868) a.label.now a.out.now (told Rfc6868 (goal.at.returns-in-Rfc6868 c).After-screen) c.in_ok-seen.was c.decode_each.ensures)

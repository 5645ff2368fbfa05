-- `text::escape` meets its contract. Assumes nothing.
use mathlib.Core.Path.{◌≡◌, sym}
use mathlib.Core.Bool.{true}
use borrow.Author.Rules.{rules}
use Rattle.std.proofs.lemmas.Result.{err_from_is_err_and}
use Rattle.utf8.specs.Characters.{allowed}
use Rattle.utf8_screening.specs.Plain.{odd}
use Rattle.text_marks.specs.Seen.{held}
use Rattle.text_marks.proofs.SeenLaws.{good_plain}
use Rattle.text.specs.Outcomes.{escape_outcome}
use Rattle.text.proofs.OutcomeLaws.{screened_for, refused_outcome, short_text, left_outcome, same_outcome, escaping}
use Rattle.text.proofs.escape.Goals.{After-screen}
use Rattle.text.proofs.escape.Goals as goal

told : (c : After-screen) → c.screen.result ≡ screened_for escaping c.args.text.now
told c =
    c.screen.ensures (allowed true) odd (held 59 10) (λ n k. search rules) (λ n k. search rules)
    (λ e. sym (good_plain true c.args.text.now e))

pub returns-in_err-seen : goal.returns-in_err-seen
unfolding escape_outcome
returns-in_err-seen c =
    let p = err_from_is_err_and c.from_residual.result c.from_residual.ensures.1 in
    rw (p.1, p.2) (refused_outcome escaping c.args.text.now c.args.out.now (told (goal.at.returns-in_err-seen c).After-screen) c.in_err-seen.was)

pub returns-then-seen-lt2 : goal.returns-then-seen-lt2
unfolding escape_outcome
returns-then-seen-lt2 c =
    same_outcome escaping c.args.text.now c.args.out.now (told (goal.at.returns-then-seen-lt2 c).After-screen) c.in_ok-seen.was c.if-seen-lt2.true c.put.ensures

pub escape_each-requires : goal.escape_each-requires
escape_each-requires c = short_text escaping c.args.text.now (told (goal.at.escape_each-requires c).After-screen) c.in_ok-seen.was

pub returns : goal.returns
unfolding escape_outcome
returns c = left_outcome escaping c.args.text.now c.args.out.now (told (goal.at.returns c).After-screen) c.in_ok-seen.was c.escape_each.ensures

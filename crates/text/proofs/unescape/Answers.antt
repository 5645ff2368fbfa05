-- `text::unescape` meets its contract. Assumes nothing.
use mathlib.Core.Path.{◌≡◌, sym}
use mathlib.Core.Bool.{false}
use borrow.Author.Rules.{rules}
use Rattle.std.proofs.lemmas.Result.{err_from_is_err_and}
use Rattle.utf8.specs.Characters.{allowed}
use Rattle.utf8_screening.specs.Plain.{odd}
use Rattle.text_marks.specs.Seen.{held}
use Rattle.text_marks.proofs.SeenLaws.{good_plain}
use Rattle.text.specs.Outcomes.{unescape_outcome}
use Rattle.text.proofs.OutcomeLaws.{screened_for, refused_outcome, short_text, left_outcome, same_outcome, unescaping}
use Rattle.text.proofs.unescape.Goals.{After-screen}
use Rattle.text.proofs.unescape.Goals as goal

told : (c : After-screen) → c.screen.result ≡ screened_for unescaping c.args.text.now
told c =
    c.screen.ensures (allowed false) odd (held 44 44) (λ n k. search rules) (λ n k. search rules)
    (λ e. sym (good_plain false c.args.text.now e))

pub returns-in_err-seen : goal.returns-in_err-seen
unfolding unescape_outcome
returns-in_err-seen c =
    let p = err_from_is_err_and c.from_residual.result c.from_residual.ensures.1 in
    rw (p.1, p.2) (refused_outcome unescaping c.args.text.now c.args.out.now (told (goal.at.returns-in_err-seen c).After-screen) c.in_err-seen.was)

pub returns-then-seen-lt2 : goal.returns-then-seen-lt2
unfolding unescape_outcome
returns-then-seen-lt2 c =
    same_outcome unescaping c.args.text.now c.args.out.now (told (goal.at.returns-then-seen-lt2 c).After-screen) c.in_ok-seen.was c.if-seen-lt2.true c.put.ensures

pub unescape_each-requires : goal.unescape_each-requires
unescape_each-requires c = short_text unescaping c.args.text.now (told (goal.at.unescape_each-requires c).After-screen) c.in_ok-seen.was

pub returns : goal.returns
unfolding unescape_outcome
returns c = left_outcome unescaping c.args.text.now c.args.out.now (told (goal.at.returns c).After-screen) c.in_ok-seen.was c.unescape_each.ensures

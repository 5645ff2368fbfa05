-- `console_desk::put_look` meets its contract. Assumes nothing.
use mathlib.Core.Path.{ap, ◌∙◌}
use mathlib.Core.List.{List}
use Prim.Native.Nat.{ℕ}
use Rattle.program_output.specs.Pages.{page, added}
use Rattle.console_answers.specs.Texts.{verdict_text, answer_text, octets_word}
use Rattle.reader.specs.Outcome.{Verdict}
use Rattle.desk.specs.Answer.{Answer}
use Rattle.console_desk.specs.DeskAnswers.{look_text}
use Rattle.console_desk.proofs.put_look.Goals as goal

pub returns-in-Check : goal.returns-in-Check
unfolding look_text
returns-in-Check c =
    let put-verdict = c.put_verdict in
    let judge = c.judge in
    let a = c.args in
    rw c.in-Check.is (put-verdict.ensures ∙ ap (λ (v : Verdict). added (verdict_text v) (page a.at a.out.now)) judge.ensures)

pub returns-in-Show : goal.returns-in-Show
unfolding look_text
returns-in-Show c =
    let put-octets = c.put_octets in
    let show = c.show in
    let a = c.args in
    rw c.in-Show.is (put-octets.ensures ∙ ap (λ (l : List ℕ). added (octets_word l) (page a.at a.out.now)) show.ensures.octets)

pub returns-in-Held : goal.returns-in-Held
unfolding look_text
returns-in-Held c =
    let put-answer = c.put_answer in
    let held = c.held in
    let a = c.args in
    rw c.in-Held.is (put-answer.ensures ∙ ap (λ (x : Answer). added (answer_text x) (page a.at a.out.now)) held.ensures)

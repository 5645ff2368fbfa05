-- `console::dispatch::answer_request` meets its contract. Assumes nothing.
use mathlib.Core.Path.{refl, ap, ◌∙◌}
use Rattle.console_desk.specs.DeskAnswers.{WithPool}
use Rattle.console_report.specs.ReportAnswers.{KeptState, kept_of}
use Rattle.console_report.specs.declared.Kept.{Kept}
use Rattle.console_watch.specs.WatchAnswers.{Watching, watching}
use Rattle.console_watch.specs.declared.Session.{Session}
use Rattle.console_watch.proofs.WatchLaws.{says_all_lem}
use Rattle.console.specs.Dispatch.{everything, all_of, keeping, beside, AnswerAny}
use Rattle.console.proofs.dispatch.answer_request.Goals as goal

pub returns-in-ToEntry : goal.returns-in-ToEntry
unfolding AnswerAny
returns-in-ToEntry c =
    let a = c.args in
    rw c.in-ToEntry.is
    (ap (λ (t : Watching). everything t a.buffer.now a.pool.now) (says_all_lem a.s a.out.now _ c.with_output.ensures c.put_entry_answer-at.ensures))

pub returns-in-ToDesk : goal.returns-in-ToDesk
unfolding AnswerAny
returns-in-ToDesk c =
    let a = c.args in
    let d = c.answer_desk in
    let after = d.new.out in
    let pool = d.new.pool in
    let b = a.buffer.now in
    rw c.in-ToDesk.is
    (ap (λ (z : Session). all_of z after b pool) c.with_kept.ensures
    ∙ ap (λ (z : Kept). everything (watching (kept_of z after) a.s.watch a.s.size) b pool) c.with_console.ensures
    ∙ ap (λ (p : WithPool). beside p (all_of a.s a.out.now b a.pool.now)) d.ensures)

pub returns-in-ToReport : goal.returns-in-ToReport
unfolding AnswerAny
returns-in-ToReport c =
    let a = c.args in
    let d = c.answer_report in
    let after = d.new.out in
    let b = a.buffer.now in
    rw c.in-ToReport.is
    (ap (λ (z : Session). all_of z after b a.pool.now) c.with_kept-in-ToReport.ensures
    ∙ ap (λ (k : KeptState). keeping k a.pool.now (all_of a.s a.out.now b a.pool.now)) d.ensures)

pub returns-in-ToMerge : goal.returns-in-ToMerge
unfolding AnswerAny
returns-in-ToMerge c =
    let a = c.args in
    rw c.in-ToMerge.is
    (ap (λ (t : Watching). everything t a.buffer.now a.pool.now) (says_all_lem a.s a.out.now _ c.with_output-in-ToMerge.ensures c.put_merge_answer-at.ensures))

pub returns-in-ToWatch : goal.returns-in-ToWatch
unfolding AnswerAny
returns-in-ToWatch c = rw c.in-ToWatch.is (c.answer_watch.ensures, refl)

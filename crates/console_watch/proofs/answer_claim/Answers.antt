-- `console_watch::answer_claim` meets its contract. Assumes nothing.
use mathlib.Core.Path.{ap, ◌∙◌}
use borrow.Author.Tests.{lt-ltb, le-ltb}
use Rattle.watch.specs.declared.Watch.{Watch}
use Rattle.console_report.specs.ReportAnswers.{KeptState, kept_of}
use Rattle.console_watch.specs.WatchAnswers.{watching, adds, done_line, claim_answer}
use Rattle.console_watch.proofs.WatchLaws.{says_kept}
use Rattle.console_watch.proofs.answer_claim.Goals as goal

pub returns-then-n-gt-LARGEST : goal.returns-then-n-gt-LARGEST
unfolding claim_answer
returns-then-n-gt-LARGEST c = rw (lt-ltb _ _ c.if-n-gt-LARGEST.true) c.answer_bad.ensures

pub returns : goal.returns
unfolding claim_answer
returns c =
    let a = c.args in
    let o = a.out.now in
    rw (le-ltb _ _ c.if-n-gt-LARGEST.false)
    (ap (λ (x : KeptState). watching x c.claiming.result a.s.size) (says_kept a.s o (done_line a.n) c.with_output-next.ensures (rw (← c.at.ensures) c.put_done_line-at.ensures))
    ∙ ap (λ (w : Watch). watching (adds (done_line a.n) (kept_of a.s.kept o)) w a.s.size) c.claiming.ensures)

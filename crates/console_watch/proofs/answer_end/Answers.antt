-- `console_watch::answer_end` meets its contract. Assumes nothing.
use mathlib.Core.List.{◌++◌}
use Rattle.program_output.specs.Pages.{page}
use Rattle.program_output.proofs.PageLaws.{then}
use Rattle.reader.specs.Outcome.{verdict}
use Rattle.console_answers.specs.Texts.{line_end, verdict_text}
use Rattle.console_watch.proofs.WatchLaws.{says_all_lem, lent_part}
use Rattle.console_watch.proofs.answer_end.Goals as goal

pub returns : goal.returns
returns c =
    let a = c.args in
    let text = verdict_text (verdict c.end-v.result) in
    record {
      verdict = verdict c.end-v.result;
      ends = rw (lent_part a.s.size c.lent_length-n.result a.buffer.now c.lent_length-n.ensures.value) at c.end-v.ensures;
      says = says_all_lem a.s a.out.now (text ++ line_end) c.with_output.ensures (rw (← c.at.ensures) (then text line_end (page c.at.result a.out.now) c.put_verdict-end.ensures c.put_end-at.ensures));
    }

-- `console_watch::put_done_line` meets its contract. Assumes nothing.
use Rattle.program_output.specs.Pages.{page}
use Rattle.program_output.proofs.PageLaws.{then}
use Rattle.console_answers.specs.Texts.{line_end, done_text}
use Rattle.console_watch.proofs.put_done_line.Goals as goal

pub returns : goal.returns
returns c =
    let a = c.args in
    then (done_text a.n) line_end (page a.at a.out.now) c.put_done-end.ensures c.put_end.ensures

-- `console_answers::put_done` meets its contract. Assumes nothing.
use Rattle.program_output.specs.Pages.{page}
use Rattle.octets.specs.Ascii.{octets}
use Rattle.program_output.specs.Digits.{decimal}
use Rattle.console_answers.specs.Texts.{spaced, done_text}
use Rattle.program_output.proofs.PageLaws.{then}
use Rattle.console_answers.proofs.put_done.Goals as goal

pub returns : goal.returns
unfolding done_text octets
returns c =
    let put-after = c.put_after in
    let put_all_lem = c.put_all-word in
    let a = c.args in
    then (octets "ok") (spaced (decimal a.number)) (page a.at a.out.now) put_all_lem.ensures put-after.ensures

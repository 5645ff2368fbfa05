-- `console_answers::put_no` meets its contract. Assumes nothing.
use Rattle.program_output.specs.Pages.{page}
use mathlib.Core.List.{◌++◌}
use Rattle.octets.specs.Ascii.{octets}
use Rattle.program_output.specs.Digits.{decimal}
use Rattle.console_answers.specs.Texts.{spaced, refusal_text}
use Rattle.program_output.proofs.PageLaws.{then}
use Rattle.console_answers.proofs.put_no.Goals as goal

pub returns : goal.returns
unfolding refusal_text octets
returns c =
    let put-after2 = c.put_after in
    let put-after = c.put_after-end in
    let put_all_lem = c.put_all-word in
    let a = c.args in
    then (octets "no") (spaced (decimal a.number) ++ spaced (decimal a.place)) (page a.at a.out.now) put_all_lem.ensures
    (then (spaced (decimal a.number)) (spaced (decimal a.place)) (page put_all_lem.result put_all_lem.new.room) put-after.ensures put-after2.ensures)

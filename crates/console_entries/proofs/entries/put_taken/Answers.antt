-- `console_entries::entries::put_taken` meets its contract. Assumes nothing.
use borrow.Author.Tests.{eq-eqb, ne_eqb}
use Rattle.program_output.specs.Pages.{page, added}
use Rattle.console_answers.specs.Texts.{octets_word, joined, spaced}
use Rattle.program_output.proofs.PageLaws.{then}
use Rattle.console_entries.specs.Entries.{taken_text}
use Rattle.console_entries.proofs.entries.put_taken.Goals as goal

pub returns-then-records-eq0 : goal.returns-then-records-eq0
unfolding taken_text added
returns-then-records-eq0 c = rw (eq-eqb _ _ c.if-records-eq0.true)

pub returns : goal.returns
unfolding taken_text
returns c =
    let put-spaced-numbers = c.put_spaced_numbers in
    let put-spaced-octets = c.put_spaced_octets-end in
    let if1 = c.if-records-eq0 in
    let a = c.args in
    rw (ne_eqb _ _ if1.false)
    (then (spaced (octets_word a.copy.now)) (spaced (joined a.records.now)) (page a.at a.out.now) put-spaced-octets.ensures put-spaced-numbers.ensures)

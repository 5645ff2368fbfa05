-- `console_entries::entries::put_read` meets its contract. Assumes nothing.
use mathlib.Core.Path.{ap, ◌∙◌}
use mathlib.Core.List.{◌++◌}
use Prim.Native.Nat.{ℕ}
use Rattle.program_output.specs.Pages.{page, added}
use Rattle.console_answers.specs.Texts.{verdict_text}
use Rattle.reader.specs.Outcome.{Taken, verdict}
use Rattle.program_output.proofs.PageLaws.{then}
use Rattle.console_entries.specs.Entries.{rooms_text, taken_answer, read_text}
use Rattle.console_entries.proofs.entries.put_read.Goals as goal

pub returns : goal.returns
unfolding read_text
returns c =
    let put-rooms = c.put_rooms in
    let lines_of_lem = c.lines_of in
    let put-verdict = c.put_verdict-end in
    let read = c.read-v in
    let a = c.args in
    let o = page a.at a.out.now in
    let copy = read.new.copy in
    let records = read.new.records in
    then (verdict_text (verdict read.result)) (rooms_text lines_of_lem.result copy records) o put-verdict.ensures put-rooms.ensures
    ∙ ap (λ (n : ℕ). added (verdict_text (verdict read.result) ++ rooms_text n copy records) o) lines_of_lem.ensures
    ∙ ap (λ (t : Taken). added (taken_answer t) o) read.ensures

-- `console_entries::entries::put_rooms` meets its contract. Assumes nothing.
use mathlib.Core.Path.{ap, ◌∙◌}
use mathlib.Core.List.{List}
use Prim.Native.Nat.{ℕ}
use Rattle.program_output.specs.Pages.{page, added}
use Rattle.console_answers.specs.Texts.{room_end}
use Rattle.program_output.proofs.PageLaws.{then}
use Rattle.console_entries.specs.Entries.{taken_text}
use Rattle.console_entries.proofs.RoomLaws.{rooms_text_lem}
use Rattle.console_entries.proofs.entries.put_rooms.Goals as goal

pub returns : goal.returns
returns c =
    let put-room-end = c.put_room_end in
    let both-kept = c.both_kept in
    let put-taken = c.put_taken-end in
    let part = c.part in
    let copy_length = c.copy_length-n in
    let numbers = c.numbers-taken in
    let Numbers-of = c.numbers_of-k in
    let a = c.args in
    let o = page a.at a.out.now in
    then (taken_text part.result.now numbers.result.now) (room_end both-kept.result) o put-taken.ensures put-room-end.ensures
    ∙ ap (λ (t : List ℕ). added t o)
    (rooms_text_lem a.copy.now a.records.now part.result.now numbers.result.now a.lines copy_length.result Numbers-of.result both-kept.result
    Numbers-of.ensures numbers.ensures copy_length.ensures part.ensures both-kept.ensures)

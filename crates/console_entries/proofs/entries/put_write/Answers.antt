-- `console_entries::entries::put_write` meets its contract. Assumes nothing.
use mathlib.Core.Path.{ap, ◌∙◌}
use mathlib.Core.Bool.{Bool}
use mathlib.Core.List.{◌++◌}
use Prim.Native.Nat.{ℕ}
use lib.ListN.{drop}
use Rattle.program_output.specs.Pages.{page, added}
use Rattle.console_answers.specs.Texts.{written_text, room_end}
use Rattle.octets.specs.Room.{Filled, written}
use Rattle.program_output.proofs.PageLaws.{then}
use Rattle.console_entries.specs.Rooms.{octet_fill, all}
use Rattle.console_entries.specs.Entries.{write_text}
use Rattle.console_entries.proofs.entries.put_write.Goals as goal

pub returns : goal.returns
unfolding write_text
returns c =
    let put-room-end = c.put_room_end in
    let is-kept = c.is_kept in
    let count_of = c.count_of in
    let Put-written = c.put_written-end in
    let call = c.call-w in
    let a = c.args in
    let o = page a.at a.out.now in
    let room = call.new.room in
    then (written_text (written call.result) room) (room_end is-kept.result) o Put-written.ensures put-room-end.ensures
    ∙ ap (λ (b : Bool). added (written_text (written call.result) room ++ room_end b) o) is-kept.ensures
    ∙ ap (λ (n : ℕ). added (written_text (written call.result) room ++ room_end (all octet_fill (drop n room))) o) count_of.ensures
    ∙ ap (λ (f : Filled). added (write_text f) o) call.ensures

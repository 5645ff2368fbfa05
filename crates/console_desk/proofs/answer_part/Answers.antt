-- `console_desk::answer_part` meets its contract. Assumes nothing.
use mathlib.Core.Path.{refl, sym, ap, ◌∙◌}
use mathlib.Core.List.{List, ◌++◌}
use Prim.Native.Nat.{ℕ, ◌+◌, ◌-◌}
use native.Mathlib.Omega.{arith}
use lib.ListN.{take, drop}
use Rattle.program_output.specs.Pages.{page, added}
use Rattle.console_answers.specs.Texts.{line_end, octets_word}
use Rattle.program_output.proofs.PageLaws.{then}
use Rattle.console_desk.specs.DeskAnswers.{state}
use Rattle.console_entries.proofs.RoomLaws.{part_whole}
use Rattle.console_desk.proofs.answer_part.Goals as goal

pub overflow_add-from : goal.overflow_add-from
overflow_add-from c = omega (arith, c.lies_inside.ensures.count_in_bounds c.if-lies_inside.true)

pub slice_bounds-put_octets-end : goal.slice_bounds-put_octets-end
slice_bounds-put_octets-end c = omega (arith, c.lies_inside.ensures.count_in_bounds c.if-lies_inside.true)

pub returns-then-lies_inside : goal.returns-then-lies_inside
returns-then-lies_inside c =
    let a = c.args in
    let s = a.lent.now in
    let e = a.from + a.count in
    let o = page a.c.at a.out.now in
    rw (← c.lies_inside.ensures.value, c.if-lies_inside.true)
    (c.end_line.ensures
    ∙ ap (state a.c.desk a.c.size)
    (then (octets_word (take (e - a.from) (drop a.from s))) line_end o c.put_octets-end.ensures refl
    ∙ ap (λ (l : List ℕ). added (octets_word l ++ line_end) o) (sym (part_whole s a.from e (omega arith) (c.lies_inside.ensures.count_in_bounds c.if-lies_inside.true)))))

pub returns : goal.returns
returns c = rw (← c.lies_inside.ensures.value, c.if-lies_inside.false) c.answer_bad.ensures

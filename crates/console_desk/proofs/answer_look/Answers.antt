-- `console_desk::answer_look` meets its contract. Assumes nothing.
use mathlib.Core.Path.{refl, ap, ◌∙◌}
use mathlib.Core.List.{◌++◌}
use Prim.Native.Nat.{ℕ, ◌-◌}
use native.Mathlib.Omega.{arith}
use lib.ListN.{take}
use Rattle.program_output.specs.Pages.{page, added}
use Rattle.console_answers.specs.Texts.{line_end}
use Rattle.program_output.proofs.PageLaws.{then}
use Rattle.console_desk.specs.DeskAnswers.{state, look_text, look_answer}
use Rattle.console_entries.proofs.RoomLaws.{less_none}
use Rattle.console_desk.proofs.answer_look.Goals as goal

pub overflow_cast-n : goal.overflow_cast-n
overflow_cast-n c = omega (arith, (c.is_callable.ensures.n_le_largest c.if-is_callable.true).0)

pub slice_bounds-put_look-end : goal.slice_bounds-put_look-end
slice_bounds-put_look-end c = omega (arith, (c.is_callable.ensures.n_le_largest c.if-is_callable.true).1)

pub returns-then-is_callable : goal.returns-then-is_callable
unfolding look_answer
returns-then-is_callable c =
    let a = c.args in
    let p = a.pool.now in
    let o = page a.c.at a.out.now in
    rw (← c.is_callable.ensures.value, c.if-is_callable.true)
    (c.end_line.ensures
    ∙ ap (state a.c.desk a.c.size)
    (then (look_text a.which a.c.desk (take (a.c.size - 0) p) a.n) line_end o c.put_look-end.ensures refl
    ∙ ap (λ (m : ℕ). added (look_text a.which a.c.desk (take m p) a.n ++ line_end) o) (less_none a.c.size)))

pub returns : goal.returns
unfolding look_answer
returns c = rw (← c.is_callable.ensures.value, c.if-is_callable.false) c.answer_bad.ensures

-- `console_desk::answer_change` meets its contract. Assumes nothing.
use mathlib.Core.Path.{ap, ◌∙◌}
use mathlib.Core.List.{List, ◌++◌}
use Prim.Native.Nat.{ℕ, ◌-◌}
use native.Mathlib.Omega.{arith}
use lib.ListN.{take, drop}
use Rattle.program_output.specs.Pages.{page}
use Rattle.desk.specs.Steps.{Turned}
use Rattle.console_desk.specs.DeskAnswers.{State, state_of, with_pool, after_turn, change_of, over, change_answer}
use Rattle.console_entries.proofs.RoomLaws.{less_none, put_front}
use Rattle.console_desk.proofs.answer_change.Goals as goal

pub overflow_cast-n : goal.overflow_cast-n
overflow_cast-n c = omega (arith, (c.is_ticked.ensures.n_le_largest c.if-is_ticked.true).0)

pub overflow_cast-tick : goal.overflow_cast-tick
overflow_cast-tick c = omega (arith, (c.is_ticked.ensures.n_le_largest c.if-is_ticked.true).1)

pub slice_bounds-call-end : goal.slice_bounds-call-end
slice_bounds-call-end c = omega (arith, (c.is_ticked.ensures.n_le_largest c.if-is_ticked.true).2)

pub returns-then-is_ticked : goal.returns-then-is_ticked
unfolding change_answer
returns-then-is_ticked c =
    let a = c.args in
    let call = c.call-t in
    let size = a.c.size in
    let p = a.pool.now in
    let q = call.new.pool in
    rw (← c.is_ticked.ensures.value, c.if-is_ticked.true)
    (ap (λ (x : State). with_pool x (q ++ drop (size - 0) p)) c.answer_turn.ensures
    ∙ ap (λ (l : List ℕ). with_pool (after_turn call.result size (page a.c.at a.out.now)) l) (put_front p q size (c.is_ticked.ensures.n_le_largest c.if-is_ticked.true).2 call.auto.pool)
    ∙ ap (λ (u : Turned). over u (state_of a.c a.out.now) p)
    (call.ensures ∙ ap (λ (m : ℕ). change_of a.which a.c.desk (take m p) a.n a.tick a.chunk.now) (less_none size)))

pub returns : goal.returns
unfolding change_answer
returns c = rw (← c.is_ticked.ensures.value, c.if-is_ticked.false) (ap (λ (x : State). with_pool x c.args.pool.now) c.answer_bad.ensures)

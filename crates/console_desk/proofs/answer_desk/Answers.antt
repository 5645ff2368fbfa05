-- `console_desk::answer_desk` meets its contract. Assumes nothing.
use mathlib.Core.Path.{ap, ◌∙◌}
use mathlib.Core.List.{List, ◌++◌}
use Prim.Native.Nat.{ℕ, ◌-◌}
use native.Mathlib.Omega.{arith}
use lib.ListN.{drop}
use borrow.Author.Tests.{lt-ltb, le-ltb}
use Rattle.program_output.specs.Pages.{page}
use Rattle.desk.specs.Steps.{new_step}
use Rattle.desk.specs.declared.Turn.{Turn}
use Rattle.console_desk.specs.DeskAnswers.{State, with_pool, after_turn, desk_answer}
use Rattle.console_entries.proofs.RoomLaws.{fill_front}
use Rattle.console_desk.proofs.answer_desk.Goals as goal

pub returns-then-n-pool : goal.returns-then-n-pool
unfolding desk_answer
returns-then-n-pool c =
    let a = c.args in
    rw (lt-ltb _ _ c.if-n-pool.true) (ap (λ (x : State). with_pool x a.pool.now) c.answer_bad.ensures)

pub returns : goal.returns
unfolding desk_answer
returns c =
    let answer-turn = c.answer_turn in
    let new = c.new in
    let fill = c.fill in
    let if1 = c.if-n-pool in
    let a = c.args in
    let p = a.pool.now in
    let q = fill.new.room in
    let o = page a.c.at a.out.now in
    rw (le-ltb _ _ if1.false)
    (ap (λ (x : State). with_pool x (q ++ drop (a.n - 0) p)) answer-turn.ensures
    ∙ ap (λ (t : Turn). with_pool (after_turn t a.n o) (q ++ drop (a.n - 0) p)) new.ensures
    ∙ ap (λ (l : List ℕ). with_pool (after_turn (new_step a.slots) a.n o) l) (fill_front p q a.n (omega arith) fill.ensures))

-- `console_desk::answer_pool` meets its contract. Assumes nothing.
use mathlib.Core.Path.{ap, ◌∙◌}
use mathlib.Core.List.{List}
use Prim.Native.Nat.{ℕ}
use Rattle.console_desk.specs.DeskAnswers.{state_of, part_of, pool_answer}
use Rattle.console_desk.proofs.answer_pool.Goals as goal

pub returns : goal.returns
unfolding pool_answer
returns c =
    let a = c.args in
    c.answer_part.ensures
    ∙ ap (λ (l : List ℕ). part_of a.from a.count (state_of a.c a.out.now) l) c.part-lent.ensures

-- `console::dispatch::answer_desk` meets its contract. Assumes nothing.
use mathlib.Core.Path.{ap}
use Rattle.console_desk.specs.DeskAnswers.{State, with_pool}
use Rattle.console.specs.Dispatch.{desk_turn}
use Rattle.console.proofs.dispatch.answer_desk.Goals as goal

pub returns-in-Desk : goal.returns-in-Desk
unfolding desk_turn
returns-in-Desk c = rw c.in-Desk.is c.answer_desk.ensures

pub returns-in-Open : goal.returns-in-Open
unfolding desk_turn
returns-in-Open c = rw c.in-Open.is c.answer_change.ensures

pub returns-in-Add : goal.returns-in-Add
unfolding desk_turn
returns-in-Add c = rw c.in-Add.is c.answer_change-in-Add.ensures

pub returns-in-Check : goal.returns-in-Check
unfolding desk_turn
returns-in-Check c = rw c.in-Check.is (ap (λ (x : State). with_pool x c.args.pool.now) c.answer_look.ensures)

pub returns-in-Show : goal.returns-in-Show
unfolding desk_turn
returns-in-Show c = rw c.in-Show.is (ap (λ (x : State). with_pool x c.args.pool.now) c.answer_look-in-Show.ensures)

pub returns-in-Held : goal.returns-in-Held
unfolding desk_turn
returns-in-Held c = rw c.in-Held.is (ap (λ (x : State). with_pool x c.args.pool.now) c.answer_look-in-Held.ensures)

pub returns-in-Release : goal.returns-in-Release
unfolding desk_turn
returns-in-Release c = rw c.in-Release.is c.answer_change-in-Release.ensures

pub returns-in-Pool : goal.returns-in-Pool
unfolding desk_turn
returns-in-Pool c = rw c.in-Pool.is (ap (λ (x : State). with_pool x c.args.pool.now) c.answer_pool.ensures)

pub returns-in-Next : goal.returns-in-Next
unfolding desk_turn
returns-in-Next c = rw c.in-Next.is (ap (λ (x : State). with_pool x c.args.pool.now) c.answer_next.ensures)

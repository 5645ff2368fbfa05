-- `console::dispatch::answer_in` meets its contract. Assumes nothing.
use mathlib.Core.Path.{ap, subst}
use mathlib.Core.List.{List}
use Prim.Native.Nat.{ℕ}
use Rattle.console_requests.specs.Requests.{Requested}
use Rattle.console_watch.specs.WatchAnswers.{Watching}
use Rattle.console.specs.Dispatch.{everything, all_of, AnswerTo, AnswerFrom, AnswerIn}
use Rattle.console.proofs.dispatch.answer_in.Goals as goal

pub returns-in_default : goal.returns-in_default
unfolding AnswerIn
returns-in_default c =
    let a = c.args in
    let d = c.answer_bad in
    let x = all_of a.s a.out.now a.buffer.now a.pool.now in
    let y = all_of d.result d.new.out a.buffer.now a.pool.now in
    subst (λ (z : Requested). AnswerFrom z x y) c.in_default.ensures (ap (λ (t : Watching). everything t a.buffer.now a.pool.now) d.ensures)

pub returns : goal.returns
unfolding AnswerIn
returns c =
    let a = c.args in
    let d = c.answer_request in
    let x = all_of a.s a.out.now a.buffer.now a.pool.now in
    let y = all_of d.result d.new.out d.new.buffer d.new.pool in
    subst (λ (z : Requested). AnswerFrom z x y) c.in-Some.ensures (subst (λ (l : List ℕ). AnswerTo c.in-Some.q l x y) c.part.ensures d.ensures)

-- `reader_walk::settle` meets its contract. Assumes nothing.
use Rattle.card_state.specs.Kept.{step_of}
use Rattle.reader_walk.proofs.settle.Goals as goal

pub returns-in-Ok : goal.returns-in-Ok
unfolding step_of
returns-in-Ok c = λ store. rw c.in-Ok.is

pub returns-in-Err : goal.returns-in-Err
returns-in-Err c = λ store. rw c.in-Err.is (c.placed.ensures store)

-- `reader_walk::placed` meets its contract. Assumes nothing.
use Rattle.card_state.specs.Kept.{step_of}
use Rattle.reader_walk.proofs.placed.Goals as goal

pub returns-in-Placed : goal.returns-in-Placed
unfolding step_of
returns-in-Placed c = λ store. rw c.in-Placed.is

pub returns-in-Octet : goal.returns-in-Octet
unfolding step_of
returns-in-Octet c = λ store. rw (c.in-Octet.is, c.place_of-place.ensures.value)

-- `card_state::fresh` meets its contract. Assumes nothing.
use Rattle.card_state.proofs.fresh.Goals as goal

pub returns : goal.returns
returns c = rw c.none-tags.ensures

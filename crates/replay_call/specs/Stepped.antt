-- What one call does to a desk with its pool, and its answer in a log. Assumes nothing.
use Rattle.std.specs.Prelude.{ℕ, ◌≡◌, List}
use Rattle.desk.specs.declared.Desk.{Desk}
use Rattle.desk_ledger.specs.Ticks.{Ticked}
use Rattle.desk_ledger.specs.Desks.{World, desk_step}
use Rattle.replay_log.specs.Logs.{entry, Put}

abbrev pub world_of : Desk → List ℕ → World
world_of d p = record { desk = d; pool = p }

-- after a call c: the next desk d with the pool p, and the answer in the log
pub record Stepped (w : World) (c : Ticked) (d : Desk) (p l l' : List ℕ) (n : ℕ) : Type 0 where
  pub world : world_of d p ≡ (desk_step w c).then
  pub put : Put (entry (desk_step w c).reply) l l' n

-- `replay::run_all` meets its contract. Assumes nothing.
use Prim.Native.Nat.{◌-◌}
use lib.ListN.{length}
use Rattle.replay_call.specs.Stepped.{world_of}
use Rattle.replay.proofs.RunLaws.{Running}
use Rattle.replay.proofs.run_all.Given as goal

abbrev pub invariant-loop-at : goal.invariant-loop-at
invariant-loop-at l = Running (world_of l.initial.d l.initial.pool) l.script l.initial.log l.d l.pool l.log l.at l.to

abbrev pub decreases-loop-at : goal.decreases-loop-at
decreases-loop-at l = length l.script - l.at

-- The claim about lists of calls, of a program that makes them: `replay` runs a script of calls on a fresh desk and writes the answers to a
-- log. Assumes nothing.
use Rattle.std.specs.Prelude.{ℕ, ◌≡◌, List}
use Rattle.desk_ledger.specs.Ticks.{Ticked}
use Rattle.replay.specs.Outcome.{replay_outcome}
use Rattle.replay_laws.specs.Encoding.{Fit, Scripted}
use Rattle.replay_laws.specs.Refinement.{ledger_outcome}
use Rattle.replay_laws.specs.Tells.{Tells}

pub record Replays : Type 0 where
  -- a replay answers and writes what a replay by the ledger does, whatever slot count, script, pool and log it is given
  pub refines : (n : ℕ) (script pool log : List ℕ) → replay_outcome n script pool log ≡ ledger_outcome n script pool log
  -- a log has every answer of the ledger, and no two lists of answers have the same log
  pub tells : Tells
  -- every list of calls that fit 32 bits, with chunks of at most 65,535 octets, has a script
  pub every_list : (cs : List Ticked) → Fit cs → Scripted cs

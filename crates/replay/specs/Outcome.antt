-- What a replay answers, and what the pool and the log hold then, for every slot count, script, pool and log. Assumes nothing.
use Rattle.std.specs.Prelude.{ℕ, ◌*◌, List, Result, Ok, Err, leb, eqb, length}
use Rattle.numbers.specs.Limits as limit
use Rattle.numbers.specs.Refusals as refusal
use Rattle.octets.specs.Pick.{pick}
use Rattle.octets.specs.Room.{overlay}
use Rattle.desk_slots.specs.Sound.{bounds}
use Rattle.desk_ledger.specs.Ticks.{Ticked}
use Rattle.desk_ledger.specs.Desks.{answers, world}
use Rattle.replay_script.specs.Scripts.{Decoded, calls, broken, decode}
use Rattle.replay_log.specs.Logs.{written, room_for}
use Rattle.numbers.specs.Refusals.{number}
use Rattle.numbers.specs.declared.refusal.Refusal.{Refusal}
use Rattle.replay.specs.declared.Run.{Run}

-- how many calls were run and how many octets of the log are written, or a refusal's number and place
pub data Replayed : Type 0 where
  Ran : ℕ → ℕ → Replayed
  Refused : ℕ → ℕ → Replayed

-- the same of a result
abbrev pub answered : Result Run Refusal → Replayed
answered (Ok r) = Ran r.calls r.wrote
answered (Err r) = Refused (number r.0) r.1

-- an answer, and what the pool and the log hold then
pub record Replay : Type 0 where
  pub answer : Replayed
  pub pool : List ℕ
  pub log : List ℕ

abbrev pub replayed : Replayed → List ℕ → List ℕ → Replay
replayed a p l = record { answer = a; pool = p; log = l }

-- the answers of a fresh desk to the calls, by its own steps, as a log has them
abbrev pub desk_log : ℕ → List ℕ → List Ticked → List ℕ
desk_log n p cs = written (answers n p cs)

-- 91 where the pool has another length, then 92 where the log may lack room, each with that length; else the calls are run
abbrev pub played : ℕ → List ℕ → List ℕ → Decoded → Replay
played n p l (broken at) = replayed (Refused refusal.replay_call at) p l
played n p l (calls cs) =
    pick (eqb (length p) (n * limit.octets))
    (pick (leb (room_for cs) (length l))
    (replayed (Ran (length cs) (length (desk_log n p cs))) (world n p cs).pool (overlay (desk_log n p cs) l))
    (replayed (Refused refusal.replay_log (length l)) p l))
    (replayed (Refused refusal.replay_pool (length p)) p l)

-- 26 where there are no slots or over 40, then 90 at the first call that is unknown or cut off
unfoldable pub replay_outcome : ℕ → List ℕ → List ℕ → List ℕ → Replay
replay_outcome n s p l = pick (bounds n 1) (played n p l (decode s)) (replayed (Refused refusal.slot_count 0) p l)

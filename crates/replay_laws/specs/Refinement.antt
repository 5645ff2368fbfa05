-- A replay by the ledger with ticks: the log has the ledger's answers, and the pool is left as the desk leaves it. Assumes nothing.
use Rattle.std.specs.Prelude.{ℕ, ◌*◌, List, leb, eqb, length}
use Rattle.numbers.specs.Limits as limit
use Rattle.numbers.specs.Refusals as refusal
use Rattle.octets.specs.Pick.{pick}
use Rattle.octets.specs.Room.{overlay}
use Rattle.desk_slots.specs.Sound.{bounds}
use Rattle.desk_ledger.specs.Ticks.{Ticked}
use Rattle.desk_ledger.specs.Desks.{world, ledger_answers}
use Rattle.replay_script.specs.Scripts.{Decoded, calls, broken, decode}
use Rattle.replay_log.specs.Logs.{written, room_for}
use Rattle.replay.specs.Outcome.{Replay, replayed}
use Rattle.replay.specs.Outcome.{Ran, Refused}

-- the answers of the ledger to the calls, as a log has them
abbrev pub ledger_log : ℕ → List Ticked → List ℕ
ledger_log n cs = written (ledger_answers n cs)

-- 91 where the pool has another length, then 92 where the log may lack room, each with that length; else the calls are run
abbrev pub ledger_played : ℕ → List ℕ → List ℕ → Decoded → Replay
ledger_played n p l (broken at) = replayed (Refused refusal.replay_call at) p l
ledger_played n p l (calls cs) =
    pick (eqb (length p) (n * limit.octets))
    (pick (leb (room_for cs) (length l))
    (replayed (Ran (length cs) (length (ledger_log n cs))) (world n p cs).pool (overlay (ledger_log n cs) l))
    (replayed (Refused refusal.replay_log (length l)) p l))
    (replayed (Refused refusal.replay_pool (length p)) p l)

-- 26 where there are no slots or over 40, then 90 at the first call that is unknown or cut off
unfoldable pub ledger_outcome : ℕ → List ℕ → List ℕ → List ℕ → Replay
ledger_outcome n s p l = pick (bounds n 1) (ledger_played n p l (decode s)) (replayed (Refused refusal.slot_count 0) p l)

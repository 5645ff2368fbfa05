-- A replay answers and leaves what a replay by the ledger does, for every slot count, script, pool and log. Assumes nothing.
use Prim.Native.Nat.{ℕ, ◌*◌}
use mathlib.Core.Path.{◌≡◌, refl}
use mathlib.Core.Bool.{Bool, true, false}
use mathlib.Core.List.{List}
use lib.Dec.{leb, eqb}
use lib.ListN.{length}
use borrow.Author.Tests.{eqb-true}
use Rattle.octets.specs.Pick.{pick}
use Rattle.octets.specs.Room.{overlay}
use Rattle.desk_slots.specs.Sound.{bounds}
use Rattle.desk_slots.proofs.SoundLaws.{bounds_are}
use Rattle.desk_ledger.specs.Ledger.{Reply}
use Rattle.desk_ledger.specs.Ticks.{Ticked}
use Rattle.desk_ledger.specs.Desks.{Proper, answers, world}
use Rattle.desk_laws.proofs.Demand.{demand3}
use Rattle.replay_script.specs.Scripts.{Decoded, calls, broken, decode}
use Rattle.replay_log.specs.Logs.{written, room_for}
use Rattle.replay.specs.Outcome.{Replay, replayed, played, replay_outcome}
use Rattle.replay.specs.Outcome.{Ran, Refused}
use Rattle.replay_laws.specs.Refinement.{ledger_played, ledger_outcome}

module _ (n : ℕ) (p l : List ℕ) where
  -- the calls were run, and answered so
  abbrev ran : List Ticked → List Reply → Replay
  ran cs rs =
      pick (leb (room_for cs) (length l))
      (replayed (Ran (length cs) (length (written rs))) (world n p cs).pool (overlay (written rs) l))
      (replayed (Refused 92 (length l)) p l)

  plays : bounds n 1 ≡ true → (x : Decoded) → played n p l x ≡ ledger_played n p l x
  plays b (broken at) = refl
  plays b (calls cs) = go (eqb (length p) (n * 16384)) refl
    where
      go : (a : Bool) → eqb (length p) (n * 16384) ≡ a
          → pick a (ran cs (answers n p cs)) (replayed (Refused 91 (length p)) p l) ≡ ledger_played n p l (calls cs)
      go true e =
          let g = bounds_are n 1 b in
          let proper : Proper n p = record { some = g.0; most = g.1; sized = eqb-true (length p) (n * 16384) e } in
          rw (demand3.answered n p proper cs, e)
      go false e = rw e

pub replay_refines : (n : ℕ) (s p l : List ℕ) → replay_outcome n s p l ≡ ledger_outcome n s p l
unfolding replay_outcome ledger_outcome
replay_refines n s p l = go (bounds n 1) refl
  where
    go : (a : Bool) → bounds n 1 ≡ a
        → pick a (played n p l (decode s)) (replayed (Refused 26 0) p l) ≡ pick a (ledger_played n p l (decode s)) (replayed (Refused 26 0) p l)
    go true e = plays n p l e (decode s)
    go false e = refl

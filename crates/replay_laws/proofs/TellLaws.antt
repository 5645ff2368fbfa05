-- A log tells the answers. Assumes nothing.
use Prim.Native.Nat.{ℕ, ◌*◌}
use mathlib.Core.Path.{◌≡◌, sym, ◌∙◌}
use mathlib.Core.Bool.{Bool, true, false}
use mathlib.Core.List.{List}
use native.Mathlib.Omega.{arith}
use lib.Dec.{leb, eqb}
use lib.ListN.{length, take, drop}
use lib.Seq.{take-append_seam}
use Rattle.octets.specs.Pick.{pick}
use Rattle.octets.specs.Room.{overlay}
use Rattle.octets.specs.Scan.{scan}
use Rattle.desk_slots.specs.Sound.{bounds}
use Rattle.desk_ledger.specs.Desks.{world}
use Rattle.replay_script.specs.Scripts.{width, calls_in, calls, broken, decode}
use Rattle.replay_log.specs.Logs.{written, room_for}
use Rattle.replay.specs.Outcome.{Replay, replayed, replay_outcome}
use Rattle.replay.specs.Outcome.{Ran, Refused}
use Rattle.replay_laws.specs.Refinement.{ledger_log, ledger_played, ledger_outcome}
use Rattle.replay_laws.specs.Tells.{answers_to, Tells}
use Rattle.replay_laws.proofs.Refinement.{replay_refines}
use Rattle.replay_laws.proofs.UnwrittenLaws.{unwritten}
use Rattle.replay_laws.proofs.SmallLaws.{answers_small}

clash : {A : Type 0} → ◌≡◌ {A = ℕ} 0 1 → A
clash e = absurd (omega arith)

module _ (n : ℕ) (s p l : List ℕ) where
  -- the calls were run
  abbrev ran : Replay
  ran = replayed (Ran (length (calls_in s 0)) (length (ledger_log n (calls_in s 0)))) (world n p (calls_in s 0)).pool (overlay (ledger_log n (calls_in s 0)) l)

  abbrev Wrote : Replay → ℕ → Type 0
  Wrote r w = take w r.log ≡ written (answers_to n s)

  fits : (k w : ℕ) (a b : Bool) → (pick a (pick b ran (replayed (Refused 92 (length l)) p l)) (replayed (Refused 91 (length p)) p l)).answer ≡ Ran k w
      → Wrote (pick a (pick b ran (replayed (Refused 92 (length l)) p l)) (replayed (Refused 91 (length p)) p l)) w
  fits k w true true e =
      let q : length (ledger_log n (calls_in s 0)) ≡ w = cc in
      rw (← q) (take-append_seam (ledger_log n (calls_in s 0)) (drop (length (ledger_log n (calls_in s 0))) l))
  fits k w true false e = clash cc
  fits k w false b e = clash cc

  reads : (k w : ℕ) (a : Bool) → (ledger_played n p l (pick a (calls (calls_in s 0)) (broken (scan width s 0)))).answer ≡ Ran k w
      → Wrote (ledger_played n p l (pick a (calls (calls_in s 0)) (broken (scan width s 0)))) w
  reads k w true e = fits k w (eqb (length p) (n * 16384)) (leb (room_for (calls_in s 0)) (length l)) e
  reads k w false e = clash cc

  starts : (k w : ℕ) (a : Bool) → (pick a (ledger_played n p l (decode s)) (replayed (Refused 26 0) p l)).answer ≡ Ran k w
      → Wrote (pick a (ledger_played n p l (decode s)) (replayed (Refused 26 0) p l)) w
  unfolding decode
  starts k w true e = reads k w (eqb (scan width s 0) (length s)) e
  starts k w false e = clash cc

  -- what a replay that ran wrote
  wrote : (k w : ℕ) → (replay_outcome n s p l).answer ≡ Ran k w → Wrote (replay_outcome n s p l) w
  unfolding ledger_outcome
  wrote k w e = rw (replay_refines n s p l) (starts k w (bounds n 1) (rw (replay_refines n s p l) at e))

pub tells : Tells
tells =
    record {
      small = answers_small;
      wrote = λ n s p l k w e. wrote n s p l k w e;
      injective = λ n s p l k w e n' s' p' l' k' w' e' f. unwritten (answers_to n s) (answers_to n' s') (answers_small n (calls_in s 0)) (answers_small n' (calls_in s' 0))
          (sym (wrote n s p l k w e) ∙ f ∙ wrote n' s' p' l' k' w' e');
    }

-- What a replay answers in each case. Assumes nothing.
use Prim.Native.Nat.{ℕ, ◌+◌, ◌*◌, ◌≤◌}
use mathlib.Core.Path.{◌≡◌, refl, sym, ap, ◌∙◌}
use mathlib.Core.Bool.{Bool, true, false}
use mathlib.Core.List.{List}
use native.Mathlib.Omega.{arith}
use lib.Dec.{leb, eqb}
use lib.ListN.{length}
use borrow.Author.Tests.{eqb-true, leb-true, eq-eqb, ne_eqb}
use Rattle.octets.specs.Pick.{pick}
use Rattle.octets.specs.Scan.{scan}
use Rattle.desk_slots.specs.Sound.{bounds}
use Rattle.desk.specs.Steps.{refuse, fresh_desk, new_step}
use Rattle.desk.specs.declared.Desk.{Desk}
use Rattle.std.specs.Prelude.{Result, Ok, Err}
use Rattle.numbers.specs.Refusals.{number}
use Rattle.numbers.specs.declared.refusal.Reason.TheVariants.{SlotCount, ReplayCall}
use Rattle.numbers.specs.declared.refusal.Refusal.{Refusal}
use Rattle.desk.specs.declared.Turn.{Turn}
use Rattle.desk_ledger.specs.Ticks.{run_ticked, after_ticked}
use Rattle.desk_ledger.specs.Desks.{World, desk_step}
use Rattle.replay_script.specs.Scripts.{width, calls_in, Decoded, calls, broken, decode}
use Rattle.replay_script.specs.Counts.{shown, counted}
use Rattle.replay_log.specs.Logs.{written, Put, room_for}
use Rattle.replay_call.specs.Stepped.{world_of}
use Rattle.replay.specs.Outcome.{replayed, played, replay_outcome}
use Rattle.replay_script.specs.declared.Counted.{Counted}
use Rattle.replay.specs.Outcome.{Ran, Refused}
use Rattle.replay_log.proofs.LogLaws.{room_is}
use Rattle.replay.proofs.RunLaws.{room_enough}

-- ---- what was counted

-- a script of n calls, m of them shows
pub record Decodes (s : List ℕ) (n m : ℕ) : Type 0 where
  pub scans : scan width s 0 ≡ length s
  pub is : decode s ≡ calls (calls_in s 0)
  pub calls : n ≡ length (calls_in s 0)
  pub shows : m ≡ shown (calls_in s 0)

pub decodes : (s : List ℕ) (k : Counted) → Ok k ≡ counted (decode s) → Decodes s k.calls k.shows
unfolding decode
decodes s k e = go (eqb (scan width s 0) (length s)) refl e
  where
    go : (t : Bool) → eqb (scan width s 0) (length s) ≡ t → Ok k ≡ counted (pick t (calls (calls_in s 0)) (broken (scan width s 0))) → Decodes s k.calls k.shows
    go true q h =
        let w : k ≡ record { calls = length (calls_in s 0); shows = shown (calls_in s 0) } = cc in
        record { scans = eqb-true (scan width s 0) (length s) q; is = rw q; calls = ap (λ (x : Counted). x.calls) w; shows = ap (λ (x : Counted). x.shows) w }
    go false q h = let z : ◌≡◌ {A = ℕ} 0 1 = cc in absurd (omega arith)

-- ---- each answer

module _ (n : ℕ) (s p l : List ℕ) where
  pub played_broken : (r : Refusal) → Err r ≡ counted (decode s) → replayed (Refused (number r.0) r.1) p l ≡ played n p l (decode s)
  played_broken r e = go (decode s) e
    where
      go : (x : Decoded) → Err r ≡ counted x → replayed (Refused (number r.0) r.1) p l ≡ played n p l x
      go (calls cs) h = let z : ◌≡◌ {A = ℕ} 0 1 = cc in absurd (omega arith)
      go (broken at) h = let w : r ≡ record { 0 = ReplayCall; 1 = at } = cc in rw w

  module _ (k m : ℕ) (d : Decodes s k m) where
    pub room_test : leb (9 * k + 16380 * m) (length l) ≡ leb (room_for (calls_in s 0)) (length l)
    room_test = ap (λ (r : ℕ). leb r (length l)) (rw (d.calls, d.shows) (sym (room_is (calls_in s 0))))

    pub played_pool : (length p ≡ n * 16384 → ⊥) → replayed (Refused 91 (length p)) p l ≡ played n p l (decode s)
    played_pool h = rw (d.is, ne_eqb (length p) (n * 16384) h)

    pub played_short : length p ≡ n * 16384 → leb (9 * k + 16380 * m) (length l) ≡ false → replayed (Refused 92 (length l)) p l ≡ played n p l (decode s)
    played_short h e = rw (d.is, eq-eqb (length p) (n * 16384) h, sym room_test ∙ e)

    pub log_fits : leb (9 * k + 16380 * m) (length l) ≡ true → (w : World) → length (written (run_ticked desk_step w (calls_in s 0))) ≤ length l
    log_fits e w =
        let f = leb-true (room_for (calls_in s 0)) (length l) (sym room_test ∙ e) in
        omega (arith, room_enough (calls_in s 0) w)

    pub played_ran : (desk : Desk) → desk ≡ (new_step n).desk → length p ≡ n * 16384 → leb (9 * k + 16380 * m) (length l) ≡ true
        → (r : ℕ) (p' l' : List ℕ) → p' ≡ (after_ticked desk_step (world_of desk p) (calls_in s 0)).pool → Put (written (run_ticked desk_step (world_of desk p) (calls_in s 0))) l l' r
        → replayed (Ran k r) p' l' ≡ played n p l (decode s)
    played_ran desk f h e r p' l' q t = rw (d.is, eq-eqb (length p) (n * 16384) h, sym room_test ∙ e, q, t.wrote, t.log, d.calls, f)

-- ---- the slot count

pub fresh_bounds : (n k : ℕ) → (new_step n).answer ≡ Ok k → bounds n 1 ≡ true
unfolding new_step
fresh_bounds n k e = go (bounds n 1) e
  where
    go : (t : Bool) → (pick {A = Turn} t (record { answer = Ok 0; desk = fresh_desk n }) (refuse (fresh_desk 0) SlotCount 0)).answer ≡ Ok k → t ≡ true
    go true h = refl
    go false h = let z : ◌≡◌ {A = ℕ} 0 1 = cc in absurd (omega arith)

module _ (n : ℕ) (s p l : List ℕ) where
  pub outcome_refused : (r : Refusal) → (new_step n).answer ≡ Err r → replayed (Refused (number r.0) r.1) p l ≡ replay_outcome n s p l
  unfolding new_step replay_outcome
  outcome_refused r e = go (bounds n 1) e
    where
      go : (t : Bool) → (pick {A = Turn} t (record { answer = Ok 0; desk = fresh_desk n }) (refuse (fresh_desk 0) SlotCount 0)).answer ≡ Err r
          → replayed (Refused (number r.0) r.1) p l ≡ pick t (played n p l (decode s)) (replayed (Refused 26 0) p l)
      go true h = let z : ◌≡◌ {A = ℕ} 0 1 = cc in absurd (omega arith)
      go false h = let w : r ≡ record { 0 = SlotCount; 1 = 0 } = cc in rw w

  pub outcome_played : bounds n 1 ≡ true → played n p l (decode s) ≡ replay_outcome n s p l
  unfolding replay_outcome
  outcome_played e = rw e

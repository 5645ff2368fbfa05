-- Calls run on a desk: the loop over a script, and the room for the answers. Assumes nothing.
use Prim.Native.Nat.{ℕ, zero, suc, ◌+◌, ◌-◌, ◌*◌, ◌<◌, ◌≤◌}
use mathlib.Core.Path.{◌≡◌, refl, sym, ap, ◌∙◌}
use mathlib.Core.List.{List, [], ◌∷◌, ◌++◌, append_assoc}
use native.Mathlib.Omega.{arith}
use lib.ListN.{length, take, drop, length-append, length-take, length-drop}
use lib.Seq.{drop-drop}
use borrow.Rule.Slice.PartMut.{put_mid}
use Rattle.octets.specs.Scan.{scan}
use Rattle.octets.proofs.Scans.{scan_stop, scan_step}
use Rattle.octets.proofs.Writes.{Written, start, room, put, finish}
use Rattle.desk_slots.specs.Slots.{Slot}
use Rattle.desk_slots.specs.Slots.{Held, No}
use Rattle.desk_pool.specs.Pools.{patch}
use Rattle.desk_pool.proofs.Patches.{put_copied}
use Rattle.desk.specs.Steps.{slot_of, open_step, add_step, release_step, show_in, show_step, held_step, judge_step}
use Rattle.desk.proofs.DeskLaws.{granted}
use Rattle.desk.specs.declared.Desk.{Desk}
use Rattle.desk_ledger.specs.Ticks.{judging, showing, counting, releasing, Ticked, opens_at, adds_at, asks_of, run_ticked, after_ticked}
use Rattle.desk_ledger.specs.Desks.{World, desk_step}
use Rattle.replay_script.specs.Scripts.{width, call_of, calls_in}
use Rattle.replay_script.proofs.ScriptLaws.{whole, calls_step, calls_end}
use Rattle.replay_log.specs.Logs.{entry, written, Put, call_room, room_for}
use Rattle.replay_log.proofs.LogLaws.{part_length, said_room, verdict_room}
use Rattle.replay_call.specs.Stepped.{world_of, Stepped}

-- ---- the loop: what is left to run from `at` on, with d and the pool p as they are now, and the log as far as `to`

pub record Running (w : World) (s log₀ : List ℕ) (d : Desk) (p log : List ℕ) (at to : ℕ) : Type 0 where
  pub inside : at ≤ length s
  pub goes : at + scan width (drop at s) 0 ≡ length s
  pub size : length p ≡ length w.pool
  pub ends : after_ticked desk_step w (calls_in s 0) ≡ after_ticked desk_step (world_of d p) (calls_in (drop at s) 0)
  pub logged : Written (written (run_ticked desk_step w (calls_in s 0))) (written (run_ticked desk_step (world_of d p) (calls_in (drop at s) 0))) log₀ log to

pub run_start : (d : Desk) (p s log : List ℕ) → scan width s 0 ≡ length s → Running (world_of d p) s log d p log 0 0
run_start d p s log e =
    record { inside = omega arith; goes = omega arith; size = refl; ends = refl; logged = start (written (run_ticked desk_step (world_of d p) (calls_in s 0))) log }

module _ {w : World} {s log₀ : List ℕ} {d : Desk} {p log : List ℕ} {at to : ℕ} (h : Running w s log₀ d p log at to) (l : at < length s) where
  pub next_some : 1 ≤ width (drop at s)
  next_some = go (width (drop at s)) refl
    where
      go : (n : ℕ) → width (drop at s) ≡ n → 1 ≤ n
      go zero e = let x = scan_stop width s at e in let y = h.goes in absurd (omega arith)
      go (suc n) e = omega arith

  pub next_inside : at + width (drop at s) ≤ length s
  next_inside =
      let v = whole (drop at s) next_some in
      let f = rw (length-drop at s) at v.fits in
      let e = v.size in
      omega arith

  next_calls : calls_in (drop at s) 0 ≡ call_of (drop at s) ∷ calls_in (drop (at + width (drop at s)) s) 0
  next_calls = calls_step s at (width (drop at s)) l refl next_some

  pub next_log : written (run_ticked desk_step (world_of d p) (calls_in (drop at s) 0))
      ≡ entry (desk_step (world_of d p) (call_of (drop at s))).reply
      ++ written (run_ticked desk_step (desk_step (world_of d p) (call_of (drop at s))).then (calls_in (drop (at + width (drop at s)) s) 0))
  unfolding run_ticked written
  next_log = ap (λ (cs : List Ticked). written (run_ticked desk_step (world_of d p) cs)) next_calls

  pub next_room : length (written (run_ticked desk_step w (calls_in s 0))) ≤ length log₀
      → to + length (entry (desk_step (world_of d p) (call_of (drop at s))).reply) ≤ length log
  next_room fits =
      omega (arith, room h.logged fits, ap length next_log ∙ length-append (entry (desk_step (world_of d p) (call_of (drop at s))).reply) (written (run_ticked desk_step (desk_step (world_of d p) (call_of (drop at s))).then (calls_in (drop (at + width (drop at s)) s) 0))))

  pub next : length (written (run_ticked desk_step w (calls_in s 0))) ≤ length log₀ → (d' : Desk) (p' part' : List ℕ) (n : ℕ) → length p' ≡ length p
      → Stepped (world_of d p) (call_of (drop at s)) d' p' (take (length log - to) (drop to log)) part' n
      → Running w s log₀ d' p' (put_mid to (length log - to) log part') (at + width (drop at s)) (to + n)
  unfolding after_ticked patch
  next fits d' p' part' n same t =
      let x = entry (desk_step (world_of d p) (call_of (drop at s))).reply in
      let r = next_room fits in
      let g = scan_step width s at (width (drop at s)) refl next_some next_inside in
      let q : put_mid to (length log - to) log part' ≡ take to log ++ x ++ drop (to + length x) log
      = put_copied log x part' to r t.put.log ∙ ap (λ (y : List ℕ). take to log ++ (x ++ y)) (drop-drop (length x) to log) ∙ sym (append_assoc (take to log) x (drop (to + length x) log)) in
      rw t.put.wrote
      (record {
        inside = next_inside;
        goes = sym g ∙ h.goes;
        size = same ∙ h.size;
        ends = h.ends ∙ ap (after_ticked desk_step (world_of d p)) next_calls
            ∙ ap (λ (v : World). after_ticked desk_step v (calls_in (drop (at + width (drop at s)) s) 0)) (sym t.world);
        logged = put h.logged x (written (run_ticked desk_step (world_of d' p') (calls_in (drop (at + width (drop at s)) s) 0))) (put_mid to (length log - to) log part')
            (next_log ∙ ap (λ (v : World). x ++ written (run_ticked desk_step v (calls_in (drop (at + width (drop at s)) s) 0))) (sym t.world)) r q;
      })

pub run_end : {w : World} {s log₀ : List ℕ} {d : Desk} {p log : List ℕ} {at to : ℕ} → Running w s log₀ d p log at to → length s ≤ at
    → (p ≡ (after_ticked desk_step w (calls_in s 0)).pool) × Put (written (run_ticked desk_step w (calls_in s 0))) log₀ log to
unfolding after_ticked run_ticked written
run_end {w} {s} {log₀} {d} {p} {log} {at} {to} h l =
    let none = calls_end s at l in
    let e = rw none at h.ends in
    let f = finish (rw none at h.logged) in
    (ap (λ (v : World). v.pool) (sym e), record { wrote = f.0; log = f.1 ∙ ap (λ (n : ℕ). written (run_ticked desk_step w (calls_in s 0)) ++ drop n log₀) f.0 })

-- ---- room

shown_small : (d : Desk) (p : List ℕ) (t : ℕ) → length (show_step d p t).octets ≤ 16384
unfolding show_step
shown_small d p t = go (slot_of d (length p) t) refl
  where
    go : (x : Slot) → slot_of d (length p) t ≡ x → length (show_in p x).octets ≤ 16384
    go (No n) e = omega arith
    go (Held i o) e =
        let g = granted d (length p) t i o e in
        let r = g.room in
        rw (length-take o.held (drop (i * 16384) p)) (omega arith)

reply_room : (w : World) (c : Ticked) → length (entry (desk_step w c).reply) ≤ call_room c
reply_room w (opens_at m τ) = said_room (open_step w.desk w.pool m τ).answer
reply_room w (adds_at t q τ) = said_room (add_step w.desk w.pool t q τ).answer
reply_room w (asks_of t judging) = verdict_room (judge_step w.desk w.pool t)
reply_room w (asks_of t showing) =
    omega (arith, part_length (show_step w.desk w.pool t).octets, shown_small w.desk w.pool t)
reply_room w (asks_of t counting) = said_room (held_step w.desk w.pool t)
reply_room w (asks_of t releasing) = said_room (release_step w.desk w.pool t).answer

pub room_enough : (cs : List Ticked) (w : World) → length (written (run_ticked desk_step w cs)) ≤ room_for cs
unfolding run_ticked written room_for
room_enough [] w = omega arith
room_enough (c ∷ cs) w =
    rw (length-append (entry (desk_step w c).reply) (written (run_ticked desk_step (desk_step w c).then cs)))
    (omega (arith, reply_room w c, room_enough cs (desk_step w c).then))

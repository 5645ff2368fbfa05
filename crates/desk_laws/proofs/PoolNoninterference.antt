-- Noninterference of the pool: after the same calls, desks whose pools have the same size are the same, whatever the pools held. Assumes nothing.
use Prim.Native.Nat.{ℕ, ◌+◌, ◌*◌}
use mathlib.Core.Path.{◌≡◌, refl}
use mathlib.Core.Bool.{Bool, true, false}
use mathlib.Core.List.{List, [], ◌∷◌}
use lib.Dec.{ltb, eqb}
use lib.ListN.{length}
use Rattle.octets.specs.Pick.{pick}
use Rattle.desk_entries.specs.Search.{first_at}
use Rattle.desk_slots.specs.Slots.{free_at}
use Rattle.desk.specs.Steps.{sound, seen, idle_slot, Turned, reclaim_in, open_in, open_step, slot_of, add_in, add_step, release_in, release_step}
use Rattle.desk_entries.specs.Search.{Position}
use Rattle.desk_entries.specs.Search.{At, Nowhere, Barred}
use Rattle.desk_slots.specs.Slots.{Slot}
use Rattle.desk_slots.specs.Slots.{Held, No}
use Rattle.desk.specs.declared.Desk.{Desk}
use Rattle.desk_ledger.specs.Ticks.{judging, showing, counting, releasing, Ticked, opens_at, adds_at, asks_of, Clocked, clocked_step, fresh_clocked, after_ticked}
use Rattle.desk_ledger.specs.Desks.{World, desk_step, fresh, Proper, world}
use Rattle.desk_laws.proofs.Relation.{Follows}
use Rattle.desk_laws.proofs.Following.{step_follows, fresh_follows}

-- the desk after one of two outcomes
either : (b : Bool) (x x' y y' : Turned) → x.desk ≡ x'.desk → y.desk ≡ y'.desk → (pick b x y).desk ≡ (pick b x' y').desk
either true x x' y y' e f = e
either false x x' y y' e f = f

module _ (d : Desk) (p q : List ℕ) (e : length p ≡ length q) where
  in_idle : (m now : ℕ) (x : Position) → (reclaim_in d p m now x).desk ≡ (reclaim_in d q m now x).desk
  in_idle m now (At i) = refl
  in_idle m now Nowhere = refl
  in_idle m now (Barred n) = refl

  in_place : (m now : ℕ) (x : Position) → (open_in d p m now x).desk ≡ (open_in d q m now x).desk
  in_place m now (At i) = refl
  in_place m now Nowhere = in_idle m now (idle_slot d now)
  in_place m now (Barred n) = refl

  open_desk : (m tick : ℕ) → (open_step d p m tick).desk ≡ (open_step d q m tick).desk
  unfolding open_step
  open_desk m tick =
      rw e
      (either (sound d) _ _ _ _
      (either (eqb (length q) (d.slots * 16384)) _ _ _ _ (either (eqb d.next 4294967295) _ _ _ _ refl (in_place m (seen d tick) (first_at (free_at d.entries) 0 d.slots))) refl)
      refl)

  in_slot : (chunk : List ℕ) (now : ℕ) (s : Slot) → (add_in d p chunk now s).desk ≡ (add_in d q chunk now s).desk
  in_slot chunk now (No n) = refl
  in_slot chunk now (Held i s) = either (ltb 16384 (s.held + length chunk)) _ _ _ _ refl refl

  add_desk : (t : ℕ) (chunk : List ℕ) (tick : ℕ) → (add_step d p t chunk tick).desk ≡ (add_step d q t chunk tick).desk
  unfolding add_step
  add_desk t chunk tick = rw e (in_slot chunk (seen d tick) (slot_of d (length q) t))

  release_desk : (t : ℕ) → (release_step d p t).desk ≡ (release_step d q t).desk
  unfolding release_step
  release_desk t = rw e (go (slot_of d (length q) t))
    where
      go : (s : Slot) → (release_in d p s).desk ≡ (release_in d q s).desk
      go (No n) = refl
      go (Held i s) = refl

  step_desk : (c : Ticked) → (desk_step (record { desk = d; pool = p }) c).then.desk ≡ (desk_step (record { desk = d; pool = q }) c).then.desk
  step_desk (opens_at m τ) = open_desk m τ
  step_desk (adds_at t chunk τ) = add_desk t chunk τ
  step_desk (asks_of t judging) = refl
  step_desk (asks_of t showing) = refl
  step_desk (asks_of t counting) = refl
  step_desk (asks_of t releasing) = release_desk t

-- two desks that are the same, each with its pool, and the ledger that both follow
along : (cs : List Ticked) (w v : World) (c : Clocked) → Follows w.desk w.pool c → Follows v.desk v.pool c → w.desk ≡ v.desk
    → (after_ticked desk_step w cs).desk ≡ (after_ticked desk_step v cs).desk
unfolding after_ticked
along [] w v c a b e = e
along (x ∷ xs) w v c a b e =
    let s : length w.pool ≡ length v.pool = rw (a.refines.sized, b.refines.sized, e) refl in
    let f : (desk_step w x).then.desk ≡ (desk_step v x).then.desk = rw e (step_desk v.desk w.pool v.pool s x) in
    along xs (desk_step w x).then (desk_step v x).then (clocked_step c x).then (step_follows w c x a).keeps (step_follows v c x b).keeps f

pub same_desk : (n : ℕ) (p q : List ℕ) → Proper n p → Proper n q → (xs : List Ticked) → (world n p xs).desk ≡ (world n q xs).desk
same_desk n p q f g xs =
    along xs (fresh n p) (fresh n q) (fresh_clocked n) (fresh_follows n p f.some f.most f.sized) (fresh_follows n q g.some g.most g.sized) refl

-- What an opening does by the position found, and an add or a release by the slot of a ticket. Assumes nothing.
use Prim.Native.Nat.{ℕ, ◌*◌, ◌<◌}
use mathlib.Core.Path.{◌≡◌, refl, sym, ap, ◌∙◌}
use mathlib.Core.Bool.{Bool, true, false}
use mathlib.Core.List.{List}
use native.Mathlib.Omega.{arith}
use lib.Dec.{eqb}
use lib.ListN.{length}
use borrow.Author.Tests.{eqb-true, eqb-false, eq-eqb, ne_eqb}
use Rattle.octets.specs.Pick.{pick}
use Rattle.numbers.specs.Refusals.{number}
use Rattle.numbers.specs.declared.refusal.Reason.TheVariants.{TicketsUsedUp}
use Rattle.numbers.specs.declared.refusal.Refusal.{Refusal}
use Rattle.std.specs.Prelude.{Option, Some, None, Result, Ok, Err}
use Rattle.desk_entries.specs.Search.{Position, At, Nowhere, Barred, place, first_at, same_as}
use Rattle.desk_slots.specs.Sound.{ticket_at}
use Rattle.desk_slots.specs.Slots.{Held, position, free_at, position_of, idle_at, idle_of}
use Rattle.desk_entries.proofs.Searches.{clash, unbarred, lowest_at_is}
use Rattle.desk_slots.proofs.SoundLaws.{sound_at_lem as soundness, at_sound as tested}
use Rattle.desk_slots.proofs.SlotLaws.{Granted as GrantedIn, granted as granted_in, clear, barred, free_position}
use Rattle.desk_entries.specs.declared.Session.{Session}
use Rattle.desk.specs.Steps.{Sound, sound, guarded, slot_of, seen, idle_slot, Turned, turned, refuse, refused, open_in, Takes, open_step}
use Rattle.desk.specs.declared.Desk.{Desk}
use Rattle.desk.specs.declared.Turn.{Turn}

-- ---- the laws of slots, for the entries, slot count and next ticket of a desk

pub sound_is : (d : Desk) → sound d ≡ true → Sound d
sound_is d e = soundness d.entries d.slots d.next d.stamps d.tick e

pub is_sound : (d : Desk) → Sound d → sound d ≡ true
is_sound d s = tested d.entries d.slots d.next d.stamps d.tick s

abbrev pub Granted : Desk → ℕ → ℕ → ℕ → Session → Type 0
Granted d size t i s = GrantedIn d.entries d.slots d.next d.stamps d.tick size t i s

pub granted : (d : Desk) (size t i : ℕ) (s : Session) → slot_of d size t ≡ Held i s → Granted d size t i s
granted d size t i s e = granted_in d.entries d.slots d.next d.stamps d.tick size t i s e

-- ---- an opening

-- what an opening does after a search for 0
abbrev pub open_after : Desk → List ℕ → ℕ → ℕ → Position → Turned
open_after d p m now (Barred n) = refused d p 0 n
open_after d p m now Nowhere = pick (eqb d.next 4294967295) (refused d p 0 21) (open_in d p m now Nowhere)
open_after d p m now (At i) = pick (eqb d.next 4294967295) (refused d p 0 21) (open_in d p m now (At i))

pub open_position : (d : Desk) (p : List ℕ) (m tick : ℕ) (x : Position) → position_of d.entries d.slots d.next d.stamps d.tick (length p) 0 ≡ x
    → open_after d p m (seen d tick) x ≡ open_step d p m tick
unfolding open_step
open_position d p m tick x e =
    ap (open_after d p m now) (sym e ∙ free_position d.entries d.slots d.next d.stamps d.tick (length p)) ∙ go (sound d) (eqb (length p) (d.slots * 16384))
  where
    now : ℕ
    now = seen d tick

    place : (r : Position) → first_at (free_at d.entries) 0 d.slots ≡ r
        → open_after d p m now r ≡ pick (eqb d.next 4294967295) (refused d p 0 21) (open_in d p m now r)
    place (At i) q = refl
    place Nowhere q = refl
    place (Barred n) q = unbarred (free_at d.entries) d.slots 0 n q

    go : (a b : Bool)
        → open_after d p m now (pick a (pick b (first_at (free_at d.entries) 0 d.slots) (Barred 24)) (Barred 25))
        ≡ pick {A = Turned} a (pick b (pick (eqb d.next 4294967295) (refused d p 0 21) (open_in d p m now (first_at (free_at d.entries) 0 d.slots))) (refused d p 0 24)) (refused d p 0 25)
    go true true = place (first_at (free_at d.entries) 0 d.slots) refl
    go true false = refl
    go false b = refl

-- a refusal at 0 leaves all as it is
turned_refuse : (d : Desk) (p : List ℕ) (n : Refusal) → n.1 ≡ 0 → (t : Turn) → t ≡ refuse d n.0 n.1 → turned t p ≡ refused d p 0 (number n.0)
turned_refuse d p n z t g = ap (λ (r : Turn). turned r p) g ∙ ap (λ (a : ℕ). turned (refuse d n.0 a) p) z

module _ (d : Desk) (p : List ℕ) (m tick : ℕ) (x : Result (Option ℕ) Refusal) (e : position x ≡ position_of d.entries d.slots d.next d.stamps d.tick (length p) 0) where
  pub open_barred : (n : Refusal) → x ≡ Err n → n.1 ≡ 0 → (t : Turn) → t ≡ refuse d n.0 n.1 → turned t p ≡ open_step d p m tick
  open_barred n f z t g = turned_refuse d p n z t g ∙ open_position d p m tick (Barred (number n.0)) (sym e ∙ ap position f)

  open_found : (o : Option ℕ) → x ≡ Ok o → pick (eqb d.next 4294967295) (refused d p 0 21) (open_in d p m (seen d tick) (place o)) ≡ open_step d p m tick
  open_found None f = open_position d p m tick Nowhere (sym e ∙ ap position f)
  open_found (Some i) f = open_position d p m tick (At i) (sym e ∙ ap position f)

  pub open_used : (o : Option ℕ) → x ≡ Ok o → d.next ≡ 4294967295 → (t : Turn) → t ≡ refuse d TicketsUsedUp 0 → turned t p ≡ open_step d p m tick
  open_used o f n t g = ap (λ (r : Turn). turned r p) g ∙ (rw (eq-eqb d.next 4294967295 n) at (open_found o f))

  pub open_left : (o : Option ℕ) → x ≡ Ok o → (d.next ≡ 4294967295 → ⊥) → open_in d p m (seen d tick) (place o) ≡ open_step d p m tick
  open_left o f n = rw (ne_eqb d.next 4294967295 n) at (open_found o f)

-- where a search was not barred, a desk whose tickets are left can take a slot
pub can_take : (d : Desk) (p : List ℕ) → position_of d.entries d.slots d.next d.stamps d.tick (length p) 0 ≡ Nowhere → d.next < 4294967295 → Takes d p
unfolding position_of
can_take d p e l = go (eqb (guarded d (length p) (λ n. n) 0) 0) refl
  where
    go : (b : Bool) → eqb (guarded d (length p) (λ n. n) 0) 0 ≡ b → Takes d p
    go true b =
        let k = clear d.entries d.slots d.next d.stamps d.tick (length p) (eqb-true (guarded d (length p) (λ n. n) 0) 0 b) in
        record { few = k.sound.entries.most; left = l; fits = omega (arith, k.sized) }
    go false b =
        let h : Barred (guarded d (length p) (λ n. n) 0) ≡ Nowhere =
        sym (barred d.entries d.slots d.next d.stamps d.tick (length p) Barred (first_at (same_as (ticket_at d.entries) 0) 0 d.slots) (eqb-false (guarded d (length p) (λ n. n) 0) 0 b)) ∙ e in
        clash cc

-- an idle slot is one of the desk's
pub idle_inside : (d : Desk) (now i : ℕ) → idle_slot d now ≡ At i → i < d.slots
unfolding idle_of
idle_inside d now i e = (lowest_at_is (idle_at d.entries d.stamps now) d.slots i e).inside

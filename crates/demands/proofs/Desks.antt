-- What the desk's entries refuse. Assumes nothing.
use Prim.Native.Nat.{ℕ, ◌+◌, ◌*◌, ◌<◌, ◌≤◌}
use mathlib.Core.Path.{◌≡◌, refl, sym, ap, ◌∙◌}
use mathlib.Core.Bool.{Bool, true, false, false≢true}
use mathlib.Core.List.{List, []}
use mathlib.Core.Logic.{◌⊎◌, inl, inr}
use native.Mathlib.Omega.{arith}
use lib.Dec.{ltb, leb, eqb}
use lib.ListN.{length}
use borrow.Author.Tests.{ltb-true, ltb-false, lt-ltb, leb-true, le-leb, eqb-true, eqb-false, eq-eqb, ne_eqb}
use Rattle.octets.specs.Pick.{pick}
use Rattle.reader.specs.Outcome.{judge_of}
use Rattle.reader.specs.Outcome.{Verdict}
use Rattle.reader.specs.Outcome.{Refused as Unread}
use Rattle.desk_entries.specs.Search.{first_at, lowest_at}
use Rattle.desk_slots.specs.Sound.{state_at, tick_at, bounds}
use Rattle.desk_slots.specs.Slots.{open_at, free_at, idle_at, idle_of, at_position}
use Rattle.desk.specs.Steps.{Sound, sound, Turned, turned, refuse, refused, fresh_desk, new_step, slot_of, seen, reclaim_in, open_in, open_step, add_in, add_step, release_in, release_step, octets_in, show_step, held_in, held_step, judge_in, judge_step}
use Rattle.desk_entries.specs.Search.{Position}
use Rattle.desk_entries.specs.Search.{At, Nowhere, Barred}
use Rattle.desk_entries.specs.declared.Session.{Session}
use Rattle.desk_entries.specs.declared.State.{State}
use Rattle.desk_entries.specs.declared.State.TheVariants.{Free, Open}
use Rattle.desk_slots.specs.Slots.{Slot}
use Rattle.desk_slots.specs.Slots.{Held, No}
use Rattle.desk.specs.declared.Desk.{Desk}
use Rattle.std.specs.Prelude.{Ok}
use Rattle.numbers.specs.declared.refusal.Reason.TheVariants.{SlotCount}
use Rattle.desk.specs.Answer.{Answer}
use Rattle.desk.specs.Answer.{Done, Refused}
use Rattle.desk_entries.proofs.Searches.{first_at_is, first_at_not, unbarred, LowestIs, lowest_at_is, lowest_at_not, lowest_unbarred}
use Rattle.desk_slots.proofs.SoundLaws.{bounds_are, in_bounds}
use Rattle.desk_slots.proofs.SlotLaws.{free_is, session_at, slot_inside}
use Rattle.desk.proofs.DeskLaws.{sound_is, is_sound, granted}
use Rattle.desk_laws.specs.Demand.{OpenOn}
use Rattle.reader_grammar.proofs.Refused.{refused_law}
use Rattle.demands.specs.Demand1.{Ready, unsound, other_size, TicketBy, unready, closed, Holds, NewBy, range, OpenBy, no_desk, used_up, full, AddBy, no_upload, too_much, JudgeBy, nothing, octets}
use Rattle.demands.proofs.Refusing.{ByCase as Exactly, TurningByCase as Turning, clash, not-true, Telling, itself, first, last}
use Rattle.demands.proofs.Cards.{verdict_tells}
use Rattle.property_table.specs.declared.Edition.TheVariants.{First}

refusal_number : (m q n p : ℕ) → Refused m q ≡ Refused n p → m ≡ n
refusal_number m q n p e = cc

refusal_place : (m q n p : ℕ) → Refused m q ≡ Refused n p → q ≡ p
refusal_place m q n p e = cc

answer_tells : Telling (λ (a : Answer). a) Refused
answer_tells = record { number = refusal_number; place = refusal_place }

done_no : {A : Type 0} (m n q : ℕ) → Done m ≡ Refused n q → A
done_no m n q e = clash cc

-- ---- 26

-- a new desk, and a pool of no octets beside it
started : ℕ → Turned
started slots = pick (bounds slots 1) (record { answer = Done 0; desk = fresh_desk slots; pool = [] }) (refused (fresh_desk 0) [] 0 26)

started_is : (slots : ℕ) → turned (new_step slots) [] ≡ started slots
unfolding new_step started
started_is slots = go (bounds slots 1)
  where
    go : (b : Bool) → turned (pick b (record { answer = Ok 0; desk = fresh_desk slots }) (refuse (fresh_desk 0) SlotCount 0)) []
        ≡ pick b (record { answer = Done 0; desk = fresh_desk slots; pool = [] }) (refused (fresh_desk 0) [] 0 26)
    go true = refl
    go false = refl

new_tells : Telling (λ (r : Turned). r.answer) (λ n q. refused (fresh_desk 0) [] q n)
new_tells = record { number = refusal_number; place = refusal_place }

new_told : (slots n q : ℕ) → (started slots).answer ≡ Refused n q → NewBy slots n q
unfolding started
new_told slots n q e =
    last new_tells (NewBy slots) (bounds slots 1) 26 0 n q _ e
    (λ b. range (out b (eqb slots 0) refl (ltb 40 slots) refl)) (λ b f. done_no 0 n q f)
  where
    out : bounds slots 1 ≡ false → (a : Bool) → eqb slots 0 ≡ a → (b : Bool) → ltb 40 slots ≡ b → (slots ≡ 0) ⊎ (40 < slots)
    out e true a b c = inl (eqb-true slots 0 a)
    out e false a true c = inr (ltb-true 40 slots c)
    out e false a false c = absurd (false≢true (sym e ∙ in_bounds slots 1 (omega (arith, eqb-false slots 0 a)) (ltb-false 40 slots c) (omega arith)))

new_so : (slots n q : ℕ) → NewBy slots n q → started slots ≡ refused (fresh_desk 0) [] q n
unfolding started
new_so slots n q (range h) = rw (not-true (bounds slots 1) (λ b. outside slots h (bounds_are slots 1 b)))
  where
    outside : (slots : ℕ) → (slots ≡ 0) ⊎ (40 < slots) → (1 ≤ slots) × (slots ≤ 40) × (1 ≤ 1) → ⊥
    outside slots (inl z) b = omega arith
    outside slots (inr z) b = omega arith

pub new_exactly : (slots : ℕ) → Turning (turned (new_step slots) []) (fresh_desk 0) [] (NewBy slots)
new_exactly slots =
    record {
      only = λ n q e. new_told slots n q (ap (λ (r : Turned). r.answer) (sym (started_is slots)) ∙ e);
      unchanged = λ n q b. started_is slots ∙ new_so slots n q b;
    }

module _ (d : Desk) (p : List ℕ) where
  pub turn_tells : Telling (λ (r : Turned). r.answer) (λ n q. refused d p q n)
  turn_tells = record { number = refusal_number; place = refusal_place }

  unsound_so : sound d ≡ false → Sound d → ⊥
  unsound_so e s = false≢true (sym e ∙ is_sound d s)

  -- ---- 25, 24

  ready : sound d ≡ true → eqb (length p) (d.slots * 16384) ≡ true → Ready d p
  ready a b = record { sound = sound_is d a; size = eqb-true (length p) (d.slots * 16384) b }

  -- ---- 25, 24, 21, 20

  module _ (m tick : ℕ) where
    abbrev now : ℕ
    now = seen d tick

    -- the ticket of entry i where it is idle, else 0
    abbrev idles : ℕ → ℕ
    idles i = idle_at d.entries d.stamps now i

    open_told : (n q : ℕ) → (open_step d p m tick).answer ≡ Refused n q → OpenBy d p tick n q
    unfolding open_step idle_of
    open_told n q e =
        last turn_tells (OpenBy d p tick) (sound d) 25 0 n q _ e (λ a. no_desk (unsound (unsound_so a))) (λ a f.
        last turn_tells (OpenBy d p tick) (eqb (length p) (d.slots * 16384)) 24 0 n q _ f
        (λ b. no_desk (other_size (sound_is d a) (eqb-false (length p) (d.slots * 16384) b))) (λ b g.
        first turn_tells (OpenBy d p tick) (eqb d.next 4294967295) 21 0 n q _ g (λ c. used_up (ready a b) (eqb-true d.next 4294967295 c)) (λ c h.
        place (ready a b) (eqb-false d.next 4294967295 c) (first_at (free_at d.entries) 0 d.slots) refl h)))
      where
        taken : first_at (free_at d.entries) 0 d.slots ≡ Nowhere → (i : ℕ) → i < d.slots → state_at d.entries i ≡ Free → ⊥
        taken x i l f =
            let z : free_at d.entries i ≡ true = rw f in
            false≢true (sym (first_at_not (free_at d.entries) d.slots 0 x i (omega arith) (omega arith)) ∙ z)

        awake : Ready d p → lowest_at idles d.slots ≡ Nowhere → (i : ℕ) (s : Session) → i < d.slots → state_at d.entries i ≡ Open s → tick_at d.stamps i + 600 ≤ now → ⊥
        awake r y i s l f h =
            let k : idles i ≡ s.ticket = rw (f, le-leb (tick_at d.stamps i + 600) now h) in
            let g = (r.sound.entries.each i (omega (arith, r.sound.entries.most)) s f).low in
            omega (arith, k, lowest_at_not idles d.slots y i l)

        reclaim : Ready d p → (d.next ≡ 4294967295 → ⊥) → first_at (free_at d.entries) 0 d.slots ≡ Nowhere
            → (y : Position) → lowest_at idles d.slots ≡ y → (reclaim_in d p m now y).answer ≡ Refused n q → OpenBy d p tick n q
        reclaim r l x Nowhere y e = itself turn_tells (OpenBy d p tick) 20 0 n q e (full r l (taken x) (awake r y))
        reclaim r l x (Barred k) y e = lowest_unbarred idles d.slots k y
        reclaim r l x (At i) y e = done_no d.next n q e

        place : Ready d p → (d.next ≡ 4294967295 → ⊥) → (x : Position) → first_at (free_at d.entries) 0 d.slots ≡ x → (open_in d p m now x).answer ≡ Refused n q → OpenBy d p tick n q
        place r l Nowhere x e = reclaim r l x (lowest_at idles d.slots) refl e
        place r l (Barred k) x e = unbarred (free_at d.entries) d.slots 0 k x
        place r l (At i) x e = done_no d.next n q e

    open_so : (n q : ℕ) → OpenBy d p tick n q → open_step d p m tick ≡ refused d p q n
    unfolding open_step idle_of
    open_so n q (no_desk (unsound h)) = rw (not-true (sound d) (λ e. h (sound_is d e)))
    open_so n q (no_desk (other_size s h)) = rw (is_sound d s, ne_eqb (length p) (d.slots * 16384) h)
    open_so n q (used_up r h) = rw (is_sound d r.sound, eq-eqb (length p) (d.slots * 16384) r.size, eq-eqb d.next 4294967295 h)
    open_so n q (full r l f g) =
        rw (is_sound d r.sound, eq-eqb (length p) (d.slots * 16384) r.size, ne_eqb d.next 4294967295 l)
        (go (first_at (free_at d.entries) 0 d.slots) refl)
      where
        none : (i : ℕ) → LowestIs idles d.slots i → ⊥
        none i k = at (state_at d.entries i) refl (leb (tick_at d.stamps i + 600) now) refl
          where
            at : (x : State) → state_at d.entries i ≡ x → (b : Bool) → leb (tick_at d.stamps i + 600) now ≡ b → ⊥
            at x y false b = k.some (rw b)
            at Free y true b = k.some (rw (y, b))
            at (Open s) y true b = g i s k.inside y (leb-true (tick_at d.stamps i + 600) now b)

        idle : (y : Position) → lowest_at idles d.slots ≡ y → reclaim_in d p m now y ≡ refused d p 0 20
        idle Nowhere q = refl
        idle (Barred k) q = lowest_unbarred idles d.slots k q
        idle (At i) q = absurd (none i (lowest_at_is idles d.slots i q))

        go : (x : Position) → first_at (free_at d.entries) 0 d.slots ≡ x → open_in d p m now x ≡ refused d p 0 20
        go Nowhere q = idle (lowest_at idles d.slots) refl
        go (Barred k) q = unbarred (free_at d.entries) d.slots 0 k q
        go (At i) q =
            let w = first_at_is (free_at d.entries) d.slots 0 i q in
            absurd (f i (omega arith) (free_is (state_at d.entries i) w.0))

    pub open_exactly : Turning (open_step d p m tick) d p (OpenBy d p tick)
    open_exactly = record { only = open_told; unchanged = open_so }

  module _ (t : ℕ) where
    -- ---- 25, 24, 22

    slot_told : (n : ℕ) → slot_of d (length p) t ≡ No n → TicketBy d p t n 0
    unfolding Rattle.desk_slots.specs.Slots.slot_of
    slot_told n e = go (sound d) refl (eqb (length p) (d.slots * 16384)) refl e
      where
        same : (m : ℕ) → No m ≡ No n → TicketBy d p t m 0 → TicketBy d p t n 0
        same m e b = let w : m ≡ n = cc in rw (← w) b

        none : first_at (open_at d.entries t) 0 40 ≡ Nowhere → Sound d → OpenOn d t → ⊥
        none q s o =
            let m = s.entries.most in
            let z : open_at d.entries t o.0 ≡ true = rw o.1.1.1 (eq-eqb o.1.0.ticket t o.1.1.2) in
            false≢true (sym (first_at_not (open_at d.entries t) 40 0 q o.0 (omega arith) (omega (arith, o.1.1.0))) ∙ z)

        found : Ready d p → (x : Position) → first_at (open_at d.entries t) 0 40 ≡ x → at_position d.entries x ≡ No n → TicketBy d p t n 0
        found r Nowhere q e = same 22 e (closed r (none q r.sound))
        found r (Barred k) q e = unbarred (open_at d.entries t) 40 0 k q
        found r (At i) q e =
            let s = session_at d.entries t i (first_at_is (open_at d.entries t) 40 0 i q).0 in
            let z : Held i s.0 ≡ No n = rw s.1.0 at e in
            clash cc

        go : (a : Bool) → sound d ≡ a → (b : Bool) → eqb (length p) (d.slots * 16384) ≡ b
            → pick a (pick b (at_position d.entries (first_at (open_at d.entries t) 0 40)) (No 24)) (No 25) ≡ No n → TicketBy d p t n 0
        go false a b q e = same 25 e (unready (unsound (unsound_so a)))
        go true a false q e = same 24 e (unready (other_size (sound_is d a) (eqb-false (length p) (d.slots * 16384) q)))
        go true a true q e = found (ready a q) (first_at (open_at d.entries t) 0 40) refl e

    slot_so : (n q : ℕ) → TicketBy d p t n q → (slot_of d (length p) t ≡ No n) × (q ≡ 0)
    unfolding Rattle.desk_slots.specs.Slots.slot_of
    slot_so n q (unready (unsound h)) = (rw (not-true (sound d) (λ e. h (sound_is d e))), refl)
    slot_so n q (unready (other_size s h)) = (rw (is_sound d s, ne_eqb (length p) (d.slots * 16384) h), refl)
    slot_so n q (closed r h) =
        (rw (is_sound d r.sound, eq-eqb (length p) (d.slots * 16384) r.size) (go (first_at (open_at d.entries t) 0 40) refl), refl)
      where
        go : (x : Position) → first_at (open_at d.entries t) 0 40 ≡ x → at_position d.entries x ≡ No 22
        go Nowhere q = refl
        go (Barred k) q = unbarred (open_at d.entries t) 40 0 k q
        go (At i) q =
            let w = first_at_is (open_at d.entries t) 40 0 i q in
            let s = session_at d.entries t i w.0 in
            absurd (h (i, (s.0, (slot_inside d.entries d.slots d.next r.sound.entries i (omega arith) s.0 s.1.0, s.1.0, s.1.1))))

    -- a session with the ticket is what is found
    pub held_by : (i : ℕ) (s : Session) → slot_of d (length p) t ≡ Held i s → Holds d p t i s
    held_by i s e =
        let g = granted d (length p) t i s e in
        record { ready = record { sound = g.sound; size = g.sized }; inside = g.inside; state = g.state; ticket = g.ticket }

    pub held_so : (i : ℕ) (s : Session) → Holds d p t i s → slot_of d (length p) t ≡ Held i s
    held_so i s h = go (slot_of d (length p) t) refl
      where
        never : (n q : ℕ) → TicketBy d p t n q → ⊥
        never n q (unready (unsound f)) = f h.ready.sound
        never n q (unready (other_size s f)) = f h.ready.size
        never n q (closed r f) = f (i, (s, (h.inside, h.state, h.ticket)))

        go : (x : Slot) → slot_of d (length p) t ≡ x → slot_of d (length p) t ≡ Held i s
        go (No n) e = absurd (never n 0 (slot_told n e))
        go (Held j u) e =
            let g = granted d (length p) t j u e in
            let m = g.few in
            let l = h.inside in
            let w : j ≡ i = h.ready.sound.entries.distinct j i g.short (omega arith) u s g.state h.state (g.ticket ∙ sym h.ticket) in
            let v : state_at d.entries i ≡ Open u = rw w at g.state in
            let o : Open u ≡ Open s = sym v ∙ h.state in
            let z : u ≡ s = cc in
            e ∙ rw (w, z)

    -- ---- release, held, show

    release_told : (n q : ℕ) → (release_step d p t).answer ≡ Refused n q → TicketBy d p t n q
    unfolding release_step
    release_told n q e = go (slot_of d (length p) t) refl e
      where
        go : (x : Slot) → slot_of d (length p) t ≡ x → (release_in d p x).answer ≡ Refused n q → TicketBy d p t n q
        go (No m) f e = itself turn_tells (TicketBy d p t) m 0 n q e (slot_told m f)
        go (Held i s) f e = done_no 0 n q e

    release_so : (n q : ℕ) → TicketBy d p t n q → release_step d p t ≡ refused d p q n
    unfolding release_step
    release_so n q b = let w = slot_so n q b in rw (w.0, w.1)

    pub release_exactly : Turning (release_step d p t) d p (TicketBy d p t)
    release_exactly = record { only = release_told; unchanged = release_so }

    held_told : (n q : ℕ) → held_step d p t ≡ Refused n q → TicketBy d p t n q
    unfolding held_step
    held_told n q e = go (slot_of d (length p) t) refl e
      where
        go : (x : Slot) → slot_of d (length p) t ≡ x → held_in x ≡ Refused n q → TicketBy d p t n q
        go (No m) f e = itself answer_tells (TicketBy d p t) m 0 n q e (slot_told m f)
        go (Held i s) f e = done_no s.held n q e

    held_refused : (n q : ℕ) → TicketBy d p t n q → held_step d p t ≡ Refused n q
    unfolding held_step
    held_refused n q b = let w = slot_so n q b in rw (w.0, w.1)

    pub held_exactly : Exactly (λ (a : Answer). a) (held_step d p t) Refused (TicketBy d p t)
    held_exactly = record { only = held_told; unchanged = held_refused }

    pub shows_none : (n q : ℕ) → TicketBy d p t n q → (show_step d p t).octets ≡ []
    unfolding show_step
    shows_none n q b = let w = slot_so n q b in rw w.0

    pub shows : (i : ℕ) (s : Session) → Holds d p t i s → (show_step d p t).octets ≡ octets_in p i s
    unfolding show_step
    shows i s h = rw (held_so i s h)

    pub counted : (i : ℕ) (s : Session) → Holds d p t i s → held_step d p t ≡ Done s.held
    unfolding held_step
    counted i s h = rw (held_so i s h)

    pub judged : (i : ℕ) (s : Session) → Holds d p t i s → judge_step d p t ≡ judge_of (octets_in p i s)
    unfolding judge_step
    judged i s h = rw (held_so i s h)

    -- ---- judge

    judge_told : (n q : ℕ) → judge_step d p t ≡ Unread n q → JudgeBy d p t n q
    unfolding judge_step
    judge_told n q e = go (slot_of d (length p) t) refl e
      where
        go : (x : Slot) → slot_of d (length p) t ≡ x → judge_in p x ≡ Unread n q → JudgeBy d p t n q
        go (No m) f e = itself verdict_tells (JudgeBy d p t) m 0 n q e (nothing (slot_told m f))
        go (Held i s) f e = octets (held_by i s f) ((refused_law First (octets_in p i s) n q).0 e)

    judge_so : (n q : ℕ) → JudgeBy d p t n q → judge_step d p t ≡ Unread n q
    unfolding judge_step
    judge_so n q (nothing b) = let w = slot_so n q b in rw (w.0, w.1)
    judge_so n q (octets {i} {s = s} h b) = rw (held_so i s h) ((refused_law First (octets_in p i s) n q).1 b)

    pub judge_held_exactly : Exactly (λ (v : Verdict). v) (judge_step d p t) Unread (JudgeBy d p t)
    judge_held_exactly = record { only = judge_told; unchanged = judge_so }

    -- ---- add

    module _ (chunk : List ℕ) (tick : ℕ) where
      add_told : (n q : ℕ) → (add_step d p t chunk tick).answer ≡ Refused n q → AddBy d p t chunk n q
      unfolding add_step
      add_told n q e = go (slot_of d (length p) t) refl e
        where
          go : (x : Slot) → slot_of d (length p) t ≡ x → (add_in d p chunk (seen d tick) x).answer ≡ Refused n q → AddBy d p t chunk n q
          go (No m) f e = itself turn_tells (AddBy d p t chunk) m 0 n q e (no_upload (slot_told m f))
          go (Held i s) f e =
              first turn_tells (AddBy d p t chunk) (ltb 16384 (s.held + length chunk)) 23 s.held n q _ e
              (λ b. too_much (held_by i s f) (ltb-true 16384 (s.held + length chunk) b)) (λ b g. done_no (s.held + length chunk) n q g)

      add_so : (n q : ℕ) → AddBy d p t chunk n q → add_step d p t chunk tick ≡ refused d p q n
      unfolding add_step
      add_so n q (no_upload b) = let w = slot_so n q b in rw (w.0, w.1)
      add_so n q (too_much {i} {s} h l) = rw (held_so i s h, lt-ltb 16384 (s.held + length chunk) l)

      pub add_exactly : Turning (add_step d p t chunk tick) d p (AddBy d p t chunk)
      add_exactly = record { only = add_told; unchanged = add_so }

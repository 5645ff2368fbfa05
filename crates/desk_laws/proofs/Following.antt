-- Refinement with ticks: each call is answered on the desk as in the ledger with ticks and keeps their relation; so is every list of calls.
-- Assumes nothing.
use Prim.Native.Nat.{ℕ, ◌+◌, ◌*◌, ◌<◌, ◌≤◌}
use mathlib.Core.Path.{◌≡◌, refl, sym, ap, subst, ◌∙◌}
use mathlib.Core.Bool.{Bool, true, false, not}
use mathlib.Core.List.{List, [], ◌∷◌}
use native.Mathlib.Omega.{arith}
use lib.Dec.{ltb, leb, eqb}
use lib.ListN.{length, set, length-set, length-replicate, get_or-replicate}
use lib.Seq.{get_or-set_same, get_or-set_other, set-set}
use borrow.Author.Tests.{ltb-true, eqb-true, eqb-false, eq-eqb, ne_eqb}
use Rattle.octets.specs.Pick.{pick}
use Rattle.desk_entries.specs.Search.{first_at, lowest_at}
use Rattle.desk_slots.specs.Sound.{none, state_at, tick_at}
use Rattle.desk_slots.specs.Slots.{free_at, idle_at, idle_of}
use Rattle.desk_pool.specs.Pools.{patch, zeros}
use Rattle.desk.specs.Steps.{Turned, refused as refusing, new_step, slot_of, seen as counts-as, stamped, opened, reclaim_in, open_in, open_step, grown, with_state, add_in, add_step, release_in, release_step, octets_in}
use Rattle.desk_entries.proofs.Searches.{clash, first_at_is, first_at_not, unbarred, LowestIs, lowest_at_is, lowest_at_not, lowest_unbarred}
use Rattle.desk_slots.proofs.SoundLaws.{in_bounds}
use Rattle.desk_slots.proofs.SlotLaws.{free_is, slot_inside}
use Rattle.desk.proofs.DeskLaws.{is_sound, Granted}
use Rattle.desk_entries.specs.Search.{Position}
use Rattle.desk_entries.specs.Search.{At, Nowhere, Barred}
use Rattle.desk_entries.specs.declared.Session.{Session}
use Rattle.desk_entries.specs.declared.Entry.{Entry}
use Rattle.desk_entries.specs.declared.State.{State}
use Rattle.desk_entries.specs.declared.State.TheVariants.{Free, Open}
use Rattle.desk.specs.declared.Desk.{Desk}
use Rattle.desk.specs.Answer.{Done}
use Rattle.desk_slots.specs.Slots.{Slot}
use Rattle.desk_slots.specs.Slots.{Held, No}
use Rattle.desk_ledger.specs.Answers.{said}
use Rattle.desk_ledger.specs.Ledger.{adds, opens, on, Reply, told, absent, present, Ledger, lookup, change, Out, ledger_step}
use Rattle.desk_ledger.specs.Ticks.{Ask, judging, showing, counting, releasing, deed, Ticked, opens_at, adds_at, asks_of, Stamp, Clocked, stamp_of, counted, idle, Whose, nobody, of, lowest_idle, takes, freed, clocked_by, clocked_step, fresh_clocked, run_ticked, after_ticked}
use Rattle.desk_ledger.specs.Desks.{World, took, ask_step, desk_step}
use Rattle.desk_laws.proofs.LedgerRows.{no, length_close}
use Rattle.desk_laws.proofs.Counts.{count_le, count_full}
use Rattle.desk_laws.proofs.Relation.{same_at, other_at, taken, Refines, Timed, Follows, View, seen, unseen, view}
use Rattle.desk_laws.proofs.Refinement.{Simulates, deed_step, on_refines, released, granted_open, fresh_refines}
use Rattle.desk_laws.proofs.Reclaims.{by_reply, by_ledger, Settles, none_idle, lowest_idle_lem, settles}

-- the same answer, and the relation with ticks holds on
pub record Answers (a : Out World) (b : Out Clocked) : Type 0 where
  pub same : a.reply ≡ b.reply
  pub keeps : Follows a.then.desk a.then.pool b.then

-- ---- ticks

-- the tick that counts is not lower than the desk's, and the same on both sides
pub not_lower : (d : Desk) (τ : ℕ) → d.tick ≤ counts-as d τ
not_lower d τ = go (ltb d.tick τ) refl
  where
    go : (b : Bool) → ltb d.tick τ ≡ b → d.tick ≤ pick b τ d.tick
    go true q = omega (arith, ltb-true d.tick τ q)
    go false q = omega arith

counted_same : (d : Desk) (c : Clocked) (τ : ℕ) → c.tick ≡ d.tick → counted c τ ≡ counts-as d τ
counted_same d c τ e = ap (λ (n : ℕ). pick (ltb n τ) τ n) e

-- entry i becomes free
timed_free : (d : Desk) (i tick : ℕ) (ss : List Stamp) → length d.entries ≡ 40 → i < 40 → Timed d tick ss → Timed (with_state d i Free) tick ss
timed_free d i tick ss l h t =
    record { highest = t.highest; beside = t.beside; each = λ j k s e. each j k s e (eqb j i) refl }
  where
    each : (j : ℕ) → j < 40 → (s : Session) → state_at (set d.entries i (record { state = Free })) j ≡ Open s → (b : Bool) → eqb j i ≡ b → stamp_of ss s.ticket ≡ tick_at d.stamps j
    each j k s e true q =
        let w : j ≡ i = eqb-true j i q in
        let f : state_at (set d.entries i (record { state = Free })) i ≡ Open s = rw w at e in
        let z : Free ≡ Open s = sym (same_at d.entries i Free (omega arith)) ∙ f in
        clash cc
    each j k s e false q = t.each j k s (sym (other_at d.entries i j Free (eqb-false j i q)) ∙ e)

-- entry i becomes a session with a ticket that no other open entry has, and is stamped
timed_stamp : (d d' : Desk) (i now tick t : ℕ) (ss : List Stamp) (u : Session) → length d.entries ≡ 40 → i < 40 → Timed d tick ss → u.ticket ≡ t
    → ((j : ℕ) → j < 40 → (j ≡ i → ⊥) → (s : Session) → state_at d.entries j ≡ Open s → s.ticket ≡ t → ⊥)
    → d'.entries ≡ set d.entries i (record { state = Open u }) → d'.tick ≡ now → d'.stamps ≡ set d.stamps i now
    → Timed d' now (record { ticket = t; tick = now } ∷ ss)
unfolding stamp_of
timed_stamp d d' i now tick t ss u l h tm v other es tk ks =
    record {
      highest = sym tk;
      beside = rw (ks, length-set) tm.beside;
      each = λ j k s e. rw ks (each j k s (rw es at e) (eqb j i) refl);
    }
  where
    each : (j : ℕ) → j < 40 → (s : Session) → state_at (set d.entries i (record { state = Open u })) j ≡ Open s → (b : Bool) → eqb j i ≡ b
        → pick (eqb t s.ticket) now (stamp_of ss s.ticket) ≡ tick_at (set d.stamps i now) j
    each j k s e true q =
        let w : j ≡ i = eqb-true j i q in
        let f : state_at (set d.entries i (record { state = Open u })) i ≡ Open s = rw w at e in
        let z : Open u ≡ Open s = sym (same_at d.entries i (Open u) (omega arith)) ∙ f in
        let y : u ≡ s = cc in
        let x : t ≡ s.ticket = sym v ∙ ap (λ (r : Session). r.ticket) y in
        rw (w, eq-eqb t s.ticket x) (sym (get_or-set_same d.stamps i now 0 (omega (arith, tm.beside))))
    each j k s e false q =
        let n = eqb-false j i q in
        let f : state_at d.entries j ≡ Open s = sym (other_at d.entries i j (Open u) n) ∙ e in
        rw (ne_eqb t s.ticket (λ x. other j k n s f (sym x))) (tm.each j k s f ∙ sym (get_or-set_other d.stamps i j now 0 n))

-- ---- add

module _ (d : Desk) (p : List ℕ) (c : Clocked) (f : Follows d p c) (t now : ℕ) (q : List ℕ) (late : d.tick ≤ now) where
  add_timed : (o : Out Ledger) (x : Slot) → View d p c.ledger t → slot_of d (length p) t ≡ x
      → let r = said (add_in d p q now x).answer in Timed (add_in d p q now x).desk (clocked_by c now t r o).then.tick (clocked_by c now t r o).then.stamps
  add_timed o (No n) v e = f.timed
  add_timed o (Held i s) (unseen e' lk) e = let z : No 22 ≡ Held i s = sym e' ∙ e in clash cc
  add_timed o (Held i s) (seen j u e' g lk) e = go (ltb 16384 (s.held + length q))
    where
      z : Held j u ≡ Held i s
      z = sym e' ∙ e

      ji : j ≡ i
      ji = cc

      us : u ≡ s
      us = cc

      short : i < 40
      short = rw ji at g.short

      state : state_at d.entries i ≡ Open s
      state = rw (ji, us) at g.state

      ticket : s.ticket ≡ t
      ticket = rw us at g.ticket

      other : (k : ℕ) → k < 40 → (k ≡ i → ⊥) → (v : Session) → state_at d.entries k ≡ Open v → v.ticket ≡ t → ⊥
      other k h n v w y = n (f.refines.good.entries.distinct k i h short v s w state (y ∙ sym ticket))

      done : Turned
      done = record { answer = Done (s.held + length q); desk = with_state (stamped d i now) i (Open (grown s (length q))); pool = patch p (i * 16384 + s.held) q }

      go : (b : Bool) → let a = pick b (refusing d p s.held 23) done in Timed a.desk (clocked_by c now t (said a.answer) o).then.tick (clocked_by c now t (said a.answer) o).then.stamps
      go true = f.timed
      go false =
          timed_stamp d (with_state (stamped d i now) i (Open (grown s (length q)))) i now c.tick t c.stamps (grown s (length q)) f.refines.forty short f.timed ticket other refl refl refl

  add_answers : let o = ledger_step c.ledger (on t (adds q)) in Answers (took (add_in d p q now (slot_of d (length p) t))) (clocked_by c now t o.reply o)
  add_answers =
      let v = view d p c.ledger t f.refines in
      let o = ledger_step c.ledger (on t (adds q)) in
      let m = on_refines d p c.ledger now t (adds q) f.refines late f.timed.beside v in
      let a = add_in d p q now (slot_of d (length p) t) in
      record {
        same = m.same ∙ sym (by_reply c now t o.reply o);
        keeps = record {
          refines = subst (λ (l : Ledger). Refines a.desk a.pool l) (sym (by_ledger c now t o.reply o)) m.keeps;
          timed = subst (λ (r : Reply). Timed a.desk (clocked_by c now t r o).then.tick (clocked_by c now t r o).then.stamps) m.same (add_timed o (slot_of d (length p) t) v refl);
        };
      }

-- ---- what is asked of a ticket

ask_timed : (d : Desk) (p : List ℕ) (c : Clocked) → Follows d p c → (t : ℕ) (x : Slot) → slot_of d (length p) t ≡ x → View d p c.ledger t
    → Timed (release_in d p x).desk c.tick c.stamps
ask_timed d p c f t (No n) e v = f.timed
ask_timed d p c f t (Held i s) e (unseen e' lk) = let z : No 22 ≡ Held i s = sym e' ∙ e in clash cc
ask_timed d p c f t (Held i s) e (seen j u e' g lk) =
    let z : Held j u ≡ Held i s = sym e' ∙ e in
    let w : j ≡ i = cc in
    timed_free d i c.tick c.stamps f.refines.forty (rw w at g.short) f.timed

ask_answers : (d : Desk) (p : List ℕ) (c : Clocked) → Follows d p c → (t : ℕ) (x : Ask) → Answers (ask_step (record { desk = d; pool = p }) t x) (clocked_step c (asks_of t x))
unfolding release_step
ask_answers d p c f t x = go x
  where
    v : View d p c.ledger t
    v = view d p c.ledger t f.refines

    m : (x : Ask) → Simulates (deed_step (record { desk = d; pool = p }) d.tick t (deed x)) (ledger_step c.ledger (on t (deed x)))
    m x = on_refines d p c.ledger d.tick t (deed x) f.refines (omega arith) f.timed.beside v

    go : (x : Ask) → Answers (ask_step (record { desk = d; pool = p }) t x) (clocked_step c (asks_of t x))
    go judging = record { same = (m judging).same; keeps = record { refines = (m judging).keeps; timed = f.timed } }
    go showing = record { same = (m showing).same; keeps = record { refines = (m showing).keeps; timed = f.timed } }
    go counting = record { same = (m counting).same; keeps = record { refines = (m counting).keeps; timed = f.timed } }
    go releasing =
        record { same = (m releasing).same; keeps = record { refines = (m releasing).keeps; timed = ask_timed d p c f t (slot_of d (length p) t) refl v } }

-- ---- open

-- an opening of the ledger that takes a session, at a tick
abbrev open_with : Clocked → ℕ → ℕ → Whose → Out Clocked
open_with c now m w = clocked_by c now c.ledger.next (ledger_step (freed c.ledger w) (opens m)).reply (ledger_step (freed c.ledger w) (opens m))

module _ (d : Desk) (p : List ℕ) (c : Clocked) (f : Follows d p c) (m now : ℕ) (late : d.tick ≤ now) where
  l : Ledger
  l = c.ledger

  r : Refines d p c.ledger
  r = f.refines

  same_limit : (b : Bool) → eqb d.next 4294967295 ≡ b → eqb c.ledger.next 4294967295 ≡ b
  same_limit b h = ap (λ (n : ℕ). eqb n 4294967295) r.next ∙ h

  -- the new session's ticket is no other's
  new_ticket : (j : ℕ) → j < 40 → (s : Session) → state_at d.entries j ≡ Open s → s.ticket ≡ c.ledger.next → ⊥
  new_ticket j h s e q = let w = (r.good.entries.each j h s e).high in omega (arith, r.next)

  open_timed : (i : ℕ) → i < 40 → Timed (opened d m now i) now (record { ticket = c.ledger.next; tick = now } ∷ c.stamps)
  open_timed i h =
      timed_stamp d (opened d m now i) i now c.tick c.ledger.next c.stamps (record { ticket = d.next; tram = m; held = 0 }) r.forty h f.timed (sym r.next)
      (λ j k n s e. new_ticket j k s e) refl refl refl

  -- ---- no ticket is left

  used_up : eqb d.next 4294967295 ≡ true → Answers (took (refusing d p 0 21)) (open_with c now m (takes c now))
  used_up h =
      subst (λ (w : Whose). Answers (took (refusing d p 0 21)) (open_with c now m w)) (sym nobodys)
      (rw (same_limit true h) (record { same = refl; keeps = f }))
    where
      nobodys : takes c now ≡ nobody
      nobodys = rw (same_limit true h)

  -- ---- a slot is free

  free_slot : eqb d.next 4294967295 ≡ false → (i : ℕ) → first_at (free_at d.entries) 0 d.slots ≡ At i → Answers (took (open_in d p m now (At i))) (open_with c now m (takes c now))
  free_slot h i e =
      let k = first_at_is (free_at d.entries) d.slots 0 i e in
      let z : state_at d.entries i ≡ Free = free_is (state_at d.entries i) k.0 in
      let g = granted_open d p c.ledger m now r late f.timed.beside i z (omega arith) in
      let n = g.many in
      let w = count_le (taken (opened d m now i).entries) d.slots in
      let v = r.slots in
      let s = r.good.entries.most in
      let x : length c.ledger.rows ≡ c.ledger.slots → ⊥ = λ x. omega arith in
      subst (λ (w : Whose). Answers (took (open_in d p m now (At i))) (open_with c now m w)) (sym (nobodys x))
      (rw (same_limit false h, ne_eqb (length c.ledger.rows) c.ledger.slots x)
      (record { same = ap told (sym r.next); keeps = record { refines = g; timed = open_timed i (omega arith) } }))
    where
      nobodys : (length c.ledger.rows ≡ c.ledger.slots → ⊥) → takes c now ≡ nobody
      nobodys x = rw (same_limit false h, ne_eqb (length c.ledger.rows) c.ledger.slots x)

  -- ---- no slot is free

  -- an entry's session is idle on the desk as its ticket is in the ledger
  idle_same : (i : ℕ) → i < 40 → (s : Session) → state_at d.entries i ≡ Open s → idle c now s.ticket ≡ leb (tick_at d.stamps i + 600) now
  unfolding idle
  idle_same i h s e = ap (λ (n : ℕ). leb (n + 600) now) (f.timed.each i h s e)

  open_idle : (i : ℕ) → i < 40 → (s : Session) → state_at d.entries i ≡ Open s → idle c now s.ticket ≡ true → idle_at d.entries d.stamps now i ≡ s.ticket
  open_idle i h s e q = rw (e, sym (idle_same i h s e) ∙ q)

  -- a ticket that is idle in the ledger has an entry
  row_entry : (t : ℕ) (o : List ℕ) → lookup c.ledger.rows t ≡ present o → idle c now t ≡ true
      → (i : ℕ) × ((i < d.slots) × ((s : Session) × ((state_at d.entries i ≡ Open s) × (s.ticket ≡ t) × (idle_at d.entries d.stamps now i ≡ t))))
  row_entry t o e q =
      let b = r.rows.backs t o e in
      let w = slot_inside d.entries d.slots d.next r.good.entries b.0 b.1.1.0 b.1.0 b.1.1.1 in
      let y : idle c now b.1.0.ticket ≡ true = rw b.1.1.2 q in
      (b.0, (w, (b.1.0, (b.1.1.1, b.1.1.2, open_idle b.0 b.1.1.0 b.1.0 b.1.1.1 y ∙ b.1.1.2))))

  some_ticket : (t : ℕ) (o : List ℕ) → lookup c.ledger.rows t ≡ present o → t ≡ 0 → ⊥
  some_ticket t o e z =
      let b = r.rows.backs t o e in
      let k = (r.good.entries.each b.0 b.1.1.0 b.1.0 b.1.1.1).low in
      omega (arith, b.1.1.2)

  -- the session at an entry that is idle on the desk
  entry_idle : (i : ℕ) → i < 40 → (idle_at d.entries d.stamps now i ≡ 0 → ⊥) → (s : Session) × ((state_at d.entries i ≡ Open s) × (idle c now s.ticket ≡ true) × (idle_at d.entries d.stamps now i ≡ s.ticket))
  entry_idle i h n = go (state_at d.entries i) refl (leb (tick_at d.stamps i + 600) now) refl
    where
      go : (x : State) → state_at d.entries i ≡ x → (b : Bool) → leb (tick_at d.stamps i + 600) now ≡ b
          → (s : Session) × ((state_at d.entries i ≡ Open s) × (idle c now s.ticket ≡ true) × (idle_at d.entries d.stamps now i ≡ s.ticket))
      go Free e true q = absurd (n (rw (e, q)))
      go x e false q = absurd (n (rw q))
      go (Open s) e true q = let y = idle_same i h s e ∙ q in (s, (e, y, open_idle i h s e y))

  module _ (h : eqb d.next 4294967295 ≡ false) (full : length c.ledger.rows ≡ c.ledger.slots) where
    takes_idle : takes c now ≡ lowest_idle c now c.ledger.rows
    takes_idle = rw (same_limit false h, eq-eqb (length c.ledger.rows) c.ledger.slots full)

    none_taken : lowest_at (idle_at d.entries d.stamps now) d.slots ≡ Nowhere → (w : Whose) → Settles c now c.ledger.rows w → Answers (took (refusing d p 0 20)) (open_with c now m w)
    none_taken e w (none_idle g) =
        rw (same_limit false h, eq-eqb (length c.ledger.rows) c.ledger.slots full) (record { same = refl; keeps = f })
    none_taken e w (lowest_idle_lem t o lk q g) =
        let b = row_entry t o lk q in
        absurd (some_ticket t o lk (sym b.1.1.1.2 ∙ lowest_at_not (idle_at d.entries d.stamps now) d.slots e b.0 b.1.0))

    -- slot i is taken from ticket t
    reclaimed : (i t : ℕ) (s : Session) → Granted d (length p) t i s → lookup c.ledger.rows t ≡ present (octets_in p i s)
        → Answers (took (reclaim_in d p m now (At i))) (open_with c now m (of t))
    reclaimed i t s g lk =
        let z = released d p c.ledger r t i s g lk in
        let n = length_close c.ledger.rows t (octets_in p i s) lk in
        let a : i < length d.entries = omega (arith, r.forty, g.short) in
        let k = granted_open (with_state d i Free) (patch p (i * 16384) zeros) (record { slots = c.ledger.slots; next = c.ledger.next; rows = change c.ledger.rows t absent }) m now z late f.timed.beside i
        (same_at d.entries i Free a) g.inside in
        rw (lk, same_limit false h, ne_eqb (length (change c.ledger.rows t absent)) c.ledger.slots (λ x. omega arith))
        (record {
          same = ap told (sym r.next);
          keeps = record {
            refines = subst (λ (es : List Entry). Refines (record { entries = es; slots = d.slots; next = d.next + 1; tick = now; stamps = set d.stamps i now }) (patch p (i * 16384) zeros)
                (record { slots = c.ledger.slots; next = c.ledger.next + 1; rows = record { ticket = c.ledger.next; octets = [] } ∷ change c.ledger.rows t absent }))
                (set-set d.entries i (record { state = Free }) (record { state = Open (record { ticket = d.next; tram = m; held = 0 }) })) k;
            timed = open_timed i g.short;
          };
        })

    idle_taken : (i : ℕ) → lowest_at (idle_at d.entries d.stamps now) d.slots ≡ At i → (w : Whose) → Settles c now c.ledger.rows w
        → Answers (took (reclaim_in d p m now (At i))) (open_with c now m w)
    idle_taken i e w st = go w st
      where
        is : LowestIs (idle_at d.entries d.stamps now) d.slots i
        is = lowest_at_is (idle_at d.entries d.stamps now) d.slots i e

        short : i < 40
        short = omega (arith, is.inside, r.good.entries.most)

        go : (w : Whose) → Settles c now c.ledger.rows w → Answers (took (reclaim_in d p m now (At i))) (open_with c now m w)
        go w (none_idle g) =
            let y = entry_idle i short is.some in
            let x : true ≡ false = sym y.1.1 ∙ g y.0.ticket _ (r.rows.holds i short y.0 y.1.0) in
            clash cc
        go w (lowest_idle_lem t o lk q g) =
            let y = entry_idle i short is.some in
            let b = row_entry t o lk q in
            let low : t ≤ y.0.ticket = g y.0.ticket _ (r.rows.holds i short y.0 y.1.0) y.1.1 in
            let back : idle_at d.entries d.stamps now i ≤ idle_at d.entries d.stamps now b.0 = is.least b.0 b.1.0 (λ x. some_ticket t o lk (sym b.1.1.1.2 ∙ x)) in
            let tt : y.0.ticket ≡ t = omega (arith, y.1.2, b.1.1.1.2) in
            found (view d p c.ledger t r) y.0 y.1.0 tt o lk
          where
            found : View d p c.ledger t → (s : Session) → state_at d.entries i ≡ Open s → s.ticket ≡ t → (o : List ℕ) → lookup c.ledger.rows t ≡ present o
                → Answers (took (reclaim_in d p m now (At i))) (open_with c now m (of t))
            found (unseen e lk) s x y o z = no o (sym lk ∙ z)
            found (seen j u e g lk) s x y o z =
                let w : j ≡ i = r.good.entries.distinct j i g.short short u s g.state x (g.ticket ∙ sym y) in
                reclaimed i t u (subst (λ (k : ℕ). Granted d (length p) t k u) w g) (subst (λ (k : ℕ). lookup c.ledger.rows t ≡ present (octets_in p k u)) w lk)

    no_slot : Answers (took (open_in d p m now Nowhere)) (open_with c now m (takes c now))
    unfolding idle_of
    no_slot = subst (λ (w : Whose). Answers (took (open_in d p m now Nowhere)) (open_with c now m w)) (sym takes_idle) (go (lowest_at (idle_at d.entries d.stamps now) d.slots) refl)
      where
        go : (x : Position) → lowest_at (idle_at d.entries d.stamps now) d.slots ≡ x → Answers (took (reclaim_in d p m now x)) (open_with c now m (lowest_idle c now c.ledger.rows))
        go Nowhere e = none_taken e (lowest_idle c now c.ledger.rows) (settles c now c.ledger.rows)
        go (At i) e = idle_taken i e (lowest_idle c now c.ledger.rows) (settles c now c.ledger.rows)
        go (Barred n) e = lowest_unbarred (idle_at d.entries d.stamps now) d.slots n e

  open_answers : Answers (took (pick (eqb d.next 4294967295) (refusing d p 0 21) (open_in d p m now (first_at (free_at d.entries) 0 d.slots)))) (open_with c now m (takes c now))
  open_answers = go (eqb d.next 4294967295) refl
    where
      place : eqb d.next 4294967295 ≡ false → (x : Position) → first_at (free_at d.entries) 0 d.slots ≡ x → Answers (took (open_in d p m now x)) (open_with c now m (takes c now))
      place h (Barred n) e = unbarred (free_at d.entries) d.slots 0 n e
      place h (At i) e = free_slot h i e
      place h Nowhere e =
          let k = count_full (taken d.entries) d.slots (λ j b. ap not (first_at_not (free_at d.entries) d.slots 0 e j (omega arith) (omega arith))) in
          no_slot h (omega (arith, r.many, r.slots))

      go : (b : Bool) → eqb d.next 4294967295 ≡ b
          → Answers (took (pick b (refusing d p 0 21) (open_in d p m now (first_at (free_at d.entries) 0 d.slots)))) (open_with c now m (takes c now))
      go true h = used_up h
      go false h = place h (first_at (free_at d.entries) 0 d.slots) refl

-- ---- every call, and a list of them

pub step_follows : (w : World) (c : Clocked) (x : Ticked) → Follows w.desk w.pool c → Answers (desk_step w x) (clocked_step c x)
unfolding open_step add_step
step_follows w c (opens_at m τ) f =
    let d = w.desk in
    let p = w.pool in
    rw (is_sound d f.refines.good, eq-eqb (length p) (d.slots * 16384) f.refines.sized)
    (subst (λ (n : ℕ). Answers (took (pick (eqb d.next 4294967295) (refusing d p 0 21) (open_in d p m (counts-as d τ) (first_at (free_at d.entries) 0 d.slots)))) (open_with c n m (takes c n)))
    (sym (counted_same d c τ f.timed.highest)) (open_answers d p c f m (counts-as d τ) (not_lower d τ)))
step_follows w c (adds_at t q τ) f =
    let d = w.desk in
    let p = w.pool in
    subst (λ (n : ℕ). let o = ledger_step c.ledger (on t (adds q)) in Answers (took (add_in d p q (counts-as d τ) (slot_of d (length p) t))) (clocked_by c n t o.reply o))
    (sym (counted_same d c τ f.timed.highest)) (add_answers d p c f t (counts-as d τ) q (not_lower d τ))
step_follows w c (asks_of t x) f = ask_answers w.desk w.pool c f t x

pub run_follows : (xs : List Ticked) (w : World) (c : Clocked) → Follows w.desk w.pool c → run_ticked desk_step w xs ≡ run_ticked clocked_step c xs
unfolding run_ticked
run_follows [] w c f = refl
run_follows (x ∷ xs) w c f =
    let a = step_follows w c x f in
    rw (a.same, run_follows xs (desk_step w x).then (clocked_step c x).then a.keeps)

pub after_follows : (xs : List Ticked) (w : World) (c : Clocked) → Follows w.desk w.pool c
    → Follows (after_ticked desk_step w xs).desk (after_ticked desk_step w xs).pool (after_ticked clocked_step c xs)
unfolding after_ticked
after_follows [] w c f = f
after_follows (x ∷ xs) w c f = after_follows xs (desk_step w x).then (clocked_step c x).then (step_follows w c x f).keeps

pub fresh_follows : (n : ℕ) (p : List ℕ) → 1 ≤ n → n ≤ 40 → length p ≡ n * 16384 → Follows (new_step n).desk p (fresh_clocked n)
unfolding new_step
fresh_follows n p a b c = record { refines = fresh_refines n p a b c; timed = timed }
  where
    timed : Timed (new_step n).desk 0 []
    timed =
        rw (in_bounds n 1 a b (omega arith))
        (record {
          highest = refl;
          beside = length-replicate {A = ℕ} 40 0;
          each = λ i h s e. (let w : Free ≡ Open s = sym (ap (λ (e : Entry). e.state) (get_or-replicate 40 i none none h)) ∙ e in clash cc);
        })

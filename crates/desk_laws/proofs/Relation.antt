-- The refinement relation: what a desk with its pool and a ledger have in common, and that it holds on where an entry is set. Assumes nothing.
use Prim.Native.Nat.{ℕ, ◌*◌, ◌<◌, ◌≤◌}
use mathlib.Core.Path.{◌≡◌, refl, sym, ap, ◌∙◌}
use mathlib.Core.Bool.{Bool, true, false, not}
use mathlib.Core.List.{List}
use native.Mathlib.Omega.{arith}
use lib.Dec.{eqb}
use lib.ListN.{length, set}
use lib.Seq.{get_or-set_same, get_or-set_other}
use borrow.Author.Tests.{eqb-true, eqb-false, eq-eqb}
use Rattle.desk_entries.specs.Search.{first_at}
use Rattle.desk_slots.specs.Sound.{none, state_at, Fit, Sound as SoundEntries, tick_at}
use Rattle.desk_slots.specs.Slots.{is_free, open_at}
use Rattle.desk.specs.Steps.{Sound, sound, slot_of, octets_in}
use Rattle.desk_entries.proofs.Searches.{clash, first_at_is, first_at_not, unbarred}
use Rattle.desk_slots.proofs.SlotLaws.{session_at}
use Rattle.desk.proofs.DeskLaws.{is_sound, Granted, granted}
use Rattle.desk_entries.specs.Search.{Position}
use Rattle.desk_entries.specs.Search.{At, Nowhere, Barred}
use Rattle.desk_entries.specs.declared.Session.{Session}
use Rattle.desk_entries.specs.declared.Entry.{Entry}
use Rattle.desk_entries.specs.declared.State.{State}
use Rattle.desk_entries.specs.declared.State.TheVariants.{Free, Open}
use Rattle.desk.specs.declared.Desk.{Desk}
use Rattle.desk_slots.specs.Slots.{Held, No}
use Rattle.desk_ledger.specs.Ledger.{Found, absent, present, Row, Ledger, lookup}
use Rattle.desk_ledger.specs.Ticks.{Stamp, Clocked, stamp_of}
use Rattle.desk_laws.proofs.LedgerRows.{no, Below}
use Rattle.desk_laws.proofs.Counts.{count}

-- ---- an entry is set

pub same_at : (es : List Entry) (i : ℕ) (x : State) → i < length es → state_at (set es i (record { state = x })) i ≡ x
same_at es i x h = ap (λ (e : Entry). e.state) (get_or-set_same es i (record { state = x }) none h)

pub other_at : (es : List Entry) (i j : ℕ) (x : State) → (j ≡ i → ⊥) → state_at (set es i (record { state = x })) j ≡ state_at es j
other_at es i j x n = ap (λ (e : Entry). e.state) (get_or-set_other es i j (record { state = x }) none n)

-- a desk with the state x at entry i, another next ticket, another tick and other stamps
abbrev pub made : Desk → ℕ → State → ℕ → ℕ → List ℕ → Desk
made d i x more now ks = record { entries = set d.entries i (record { state = x }); slots = d.slots; next = more; tick = now; stamps = ks }

-- a tick that is not lower, and the stamps but for entry i's, which is not ahead of it
pub record Later (d : Desk) (i now : ℕ) (ks : List ℕ) : Type 0 where
  pub higher : d.tick ≤ now
  pub there : tick_at ks i ≤ now
  pub others : (j : ℕ) → (j ≡ i → ⊥) → tick_at ks j ≡ tick_at d.stamps j

pub sound_set : (d : Desk) (more i : ℕ) (x : State) (now : ℕ) (ks : List ℕ) → Sound d → Later d i now ks → d.next ≤ more → i < length d.entries → i < d.slots
    → ((s : Session) → x ≡ Open s → Fit more s)
    → ((s u : Session) (j : ℕ) → x ≡ Open s → j < 40 → (j ≡ i → ⊥) → state_at d.entries j ≡ Open u → u.ticket ≡ s.ticket → ⊥)
    → Sound (made d i x more now ks)
sound_set d more i x now ks good tk h l inside fit new =
    record {
      entries = record {
        some = g.some;
        most = g.most;
        first = let a = g.first in omega arith;
        past = λ j k m. (let n : j ≡ i → ⊥ = λ e. omega arith in other_at d.entries i j x n ∙ g.past j k m);
        each = λ j k s e. each j k s e (eqb j i) refl;
        distinct = λ j m kj km s u e f t. one j m kj km s u e f t (eqb j i) refl (eqb m i) refl;
      };
      behind = λ j k s e. behind j k s e (eqb j i) refl;
    }
  where
    g : SoundEntries d.entries d.slots d.next
    g = good.entries

    behind : (j : ℕ) → j < 40 → (s : Session) → state_at (set d.entries i (record { state = x })) j ≡ Open s → (b : Bool) → eqb j i ≡ b → tick_at ks j ≤ now
    behind j k s e true q = let w : j ≡ i = eqb-true j i q in rw w tk.there
    behind j k s e false q =
        let n = eqb-false j i q in
        let f = good.behind j k s (sym (other_at d.entries i j x n) ∙ e) in
        omega (arith, tk.others j n, tk.higher)

    each : (j : ℕ) → j < 40 → (s : Session) → state_at (set d.entries i (record { state = x })) j ≡ Open s → (b : Bool) → eqb j i ≡ b → Fit more s
    each j k s e true q =
        let w : j ≡ i = eqb-true j i q in
        let e' : state_at (set d.entries i (record { state = x })) i ≡ Open s = rw w at e in
        fit s (sym (same_at d.entries i x l) ∙ e')
    each j k s e false q =
        let f = g.each j k s (sym (other_at d.entries i j x (eqb-false j i q)) ∙ e) in
        record { low = f.low; high = omega arith; room = f.room }

    one : (j m : ℕ) → j < 40 → m < 40 → (s u : Session) → state_at (set d.entries i (record { state = x })) j ≡ Open s
        → state_at (set d.entries i (record { state = x })) m ≡ Open u → s.ticket ≡ u.ticket
        → (b : Bool) → eqb j i ≡ b → (c : Bool) → eqb m i ≡ c → j ≡ m
    one j m kj km s u e f t true q true r = eqb-true j i q ∙ sym (eqb-true m i r)
    one j m kj km s u e f t true q false r =
        let e' : state_at (set d.entries i (record { state = x })) i ≡ Open s = rw (eqb-true j i q) at e in
        absurd (new s u m (sym (same_at d.entries i x l) ∙ e') km (eqb-false m i r) (sym (other_at d.entries i m x (eqb-false m i r)) ∙ f) (sym t))
    one j m kj km s u e f t false q true r =
        let f' : state_at (set d.entries i (record { state = x })) i ≡ Open u = rw (eqb-true m i r) at f in
        absurd (new u s j (sym (same_at d.entries i x l) ∙ f') kj (eqb-false j i q) (sym (other_at d.entries i j x (eqb-false j i q)) ∙ e) t)
    one j m kj km s u e f t false q false r =
        g.distinct j m kj km s u (sym (other_at d.entries i j x (eqb-false j i q)) ∙ e) (sym (other_at d.entries i m x (eqb-false m i r)) ∙ f) t

-- ---- the desk with its pool refines the ledger

-- each open entry has its row, and each row its open entry
pub record Backed (es : List Entry) (p : List ℕ) (rs : List Row) : Type 0 where
  pub holds : (i : ℕ) → i < 40 → (s : Session) → state_at es i ≡ Open s → lookup rs s.ticket ≡ present (octets_in p i s)
  pub backs : (t : ℕ) (o : List ℕ) → lookup rs t ≡ present o → (i : ℕ) × ((s : Session) × ((i < 40) × (state_at es i ≡ Open s) × (s.ticket ≡ t)))

abbrev pub taken : List Entry → ℕ → Bool
taken es i = not (is_free (state_at es i))

pub record Refines (d : Desk) (p : List ℕ) (l : Ledger) : Type 0 where
  pub good : Sound d
  pub forty : length d.entries ≡ 40
  pub sized : length p ≡ d.slots * 16384
  pub slots : l.slots ≡ d.slots
  pub next : l.next ≡ d.next
  pub rows : Backed d.entries p l.rows
  pub many : length l.rows ≡ count (taken d.entries) d.slots
  pub falling : Below l.next l.rows

-- the desk's tick is the ledger's, and the tick that an open entry keeps is its ticket's
pub record Timed (d : Desk) (tick : ℕ) (stamps : List Stamp) : Type 0 where
  pub highest : tick ≡ d.tick
  pub beside : length d.stamps ≡ 40
  pub each : (i : ℕ) → i < 40 → (s : Session) → state_at d.entries i ≡ Open s → stamp_of stamps s.ticket ≡ tick_at d.stamps i

-- the desk with its pool refines the ledger with ticks
pub record Follows (d : Desk) (p : List ℕ) (c : Clocked) : Type 0 where
  pub refines : Refines d p c.ledger
  pub timed : Timed d c.tick c.stamps

-- what is at entry i once it is set: a session under the ticket, or nothing
pub data Here (rs : List Row) (p : List ℕ) (i t : ℕ) : State → Type 0 where
  is_open : (s : Session) → s.ticket ≡ t → lookup rs t ≡ present (octets_in p i s) → Here rs p i t (Open s)
  is_free_lem : lookup rs t ≡ absent → Here rs p i t Free

here_open : (rs : List Row) (p : List ℕ) (i t : ℕ) (x : State) (s : Session) → Here rs p i t x → x ≡ Open s → lookup rs s.ticket ≡ present (octets_in p i s)
here_open rs p i t x s (is_open u e f) q = let w : u ≡ s = cc in rw (← w, e) f
here_open rs p i t x s (is_free_lem e) q = clash cc

here_back : (rs : List Row) (p : List ℕ) (i t : ℕ) (x : State) (o : List ℕ) → Here rs p i t x → lookup rs t ≡ present o → (s : Session) × ((x ≡ Open s) × (s.ticket ≡ t))
here_back rs p i t x o (is_open u e f) q = (u, (refl, e))
here_back rs p i t x o (is_free_lem e) q = no o (sym e ∙ q)

pub backed_set : (es : List Entry) (p p' : List ℕ) (rs rs' : List Row) (i t : ℕ) (x : State) → Backed es p rs → i < 40 → i < length es
    → ((j : ℕ) → j < 40 → (j ≡ i → ⊥) → (u : Session) → state_at es j ≡ Open u → u.ticket ≡ t → ⊥)
    → ((s : Session) → state_at es i ≡ Open s → s.ticket ≡ t)
    → ((u : ℕ) → (u ≡ t → ⊥) → lookup rs' u ≡ lookup rs u)
    → ((j : ℕ) → j < 40 → (j ≡ i → ⊥) → (u : Session) → state_at es j ≡ Open u → octets_in p' j u ≡ octets_in p j u)
    → Here rs' p' i t x
    → Backed (set es i (record { state = x })) p' rs'
backed_set es p p' rs rs' i t x r short l elsewhere was same kept here =
    record {
      holds = λ j k s e. holds j k s e (eqb j i) refl;
      backs = λ u o e. backs u o e (eqb u t) refl;
    }
  where
    holds : (j : ℕ) → j < 40 → (s : Session) → state_at (set es i (record { state = x })) j ≡ Open s → (b : Bool) → eqb j i ≡ b → lookup rs' s.ticket ≡ present (octets_in p' j s)
    holds j k s e true q =
        let w : j ≡ i = eqb-true j i q in
        let e' : state_at (set es i (record { state = x })) i ≡ Open s = rw w at e in
        rw w (here_open rs' p' i t x s here (sym (same_at es i x l) ∙ e'))
    holds j k s e false q =
        let n = eqb-false j i q in
        let e' : state_at es j ≡ Open s = sym (other_at es i j x n) ∙ e in
        same s.ticket (elsewhere j k n s e') ∙ r.holds j k s e' ∙ sym (ap present (kept j k n s e'))

    backs : (u : ℕ) (o : List ℕ) → lookup rs' u ≡ present o → (b : Bool) → eqb u t ≡ b → (j : ℕ) × ((s : Session) × ((j < 40) × (state_at (set es i (record { state = x })) j ≡ Open s) × (s.ticket ≡ u)))
    backs u o e true q =
        let w : u ≡ t = eqb-true u t q in
        let e' : lookup rs' t ≡ present o = rw w at e in
        let b = here_back rs' p' i t x o here e' in
        (i, (b.0, (short, same_at es i x l ∙ b.1.0, b.1.1 ∙ sym w)))
    backs u o e false q =
        let n = eqb-false u t q in
        let b = r.backs u o (sym (same u n) ∙ e) in
        let far : b.0 ≡ i → ⊥ = λ z. n (sym b.1.1.2 ∙ was b.1.0 (rw z at b.1.1.1)) in
        (b.0, (b.1.0, (b.1.1.0, other_at es i b.0 x far ∙ b.1.1.1, b.1.1.2)))

-- ---- a ticket, on both sides

pub data View (d : Desk) (p : List ℕ) (l : Ledger) (t : ℕ) : Type 0 where
  seen : (i : ℕ) (s : Session) → slot_of d (length p) t ≡ Held i s → Granted d (length p) t i s → lookup l.rows t ≡ present (octets_in p i s) → View d p l t
  unseen : slot_of d (length p) t ≡ No 22 → lookup l.rows t ≡ absent → View d p l t

pub view : (d : Desk) (p : List ℕ) (l : Ledger) (t : ℕ) → Refines d p l → View d p l t
unfolding Rattle.desk_slots.specs.Slots.slot_of
view d p l t r = go (first_at (open_at d.entries t) 0 40) refl
  where
    so : sound d ≡ true
    so = is_sound d r.good

    le : eqb (length p) (d.slots * 16384) ≡ true
    le = eq-eqb (length p) (d.slots * 16384) r.sized

    none_row : first_at (open_at d.entries t) 0 40 ≡ Nowhere → (x : Found) → lookup l.rows t ≡ x → lookup l.rows t ≡ absent
    none_row q absent e = e
    none_row q (present o) e =
        let b = r.rows.backs t o e in
        let h : b.0 < 40 = b.1.1.0 in
        let y : open_at d.entries t b.0 ≡ true = rw b.1.1.1 (eq-eqb b.1.0.ticket t b.1.1.2) in
        let f : false ≡ true = sym (first_at_not (open_at d.entries t) 40 0 q b.0 (omega arith) (omega arith)) ∙ y in
        clash cc

    found : (i : ℕ) → first_at (open_at d.entries t) 0 40 ≡ At i → i < 40 → (s : Session) → state_at d.entries i ≡ Open s → s.ticket ≡ t → View d p l t
    found i q h s x y =
        let e : slot_of d (length p) t ≡ Held i s = rw (so, le, q, x) in
        seen i s e (granted d (length p) t i s e) (rw y at (r.rows.holds i h s x))

    go : (x : Position) → first_at (open_at d.entries t) 0 40 ≡ x → View d p l t
    go (Barred n) q = unbarred (open_at d.entries t) 40 0 n q
    go Nowhere q = unseen (rw (so, le, q)) (none_row q (lookup l.rows t) refl)
    go (At i) q =
        let f = first_at_is (open_at d.entries t) 40 0 i q in
        let y = session_at d.entries t i f.0 in
        found i q (omega arith) y.0 y.1.0 y.1.1

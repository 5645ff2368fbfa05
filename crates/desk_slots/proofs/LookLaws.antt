-- Laws of one look along the entries: each turn of its loop, and what the whole tells. Assumes nothing.
use Prim.Native.Nat.{ℕ, zero, suc, ◌+◌, ◌-◌, ◌*◌, ◌<◌, ◌≤◌}
use mathlib.Core.Path.{◌≡◌, refl, sym, ap, ◌∙◌}
use mathlib.Core.Bool.{Bool, true, false}
use mathlib.Core.List.{List}
use native.Mathlib.Numerals.{add-one}
use native.Mathlib.Omega.{arith}
use lib.Dec.{eqb}
use lib.ListN.{length, set, replicate, get_or-replicate, length-set}
use lib.Seq.{get_or-set_other}
use borrow.Author.Tests.{eqb-true, eqb-false, eq-eqb, ne_eqb, le-ltb, lt-ltb}
use Rattle.octets.specs.Pick.{pick}
use Rattle.std.specs.Prelude.{Option, Some, None, Result, Ok, Err, ok_or}
use Rattle.numbers.specs.Refusals.{number}
use Rattle.numbers.specs.declared.refusal.Reason.TheVariants.{NotOpen, PoolLength, Unsound}
use Rattle.numbers.specs.declared.refusal.Refusal.{Refusal}
use Rattle.desk_entries.specs.Search.{Position, At, Nowhere, Barred, first_at, all_at, any_at, column, among, AtMost, longer, leading}
use Rattle.desk_entries.specs.Ticks.{higher, ahead_by}
use Rattle.desk_slots.specs.Sound.{state_at, Sound, ticket_at, fits_at, good_at, bounds, sound, ahead_in, sound_at}
use Rattle.desk_slots.specs.Slots.{Slot, Held, No, found, free_at, open_at, at_position, position_of, slot_of, met, latest, look_in, look_of, seen_of}
use Rattle.desk_entries.proofs.Searches.{clash, first_at_is, first_at_not, unbarred, all_at_none, all_at_hit, all_at_miss, any_at_none, any_at_more, any_at_some, leading_none, leading_more, leading_there, leading_not}
use Rattle.desk_slots.proofs.SoundLaws.{fits_fit, unfit, repeated, good, sound_at_lem}
use Rattle.desk_slots.proofs.SlotLaws.{Begun, begun_none, begun_more, begun_among, most_more, session_at, free_position}
use Rattle.desk_entries.specs.declared.Session.{Session}
use Rattle.desk_entries.specs.declared.State.{State}
use Rattle.desk_entries.specs.declared.State.TheVariants.{Free, Open}
use Rattle.desk_entries.specs.declared.Entry.{Entry}
use Rattle.desk_slots.specs.declared.Found.{Found}
use Rattle.desk_slots.specs.declared.Look.{Look}

never : (b : Bool) → pick b false false ≡ false
never true = refl
never false = refl

never_either : (b x : Bool) → pick (pick b false false) x false ≡ false
never_either true x = refl
never_either false x = refl

latest_none : (es : List Entry) (t : ℕ) → latest es t 0 ≡ None
unfolding latest
latest_none es t = refl

latest_more : (es : List Entry) (t n : ℕ) → latest es t (n + 1) ≡ met (latest es t n) n t (state_at es n)
unfolding latest
latest_more es t n = ap (latest es t) (add-one n)

-- a free entry and an open one that is not ahead
free_behind : (es : List Entry) (ks : List ℕ) (tick i : ℕ) → state_at es i ≡ Free → ahead_by (ticket_at es) (column ks) tick i ≡ false
free_behind es ks tick i e = rw e

open_behind : (es : List Entry) (ks : List ℕ) (tick i : ℕ) → column ks i ≤ tick → ahead_by (ticket_at es) (column ks) tick i ≡ false
open_behind es ks tick i h = rw (le-ltb tick (column ks i) h) (never (eqb (ticket_at es i) 0))

-- what the look has told before entry i
pub record Looked (es : List Entry) (slots next : ℕ) (ks : List ℕ) (tick t : ℕ) (ts : List ℕ) (highest : ℕ) (seen : Option Found) (run i : ℕ) : Type 0 where
  pub short : i ≤ 40
  pub size : length ts ≡ 40
  pub good : all_at (good_at es slots next) 0 40 ≡ all_at (good_at es slots next) i (40 - i)
  pub begun : Begun es ts i
  pub most : AtMost (column ts) i highest
  pub blank : (j : ℕ) → i ≤ j → j < 40 → column ts j ≡ 0
  pub behind : any_at (ahead_by (ticket_at es) (column ks) tick) i ≡ false
  pub last : seen ≡ latest es t i
  pub first : run ≡ leading (free_at es) i

pub looked_none : (es : List Entry) (slots next : ℕ) (ks : List ℕ) (tick t : ℕ) → Looked es slots next ks tick t (replicate 40 0) 0 None 0 0
unfolding AtMost
looked_none es slots next ks tick t =
    record {
      short = omega arith;
      size = refl;
      good = refl;
      begun = begun_none es (replicate 40 0);
      most = λ j l. absurd (omega arith);
      blank = λ j h l. get_or-replicate 40 j 0 0 l;
      behind = any_at_none (ahead_by (ticket_at es) (column ks) tick);
      last = sym (latest_none es t);
      first = sym (leading_none (free_at es));
    }

module _ (es : List Entry) (slots next : ℕ) (ks : List ℕ) (tick t : ℕ) (ts : List ℕ) (highest : ℕ) (seen : Option Found) (run i : ℕ)
    (h : Looked es slots next ks tick t ts highest seen run i) (l : i < 40) where
  behind_more : ahead_by (ticket_at es) (column ks) tick i ≡ false → any_at (ahead_by (ticket_at es) (column ks) tick) (i + 1) ≡ false
  behind_more e = any_at_more (ahead_by (ticket_at es) (column ks) tick) i ∙ rw h.behind e

  pub looked_free : state_at es i ≡ Free → Looked es slots next ks tick t ts highest seen run (i + 1)
  unfolding among AtMost Begun
  looked_free e =
      record {
        short = omega arith;
        size = h.size;
        good = h.good ∙ all_at_hit (good_at es slots next) 40 i l (good es slots next i (rw e) (rw e));
        begun = λ j k. begun j k (eqb j i) refl;
        most = λ j k. most j k (eqb j i) refl;
        blank = λ j k m. h.blank j (omega arith) m;
        behind = behind_more (free_behind es ks tick i e);
        last = h.last ∙ sym (latest_more es t i ∙ rw e);
        first = h.first ∙ sym (leading_more (free_at es) i ∙ rw e);
      }
    where
      begun : (j : ℕ) → j < i + 1 → (b : Bool) → eqb j i ≡ b → column ts j ≡ ticket_at es j
      begun j k true q = let w : j ≡ i = eqb-true j i q in rw (w, e) (h.blank i (omega arith) l)
      begun j k false q = h.begun j (omega (arith, eqb-false j i q))

      most : (j : ℕ) → j < i + 1 → (b : Bool) → eqb j i ≡ b → column ts j ≤ highest
      most j k true q = let w : j ≡ i = eqb-true j i q in rw w (let z = h.blank i (omega arith) l in omega arith)
      most j k false q = h.most j (omega (arith, eqb-false j i q))

  module _ (o : Session) (e : state_at es i ≡ Open o) where
    pub looked_open : fits_at es slots next i ≡ true → column ks i ≤ tick → among (column ts) o.ticket i ≡ false
        → Looked es slots next ks tick t (set ts i o.ticket) (higher highest o.ticket) (met seen i t (Open o)) (longer run i) (i + 1)
    looked_open f k a =
        let n : i < length ts = rw h.size l in
        let b : among (ticket_at es) (ticket_at es i) i ≡ false = rw e (sym (begun_among es ts i o.ticket h.begun) ∙ a) in
        record {
          short = omega arith;
          size = length-set ts i o.ticket ∙ h.size;
          good = h.good ∙ all_at_hit (good_at es slots next) 40 i l (good es slots next i f b);
          begun = begun_more es ts i o.ticket n (sym (rw e)) h.begun;
          most = most_more ts i o.ticket highest n h.most;
          blank = λ j u v. get_or-set_other ts i j o.ticket 0 (λ z. omega arith) ∙ h.blank j (omega arith) v;
          behind = behind_more (open_behind es ks tick i k);
          last = rw h.last (sym (latest_more es t i ∙ rw e));
          first = rw h.first (sym (leading_more (free_at es) i ∙ rw e));
        }

    pub looked_ahead : fits_at es slots next i ≡ true → tick < column ks i → sound_at es slots next ks tick ≡ false
    unfolding sound_at ahead_in
    looked_ahead f k =
        let w : 1 ≤ o.ticket = (fits_fit slots next i o (rw e at f)).low in
        let a : ahead_by (ticket_at es) (column ks) tick i ≡ true = rw (e, ne_eqb o.ticket 0 (λ z. omega arith)) (lt-ltb tick (column ks i) k) in
        rw (any_at_some (ahead_by (ticket_at es) (column ks) tick) 40 i l a) (never (sound es slots next))

    pub looked_repeated : fits_at es slots next i ≡ true → among (column ts) o.ticket i ≡ true → sound_at es slots next ks tick ≡ false
    unfolding sound_at sound
    looked_repeated f a =
        let b : among (ticket_at es) (ticket_at es i) i ≡ true = rw e (sym (begun_among es ts i o.ticket h.begun) ∙ a) in
        rw (h.good ∙ all_at_miss (good_at es slots next) 40 i l (repeated es slots next i f b)) (never_either (bounds slots next) _)

  pub looked_unfit : fits_at es slots next i ≡ false → sound_at es slots next ks tick ≡ false
  unfolding sound_at sound
  looked_unfit f =
      rw (h.good ∙ all_at_miss (good_at es slots next) 40 i l (unfit es slots next i f)) (never_either (bounds slots next) _)

pub looked_all : (es : List Entry) (slots next : ℕ) (ks : List ℕ) (tick t : ℕ) (ts : List ℕ) (highest : ℕ) (seen : Option Found) (run i : ℕ)
    → bounds slots next ≡ true → 40 ≤ i → Looked es slots next ks tick t ts highest seen run i
    → ◌≡◌ {A = Option Look} (Some (record { found = seen; run = run })) (look_of es slots next ks tick t)
unfolding look_of sound_at sound ahead_in
looked_all es slots next ks tick t ts highest seen run i b m h =
    let e : i ≡ 40 = omega (arith, h.short) in
    let g = h.good ∙ all_at_none (good_at es slots next) 40 i m in
    let n : any_at (ahead_by (ticket_at es) (column ks) tick) 40 ≡ false = rw e at h.behind in
    rw (h.last, h.first, b, g, n, e)

pub looked_unsound : (es : List Entry) (slots next : ℕ) (ks : List ℕ) (tick t : ℕ) → sound_at es slots next ks tick ≡ false → None ≡ look_of es slots next ks tick t
unfolding look_of
looked_unsound es slots next ks tick t e = rw e

pub unbounded : (es : List Entry) (slots next : ℕ) (ks : List ℕ) (tick : ℕ) → bounds slots next ≡ false → sound_at es slots next ks tick ≡ false
unfolding sound_at sound
unbounded es slots next ks tick e = rw e

-- ---- the last entry that has a ticket is the only one

abbrev Latest : List Entry → ℕ → ℕ → Option Found → Type 0
Latest es t n (Some f) = (f.slot < n) × ((state_at es f.slot ≡ Open f.session) × (f.session.ticket ≡ t))
Latest es t n None = (j : ℕ) → j < n → open_at es t j ≡ false

latest_is : (es : List Entry) (t n : ℕ) → Latest es t n (latest es t n)
unfolding latest
latest_is es t zero = λ j l. absurd (omega arith)
latest_is es t (suc n) = go (latest es t n) (latest_is es t n) (state_at es n) refl
  where
    none : open_at es t n ≡ false → ((j : ℕ) → j < n → open_at es t j ≡ false) → (j : ℕ) → j < suc n → (b : Bool) → eqb j n ≡ b → open_at es t j ≡ false
    none e f j l true q = let w : j ≡ n = eqb-true j n q in rw w e
    none e f j l false q = f j (omega (arith, eqb-false j n q))

    kept : (x : Option Found) → Latest es t n x → open_at es t n ≡ false → Latest es t (suc n) x
    kept (Some f) h e = (omega (arith, h.0), h.1)
    kept None h e = λ j l. none e h j l (eqb j n) refl

    go : (x : Option Found) → Latest es t n x → (y : State) → state_at es n ≡ y → Latest es t (suc n) (met x n t y)
    go x h Free q = kept x h (rw q)
    go x h (Open s) q = pass (eqb s.ticket t) refl
      where
        pass : (b : Bool) → eqb s.ticket t ≡ b → Latest es t (suc n) (pick b (Some (record { slot = n; session = s })) x)
        pass true p = (omega arith, (q, eqb-true s.ticket t p))
        pass false p = kept x h (rw q p)

-- what is found, or 22
abbrev pub or_not_open : Option Found → Slot
or_not_open None = No 22
or_not_open (Some f) = Held f.slot f.session

pub or_22 : (f : Option Found) → or_not_open f ≡ found (ok_or f (record { 0 = NotOpen; 1 = 0 }))
or_22 None = refl
or_22 (Some f) = refl

latest_only : (es : List Entry) (slots next t : ℕ) → Sound es slots next → or_not_open (latest es t 40) ≡ at_position es (first_at (open_at es t) 0 40)
latest_only es slots next t s = go (latest es t 40) (latest_is es t 40) (first_at (open_at es t) 0 40) refl
  where
    go : (x : Option Found) → Latest es t 40 x → (p : Position) → first_at (open_at es t) 0 40 ≡ p → or_not_open x ≡ at_position es p
    go x h (Barred n) f = unbarred (open_at es t) 40 0 n f
    go None h Nowhere f = refl
    go None h (At j) f =
        let w = first_at_is (open_at es t) 40 0 j f in
        let z : false ≡ true = sym (h j (omega arith)) ∙ w.0 in
        clash cc
    go (Some o) h Nowhere f =
        let z : false ≡ true = sym (first_at_not (open_at es t) 40 0 f o.slot (omega arith) (omega (arith, h.0))) ∙ rw h.1.0 (eq-eqb o.session.ticket t h.1.1) in
        clash cc
    go (Some o) h (At j) f =
        let w = first_at_is (open_at es t) 40 0 j f in
        let u = session_at es t j w.0 in
        let k : o.slot ≡ j = s.distinct o.slot j h.0 (omega arith) o.session u.0 h.1.0 u.1.0 (h.1.1 ∙ sym u.1.1) in
        rw (← k) (rw h.1.0)

-- ---- what a look leads to

module _ (es : List Entry) (slots next : ℕ) (ks : List ℕ) (tick t : ℕ) (l : Option Look) (e : l ≡ look_of es slots next ks tick t) where
  pub seen_unsound : l ≡ None → sound_at es slots next ks tick ≡ false
  unfolding look_of
  seen_unsound f = go (sound_at es slots next ks tick) (sym e ∙ f)
    where
      go : (b : Bool) → pick b (Some (look_in es t)) None ≡ None → b ≡ false
      go false q = refl
      go true q = clash cc

  pub seen_sound : (r : Look) → l ≡ Some r → (sound_at es slots next ks tick ≡ true) × (r ≡ look_in es t)
  unfolding look_of
  seen_sound r f = go (sound_at es slots next ks tick) (sym e ∙ f)
    where
      go : (b : Bool) → pick b (Some (look_in es t)) None ≡ Some r → (b ≡ true) × (r ≡ look_in es t)
      go true q = (refl, cc)
      go false q = clash cc

few_slots : (es : List Entry) (slots next : ℕ) (ks : List ℕ) (tick : ℕ) → sound_at es slots next ks tick ≡ true → slots ≤ 40
few_slots es slots next ks tick e = (sound_at_lem es slots next ks tick e).entries.most

module _ (es : List Entry) (slots next : ℕ) (ks : List ℕ) (tick size t : ℕ) where
  -- a look along a sound desk: its slots are few, and its pool has another size or this one
  module _ (r : Look) (e : Some r ≡ look_of es slots next ks tick t) where
    pub seen_few : slots ≤ 40
    seen_few = few_slots es slots next ks tick (seen_sound es slots next ks tick t (Some r) e r refl).0

    pub seen_unsized : (size ≡ slots * 16384 → ⊥) → ◌≡◌ {A = Result Look Refusal} (Err (record { 0 = PoolLength; 1 = 0 })) (seen_of es slots next ks tick size t)
    unfolding seen_of
    seen_unsized n = rw ((seen_sound es slots next ks tick t (Some r) e r refl).0, ne_eqb size (slots * 16384) n)

    pub seen_sized : size ≡ slots * 16384 → ◌≡◌ {A = Result Look Refusal} (Ok r) (seen_of es slots next ks tick size t)
    unfolding seen_of
    seen_sized n =
        let s = seen_sound es slots next ks tick t (Some r) e r refl in
        rw (s.0, eq-eqb size (slots * 16384) n, s.1)

  pub unseen : None ≡ look_of es slots next ks tick t → ◌≡◌ {A = Result Look Refusal} (Err (record { 0 = Unsound; 1 = 0 })) (seen_of es slots next ks tick size t)
  unfolding seen_of
  unseen e = rw (seen_unsound es slots next ks tick t None e refl)

  -- a look that is barred, or one along a sound desk
  module _ (x : Result Look Refusal) (e : x ≡ seen_of es slots next ks tick size t) where
    abbrev Sees : Bool → Bool → Type 0
    Sees a b = pick {A = Result Look Refusal} a (pick b (Ok (look_in es t)) (Err (record { 0 = PoolLength; 1 = 0 }))) (Err (record { 0 = Unsound; 1 = 0 })) ≡ x

    sees : Sees (sound_at es slots next ks tick) (eqb size (slots * 16384))
    unfolding seen_of
    sees = sym e

    pub barred_start : (r : Refusal) → x ≡ Err r → r.1 ≡ 0
    barred_start r f = go (sound_at es slots next ks tick) (eqb size (slots * 16384)) sees
      where
        go : (a b : Bool) → Sees a b → r.1 ≡ 0
        go true true q = clash cc
        go true false q = let w : r ≡ record { 0 = PoolLength; 1 = 0 } = cc in rw w
        go false b q = let w : r ≡ record { 0 = Unsound; 1 = 0 } = cc in rw w

    pub slot_barred : (r : Refusal) → x ≡ Err r → No (number r.0) ≡ slot_of es slots next ks tick size t
    unfolding slot_of
    slot_barred r f = go (sound_at es slots next ks tick) (eqb size (slots * 16384)) sees
      where
        go : (a b : Bool) → Sees a b → No (number r.0) ≡ pick a (pick b (at_position es (first_at (open_at es t) 0 40)) (No 24)) (No 25)
        go true true q = clash cc
        go true false q = let w : r ≡ record { 0 = PoolLength; 1 = 0 } = cc in rw w
        go false b q = let w : r ≡ record { 0 = Unsound; 1 = 0 } = cc in rw w

    pub slot_seen : (r : Look) → x ≡ Ok r → or_not_open r.found ≡ slot_of es slots next ks tick size t
    unfolding slot_of
    slot_seen r f = go (sound_at es slots next ks tick) refl (eqb size (slots * 16384)) sees
      where
        go : (a : Bool) → sound_at es slots next ks tick ≡ a → (b : Bool) → Sees a b → or_not_open r.found ≡ pick a (pick b (at_position es (first_at (open_at es t) 0 40)) (No 24)) (No 25)
        go true p true q = let w : r ≡ look_in es t = cc in rw w (latest_only es slots next t (sound_at_lem es slots next ks tick p).entries)
        go true p false q = clash cc
        go false p b q = clash cc

module _ (es : List Entry) (slots next : ℕ) (ks : List ℕ) (tick size : ℕ) (x : Result Look Refusal) (e : x ≡ seen_of es slots next ks tick size 0) where
  pub position_barred : (r : Refusal) → x ≡ Err r → Barred (number r.0) ≡ position_of es slots next ks tick size 0
  position_barred r f = rw (free_position es slots next ks tick size) (go (sound_at es slots next ks tick) (eqb size (slots * 16384)) (sees es slots next ks tick size 0 x e))
    where
      go : (a b : Bool) → Sees es slots next ks tick size 0 x e a b → Barred (number r.0) ≡ pick a (pick b (first_at (free_at es) 0 slots) (Barred 24)) (Barred 25)
      go true true q = clash cc
      go true false q = let w : r ≡ record { 0 = PoolLength; 1 = 0 } = cc in rw w
      go false b q = let w : r ≡ record { 0 = Unsound; 1 = 0 } = cc in rw w

  module _ (r : Look) (f : x ≡ Ok r) where
    seen_free : (p : Position) → (slots ≤ 40 → r ≡ look_in es 0 → p ≡ first_at (free_at es) 0 slots) → p ≡ position_of es slots next ks tick size 0
    seen_free p g = rw (free_position es slots next ks tick size) (go (sound_at es slots next ks tick) refl (eqb size (slots * 16384)) (sees es slots next ks tick size 0 x e))
      where
        go : (a : Bool) → sound_at es slots next ks tick ≡ a → (b : Bool) → Sees es slots next ks tick size 0 x e a b
            → p ≡ pick a (pick b (first_at (free_at es) 0 slots) (Barred 24)) (Barred 25)
        go true h true q = g (few_slots es slots next ks tick h) cc
        go true h false q = clash cc
        go false h b q = clash cc

    pub position_free : r.run < slots → At r.run ≡ position_of es slots next ks tick size 0
    position_free l = seen_free (At r.run) (λ m w. (let k : r.run ≡ leading (free_at es) 40 = ap (λ (y : Look). y.run) w in rw k (sym (leading_there (free_at es) 40 slots m (rw k at l)))))

    pub position_full : slots ≤ r.run → Nowhere ≡ position_of es slots next ks tick size 0
    position_full l = seen_free Nowhere (λ m w. (let k : r.run ≡ leading (free_at es) 40 = ap (λ (y : Look). y.run) w in sym (leading_not (free_at es) 40 slots (rw k at l))))

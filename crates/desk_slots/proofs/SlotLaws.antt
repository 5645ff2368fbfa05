-- The refusals 25 and 24, and the slot of a ticket and the lowest free slot, found by one search along the tickets. Assumes nothing.
use Prim.Native.Nat.{ℕ, ◌+◌, ◌*◌, ◌<◌, ◌≤◌}
use mathlib.Core.Path.{◌≡◌, refl, sym, ap, ◌∙◌}
use mathlib.Core.Bool.{Bool, true, false}
use mathlib.Core.List.{List}
use native.Mathlib.Omega.{arith}
use lib.Dec.{ltb, eqb}
use lib.ListN.{length, set}
use lib.Seq.{get_or-set_same, get_or-set_other}
use borrow.Author.Tests.{ltb-true, ltb-false, eqb-true, eqb-false, ne_eqb}
use Rattle.octets.specs.Pick.{pick}
use Rattle.desk_entries.specs.Search.{Position, At, Nowhere, Barred, first_at, column, same_as, among, AtMost}
use Rattle.desk_entries.specs.Ticks.{higher}
use Rattle.desk_slots.specs.Sound.{state_at, Sound, SoundAt, ticket_at, sound_at}
use Rattle.desk_slots.specs.Slots.{Slot, Held, No, guarded, is_free, free_at, open_at, in_state, at_position, position_of, slot_of, Within}
use Rattle.desk_entries.proofs.Searches.{clash, first_at_is, first_at_same, among_same}
use Rattle.desk_slots.proofs.SoundLaws.{sound_at_lem}
use Rattle.desk_entries.specs.declared.Session.{Session}
use Rattle.desk_entries.specs.declared.State.{State}
use Rattle.desk_entries.specs.declared.State.TheVariants.{Free, Open}
use Rattle.desk_entries.specs.declared.Entry.{Entry}

-- ---- 25 and 24

abbrev bar : Bool → Bool → ℕ
bar a b = pick a (pick b 0 24) 25

-- neither refusal
pub record Clear (es : List Entry) (slots next : ℕ) (ks : List ℕ) (tick : ℕ) (size : ℕ) : Type 0 where
  pub sound : SoundAt es slots next ks tick
  pub sized : size ≡ slots * 16384

pub clear : (es : List Entry) (slots next : ℕ) (ks : List ℕ) (tick : ℕ) (size : ℕ) → guarded es slots next ks tick size (λ n. n) 0 ≡ 0 → Clear es slots next ks tick size
clear es slots next ks tick size e = go (sound_at es slots next ks tick) refl (eqb size (slots * 16384)) refl e
  where
    go : (a : Bool) → sound_at es slots next ks tick ≡ a → (b : Bool) → eqb size (slots * 16384) ≡ b → bar a b ≡ 0 → Clear es slots next ks tick size
    go true p true q h = record { sound = sound_at_lem es slots next ks tick p; sized = eqb-true size (slots * 16384) q }
    go true p false q h = absurd (omega arith)
    go false p b q h = absurd (omega arith)

pub cleared : {A : Type 0} (es : List Entry) (slots next : ℕ) (ks : List ℕ) (tick : ℕ) (size : ℕ) (f : ℕ → A) (a : A) → guarded es slots next ks tick size (λ n. n) 0 ≡ 0 → guarded es slots next ks tick size f a ≡ a
cleared {A} es slots next ks tick size f a e = go (sound_at es slots next ks tick) (eqb size (slots * 16384)) e
  where
    go : (x y : Bool) → bar x y ≡ 0 → pick {A = A} x (pick y a (f 24)) (f 25) ≡ a
    go true true h = refl
    go true false h = absurd (omega arith)
    go false y h = absurd (omega arith)

pub barred : {A : Type 0} (es : List Entry) (slots next : ℕ) (ks : List ℕ) (tick : ℕ) (size : ℕ) (f : ℕ → A) (a : A) → (guarded es slots next ks tick size (λ n. n) 0 ≡ 0 → ⊥) → guarded es slots next ks tick size f a ≡ f (guarded es slots next ks tick size (λ n. n) 0)
barred {A} es slots next ks tick size f a n = go (sound_at es slots next ks tick) (eqb size (slots * 16384)) n
  where
    go : (x y : Bool) → (bar x y ≡ 0 → ⊥) → pick {A = A} x (pick y a (f 24)) (f 25) ≡ f (bar x y)
    go true true h = absurd (h refl)
    go true false h = refl
    go false y h = refl

-- ---- the tickets side by side

-- the tickets of the first n entries
unfoldable pub Begun : List Entry → List ℕ → ℕ → Type 0
Begun es ts n = (i : ℕ) → i < n → column ts i ≡ ticket_at es i

pub begun_none : (es : List Entry) (ts : List ℕ) → Begun es ts 0
unfolding Begun
begun_none es ts i h = absurd (omega arith)

pub begun_more : (es : List Entry) (ts : List ℕ) (n t : ℕ) → n < length ts → t ≡ ticket_at es n → Begun es ts n → Begun es (set ts n t) (n + 1)
unfolding Begun
begun_more es ts n t l e b i h = go (eqb i n) refl
  where
    go : (x : Bool) → eqb i n ≡ x → column (set ts n t) i ≡ ticket_at es i
    go true q = let w : i ≡ n = eqb-true i n q in rw w (get_or-set_same ts n t 0 l ∙ e)
    go false q = let w : i ≡ n → ⊥ = eqb-false i n q in get_or-set_other ts n i t 0 w ∙ b i (omega arith)

pub begun_among : (es : List Entry) (ts : List ℕ) (n t : ℕ) → Begun es ts n → among (column ts) t n ≡ among (ticket_at es) t n
unfolding Begun
begun_among es ts n t b = among_same (column ts) (ticket_at es) t n b

-- one number more, and the higher one as the bound
pub most_more : (ts : List ℕ) (n t h : ℕ) → n < length ts → AtMost (column ts) n h → AtMost (column (set ts n t)) (n + 1) (higher h t)
unfolding AtMost
most_more ts n t h l m j k = go (eqb j n) refl (ltb h t) refl
  where
    go : (x : Bool) → eqb j n ≡ x → (y : Bool) → ltb h t ≡ y → column (set ts n t) j ≤ pick (ltb h t) t h
    go true q true r = let w : j ≡ n = eqb-true j n q in rw (w, r) (let e = get_or-set_same ts n t 0 l in omega arith)
    go true q false r = let w : j ≡ n = eqb-true j n q in rw (w, r) (let e = get_or-set_same ts n t 0 l in omega (arith, ltb-false h t r))
    go false q true r =
        let w : j ≡ n → ⊥ = eqb-false j n q in
        rw r (let e = get_or-set_other ts n j t 0 w in omega (arith, m j (omega arith), ltb-true h t r))
    go false q false r =
        let w : j ≡ n → ⊥ = eqb-false j n q in
        rw r (let e = get_or-set_other ts n j t 0 w in omega (arith, m j (omega arith)))

-- ---- a ticket among the entries

pub free_is : (x : State) → is_free x ≡ true → x ≡ Free
free_is Free e = refl
free_is (Open s) e = clash cc

-- the session of an entry that has a ticket
pub session_at : (es : List Entry) (t i : ℕ) → open_at es t i ≡ true → (s : Session) × ((state_at es i ≡ Open s) × (s.ticket ≡ t))
session_at es t i e = go (state_at es i) refl
  where
    go : (x : State) → state_at es i ≡ x → (s : Session) × ((state_at es i ≡ Open s) × (s.ticket ≡ t))
    go Free q = let z : false ≡ true = rw q at e in clash cc
    go (Open s) q = (s, (q, eqb-true s.ticket t (rw q at e)))

module _ (es : List Entry) (slots next : ℕ) (s : Sound es slots next) where
  -- an entry is free where its ticket counts as 0
  free_zero : (j : ℕ) → j < 40 → (x : State) → state_at es j ≡ x → same_as (ticket_at es) 0 j ≡ free_at es j
  free_zero j h Free q = rw q
  free_zero j h (Open o) q = let f = s.each j h o q in let l = f.low in rw q (ne_eqb o.ticket 0 (λ z. omega arith))

  lowest_free : first_at (same_as (ticket_at es) 0) 0 slots ≡ first_at (free_at es) 0 slots
  lowest_free =
      let m = s.most in
      first_at_same (same_as (ticket_at es) 0) (free_at es) slots 0 (λ j h l. free_zero j (omega arith) (state_at es j) refl)

  pub slot_inside : (j : ℕ) → j < 40 → (o : Session) → state_at es j ≡ Open o → j < slots
  slot_inside j h o q = go (ltb j slots) refl
    where
      go : (b : Bool) → ltb j slots ≡ b → j < slots
      go true b = ltb-true j slots b
      go false b = let w : Free ≡ Open o = sym (s.past j (ltb-false j slots b) h) ∙ q in clash cc

-- ---- a search

-- barred, or clear with what was found
pub position_short : (es : List Entry) (slots next : ℕ) (ks : List ℕ) (tick : ℕ) (size t i : ℕ) → position_of es slots next ks tick size t ≡ At i → i < 40
unfolding position_of
position_short es slots next ks tick size t i e = go (eqb (guarded es slots next ks tick size (λ n. n) 0) 0) refl
  where
    go : (b : Bool) → eqb (guarded es slots next ks tick size (λ n. n) 0) 0 ≡ b → i < 40
    go true b =
        let z : guarded es slots next ks tick size (λ n. n) 0 ≡ 0 = eqb-true (guarded es slots next ks tick size (λ n. n) 0) 0 b in
        let m = (clear es slots next ks tick size z).sound.entries.most in
        let w = first_at_is (same_as (ticket_at es) t) slots 0 i (sym (cleared es slots next ks tick size Barred (first_at (same_as (ticket_at es) t) 0 slots) z) ∙ e) in
        omega arith
    go false b =
        let h : Barred (guarded es slots next ks tick size (λ n. n) 0) ≡ At i = sym (barred es slots next ks tick size Barred (first_at (same_as (ticket_at es) t) 0 slots) (eqb-false (guarded es slots next ks tick size (λ n. n) 0) 0 b)) ∙ e in
        clash cc

-- a search for 0 leads to the lowest free slot
pub free_position : (es : List Entry) (slots next : ℕ) (ks : List ℕ) (tick size : ℕ) → position_of es slots next ks tick size 0 ≡ guarded es slots next ks tick size Barred (first_at (free_at es) 0 slots)
unfolding position_of
free_position es slots next ks tick size = go (sound_at es slots next ks tick) refl
  where
    go : (a : Bool) → sound_at es slots next ks tick ≡ a
        → pick a (pick (eqb size (slots * 16384)) (first_at (same_as (ticket_at es) 0) 0 slots) (Barred 24)) (Barred 25)
        ≡ pick a (pick (eqb size (slots * 16384)) (first_at (free_at es) 0 slots) (Barred 24)) (Barred 25)
    go true a = rw (lowest_free es slots next (sound_at_lem es slots next ks tick a).entries)
    go false a = refl

-- ---- a granted slot

pub record Granted (es : List Entry) (slots next : ℕ) (ks : List ℕ) (tick : ℕ) (size t i : ℕ) (s : Session) : Type 0 where
  pub sound : SoundAt es slots next ks tick
  pub sized : size ≡ slots * 16384
  pub state : state_at es i ≡ Open s
  pub ticket : s.ticket ≡ t
  pub short : i < 40
  pub few : slots ≤ 40
  pub inside : i < slots
  pub room : s.held ≤ 16384

never : {A : Type 0} (n i : ℕ) (s : Session) → No n ≡ Held i s → A
never n i s e = clash cc

pub granted : (es : List Entry) (slots next : ℕ) (ks : List ℕ) (tick : ℕ) (size t i : ℕ) (s : Session) → slot_of es slots next ks tick size t ≡ Held i s → Granted es slots next ks tick size t i s
unfolding slot_of
granted es slots next ks tick size t i s e = go (eqb (guarded es slots next ks tick size (λ n. n) 0) 0) refl
  where
    place : (p : Position) → first_at (open_at es t) 0 40 ≡ p → at_position es p ≡ Held i s → first_at (open_at es t) 0 40 ≡ At i
    place Nowhere q h = never 22 i s h
    place (Barred n) q h = never n i s h
    place (At j) q h = q ∙ ap At (at (state_at es j) h)
      where
        at : (x : State) → in_state j x ≡ Held i s → j ≡ i
        at Free h = never 22 i s h
        at (Open o) h = cc

    open_there : (x : State) → in_state i x ≡ Held i s → x ≡ Open s
    open_there Free h = never 22 i s h
    open_there (Open o) h = let w : o ≡ s = cc in ap Open w

    go : (b : Bool) → eqb (guarded es slots next ks tick size (λ n. n) 0) 0 ≡ b → Granted es slots next ks tick size t i s
    go true b =
        let z : guarded es slots next ks tick size (λ n. n) 0 ≡ 0 = eqb-true (guarded es slots next ks tick size (λ n. n) 0) 0 b in
        let k = clear es slots next ks tick size z in
        let h : at_position es (first_at (open_at es t) 0 40) ≡ Held i s = sym (cleared es slots next ks tick size No (at_position es (first_at (open_at es t) 0 40)) z) ∙ e in
        let p = place (first_at (open_at es t) 0 40) refl h in
        let f = first_at_is (open_at es t) 40 0 i p in
        let q : state_at es i ≡ Open s = open_there (state_at es i) (rw p at h) in
        let l : i < 40 = omega arith in
        record {
          sound = k.sound;
          sized = k.sized;
          state = q;
          ticket = eqb-true s.ticket t (rw q at f.0);
          short = l;
          few = k.sound.entries.most;
          inside = slot_inside es slots next k.sound.entries i l s q;
          room = (k.sound.entries.each i l s q).room;
        }
    go false b =
        never (guarded es slots next ks tick size (λ n. n) 0) i s
        (sym (barred es slots next ks tick size No (at_position es (first_at (open_at es t) 0 40)) (eqb-false (guarded es slots next ks tick size (λ n. n) 0) 0 b)) ∙ e)

-- the slot of a ticket lies within desk and pool
pub within : (es : List Entry) (slots next : ℕ) (ks : List ℕ) (tick size t : ℕ) (x : Slot) → x ≡ slot_of es slots next ks tick size t → Within size x
within es slots next ks tick size t (No n) h = tt
within es slots next ks tick size t (Held i s) h =
    let g = granted es slots next ks tick size t i s (sym h) in
    record { short = g.short; room = g.room; end = omega arith }

-- The test of a desk says that it is sound, in both directions. Assumes nothing.
use Prim.Native.Nat.{ℕ, ◌<◌, ◌≤◌}
use mathlib.Core.Path.{◌≡◌, refl, sym, ◌∙◌}
use mathlib.Core.Bool.{Bool, true, false, not}
use mathlib.Core.List.{List}
use native.Mathlib.Omega.{arith}
use lib.Dec.{ltb, eqb}
use Rattle.octets.specs.Pick.{pick}
use borrow.Author.Tests.{ltb-true, ltb-false, leb-true, eqb-true, eqb-false, ne_eqb, lt-ltb, le-ltb, le-leb}
use Rattle.desk_entries.specs.Search.{all_at, among}
use Rattle.desk_slots.specs.Sound.{state_at, Fit, Sound, tick_at, SoundAt, ticket_at, fits_at, good_at, bounds, sound, ahead_in, sound_at}
use Rattle.desk_entries.specs.Entries.{fits}
use Rattle.desk_entries.specs.Ticks.{ahead_by}
use Rattle.desk_entries.proofs.Searches.{clash, pick_both, all_at_all, all_all_at, among_not, not_among, any_at_not, not_any_at}
use Rattle.desk_entries.specs.declared.Session.{Session}
use Rattle.desk_entries.specs.declared.State.{State}
use Rattle.desk_entries.specs.declared.State.TheVariants.{Free, Open}
use Rattle.desk_entries.specs.declared.Entry.{Entry}

-- ---- an entry

fits_inside : (slots next i : ℕ) (s : Session) → fits slots next i (Open s) ≡ true → i < slots
fits_inside slots next i s e = ltb-true i slots (pick_both (ltb i slots) _ e).0

pub fits_fit : (slots next i : ℕ) (s : Session) → fits slots next i (Open s) ≡ true → Fit next s
fits_fit slots next i s e =
    let a = pick_both _ _ (pick_both (ltb i slots) _ e).1 in
    let b = pick_both _ _ a.1 in
    record { low = leb-true _ _ a.0; high = ltb-true _ _ b.0; room = leb-true _ _ b.1 }

fit_fits : (slots next i : ℕ) (s : Session) → i < slots → Fit next s → fits slots next i (Open s) ≡ true
fit_fits slots next i s h f =
    rw (lt-ltb i slots h, le-leb 1 s.ticket f.low, lt-ltb s.ticket next f.high) (le-leb s.held 16384 f.room)

-- ---- bounds

pub bounds_are : (slots next : ℕ) → bounds slots next ≡ true → (1 ≤ slots) × (slots ≤ 40) × (1 ≤ next)
unfolding bounds
bounds_are slots next e =
    let a = pick_both _ _ e in
    let b = pick_both _ _ a.1 in
    (leb-true _ _ a.0, leb-true _ _ b.0, leb-true _ _ b.1)

pub in_bounds : (slots next : ℕ) → 1 ≤ slots → slots ≤ 40 → 1 ≤ next → bounds slots next ≡ true
unfolding bounds
in_bounds slots next a b c = rw (le-leb 1 slots a, le-leb slots 40 b) (le-leb 1 next c)

-- ---- the desk

good_fits : (es : List Entry) (slots next i : ℕ) → good_at es slots next i ≡ true → fits_at es slots next i ≡ true
unfolding good_at
good_fits es slots next i e = (pick_both (fits_at es slots next i) (not (among (ticket_at es) (ticket_at es i) i)) e).0

good_new : (es : List Entry) (slots next i : ℕ) → good_at es slots next i ≡ true → among (ticket_at es) (ticket_at es i) i ≡ false
unfolding good_at
good_new es slots next i e = go (among (ticket_at es) (ticket_at es i) i) (pick_both (fits_at es slots next i) (not (among (ticket_at es) (ticket_at es i) i)) e).1
  where
    go : (b : Bool) → not b ≡ true → b ≡ false
    go true h = clash cc
    go false h = refl

pub unfit : (es : List Entry) (slots next i : ℕ) → fits_at es slots next i ≡ false → good_at es slots next i ≡ false
unfolding good_at
unfit es slots next i e = rw e

pub repeated : (es : List Entry) (slots next i : ℕ) → fits_at es slots next i ≡ true → among (ticket_at es) (ticket_at es i) i ≡ true → good_at es slots next i ≡ false
unfolding good_at
repeated es slots next i e f = rw (e, f)

pub good : (es : List Entry) (slots next i : ℕ) → fits_at es slots next i ≡ true → among (ticket_at es) (ticket_at es i) i ≡ false → good_at es slots next i ≡ true
unfolding good_at
good es slots next i e f = rw (e, f)

module _ (es : List Entry) (slots next : ℕ) where
  parts : sound es slots next ≡ true → (bounds slots next ≡ true) × (all_at (good_at es slots next) 0 40 ≡ true)
  unfolding sound
  parts e = pick_both (bounds slots next) (all_at (good_at es slots next) 0 40) e

  each_good : sound es slots next ≡ true → (i : ℕ) → i < 40 → good_at es slots next i ≡ true
  each_good e i h = all_at_all (good_at es slots next) 40 0 (parts e).1 i (omega arith) (omega arith)

  each_fits : sound es slots next ≡ true → (i : ℕ) → i < 40 → (x : State) → state_at es i ≡ x → fits slots next i x ≡ true
  each_fits e i h x q = rw q at (good_fits es slots next i (each_good e i h))

  -- no ticket is that of an entry before
  no_repeat : sound es slots next ≡ true → (i j : ℕ) → j < 40 → i < j → (s : Session) → state_at es j ≡ Open s → ticket_at es i ≡ s.ticket → ⊥
  no_repeat e i j h l s q r =
      let f = fits_fit slots next j s (each_fits e j h (Open s) q) in
      let z : s.ticket ≡ 0 → ⊥ = λ x. (let k = f.low in omega arith) in
      let a : among (ticket_at es) s.ticket j ≡ false = rw q at (good_new es slots next j (each_good e j h)) in
      among_not (ticket_at es) s.ticket j a z i l r

  -- what the test tells
  pub sound_is : sound es slots next ≡ true → Sound es slots next
  sound_is e =
      let b = bounds_are slots next (parts e).0 in
      record {
        some = b.0;
        most = b.1;
        first = b.2;
        past = λ i h l. past i h l (state_at es i) refl;
        each = λ i h s q. fits_fit slots next i s (each_fits e i h (Open s) q);
        distinct = λ i j h l s u q r t. distinct i j h l s u q r t (eqb i j) refl (ltb i j) refl;
      }
    where
      past : (i : ℕ) → slots ≤ i → i < 40 → (x : State) → state_at es i ≡ x → x ≡ Free
      past i h l Free q = refl
      past i h l (Open s) q = let w = fits_inside slots next i s (each_fits e i l (Open s) q) in absurd (omega arith)

      distinct : (i j : ℕ) → i < 40 → j < 40 → (s u : Session) → state_at es i ≡ Open s → state_at es j ≡ Open u → s.ticket ≡ u.ticket
          → (a : Bool) → eqb i j ≡ a → (b : Bool) → ltb i j ≡ b → i ≡ j
      distinct i j h l s u q r t true a b c = eqb-true i j a
      distinct i j h l s u q r t false a true c = absurd (no_repeat e i j l (ltb-true i j c) u r (rw q t))
      distinct i j h l s u q r t false a false c =
          let w : j ≤ i = ltb-false i j c in
          let n : i ≡ j → ⊥ = eqb-false i j a in
          absurd (no_repeat e j i h (omega arith) s q (rw r (sym t)))

  -- and nothing less
  pub is_sound : Sound es slots next → sound es slots next ≡ true
  unfolding sound
  is_sound g =
      rw (in_bounds slots next g.some g.most g.first)
      (all_all_at (good_at es slots next) 40 0
      (λ j h l.
      good es slots next j (fit j (omega arith) (state_at es j) refl)
      (not_among (ticket_at es) (ticket_at es j) j
      (λ n m k e. alone j m (omega arith) k (state_at es j) refl (state_at es m) refl n e))))
    where
      inside : (i : ℕ) → i < 40 → (s : Session) → state_at es i ≡ Open s → (b : Bool) → ltb i slots ≡ b → i < slots
      inside i h s q true b = ltb-true i slots b
      inside i h s q false b = let w : Free ≡ Open s = sym (g.past i (ltb-false i slots b) h) ∙ q in clash cc

      fit : (j : ℕ) → j < 40 → (x : State) → state_at es j ≡ x → fits_at es slots next j ≡ true
      fit j h Free q = rw q
      fit j h (Open s) q = rw q (fit_fits slots next j s (inside j h s q (ltb j slots) refl) (g.each j h s q))

      alone : (j m : ℕ) → j < 40 → m < j → (x : State) → state_at es j ≡ x → (y : State) → state_at es m ≡ y
          → (ticket_at es j ≡ 0 → ⊥) → ticket_at es m ≡ ticket_at es j → ⊥
      alone j m h l Free q y r n e = n (rw q)
      alone j m h l (Open s) q Free r n e = n (sym e ∙ rw r)
      alone j m h l (Open s) q (Open u) r n e =
          let w = g.distinct m j (omega arith) h u s r q (rw (r, q) at e) in
          omega arith

-- ---- ticks

not-not : (b : Bool) → not b ≡ true → b ≡ false
not-not true e = clash cc
not-not false e = refl

module _ (es : List Entry) (slots next : ℕ) (ks : List ℕ) (tick : ℕ) where
  behind_at : Sound es slots next → ahead_in es ks tick ≡ false → (i : ℕ) → i < 40 → (s : Session) → state_at es i ≡ Open s → tick_at ks i ≤ tick
  unfolding ahead_in
  behind_at g e i h s q =
      let n : s.ticket ≡ 0 → ⊥ = λ z. (let l = (g.each i h s q).low in omega arith) in
      let a : ahead_by (ticket_at es) (tick_at ks) tick i ≡ false = any_at_not (ahead_by (ticket_at es) (tick_at ks) tick) 40 e i h in
      let b : pick (eqb s.ticket 0) false (ltb tick (tick_at ks i)) ≡ false = rw q at a in
      ltb-false tick (tick_at ks i) (rw (ne_eqb s.ticket 0 n) at b)

  none_ahead : ((i : ℕ) → i < 40 → (s : Session) → state_at es i ≡ Open s → tick_at ks i ≤ tick) → ahead_in es ks tick ≡ false
  unfolding ahead_in
  none_ahead f = not_any_at (ahead_by (ticket_at es) (tick_at ks) tick) 40 (λ j h. go j h (state_at es j) refl)
    where
      go : (j : ℕ) → j < 40 → (x : State) → state_at es j ≡ x → ahead_by (ticket_at es) (tick_at ks) tick j ≡ false
      go j h Free q = rw q
      go j h (Open s) q = rw (q, le-ltb tick (tick_at ks j) (f j h s q)) (none (eqb s.ticket 0))
        where
          none : (b : Bool) → pick b false false ≡ false
          none true = refl
          none false = refl

  -- what the test with ticks tells, and nothing less
  pub sound_at_lem : sound_at es slots next ks tick ≡ true → SoundAt es slots next ks tick
  unfolding sound_at
  sound_at_lem e =
      let b = pick_both (sound es slots next) (not (ahead_in es ks tick)) e in
      let g = sound_is es slots next b.0 in
      record { entries = g; behind = behind_at g (not-not (ahead_in es ks tick) b.1) }

  pub at_sound : SoundAt es slots next ks tick → sound_at es slots next ks tick ≡ true
  unfolding sound_at
  at_sound g = rw (is_sound es slots next g.entries, none_ahead g.behind)

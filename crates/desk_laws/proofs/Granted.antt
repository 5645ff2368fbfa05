-- What a granted call does to desk and pool: one entry and a run of octets change, and nothing else. Assumes nothing.
use Prim.Native.Nat.{ℕ, zero, suc, ◌+◌, ◌*◌, ◌-◌, ◌<◌, ◌≤◌}
use mathlib.Core.Path.{◌≡◌, refl, sym, ap, subst, ◌∙◌}
use mathlib.Core.Bool.{Bool, true, false}
use mathlib.Core.List.{List, ◌++◌}
use native.Mathlib.Omega.{arith}
use lib.Dec.{ltb, leb, eqb}
use lib.ListN.{length, get_or, take, drop, set, length-set, get_or-replicate, get_or-append}
use lib.Seq.{length-take-le, get_or-append-add, get_or-take, get_or-drop, get_or-set_same, get_or-set_other}
use borrow.Author.Tests.{ltb-false, leb-true, le-leb, eqb-true, eqb-false, eq-eqb}
use Rattle.octets.specs.Pick.{pick}
use Rattle.octets.specs.Room.{overlay}
use Rattle.desk_entries.specs.Search.{first_at, lowest_at}
use Rattle.desk_entries.proofs.Searches.{clash, first_at_is, first_at_not, unbarred, LowestIs, lowest_at_is, lowest_unbarred}
use Rattle.desk_slots.specs.Sound.{state_at, tick_at}
use Rattle.desk_slots.specs.Slots.{is_free, free_at, idle_at, idle_of}
use Rattle.desk_pool.specs.Pools.{patch, zeros}
use Rattle.desk_pool.proofs.Patches.{zeros_are, zeros_length}
use Rattle.desk.specs.Steps.{Turned, refused as refusing, slot_of, seen, opened, reclaim_in, open_in, open_step, add_in, add_step, release_in, release_step}
use Rattle.desk.proofs.DeskLaws.{is_sound, granted}
use Rattle.desk_entries.specs.Search.{Position}
use Rattle.desk_entries.specs.Search.{At, Nowhere, Barred}
use Rattle.desk_entries.specs.declared.Session.{Session}
use Rattle.desk_entries.specs.declared.State.{State}
use Rattle.desk_entries.specs.declared.State.TheVariants.{Free, Open}
use Rattle.desk_slots.specs.Slots.{Slot}
use Rattle.desk_slots.specs.Slots.{Held, No}
use Rattle.desk.specs.declared.Desk.{Desk}
use Rattle.desk_ledger.specs.Answers.{told, said}
use Rattle.desk_laws.specs.Granted.{Usable, OpenAt, EntryBecomes, TicksBecome, OctetsBecome, Opened, Opens, in_free_slot, in_idle_slot, Added, Released, Granted}
use Rattle.desk_laws.proofs.Patched.{length_patch}
use Rattle.desk_laws.proofs.Relation.{same_at, other_at, made}

-- ---- a search finds no place before

first_at_before : (p : ℕ → Bool) (k i j : ℕ) → first_at p i k ≡ At j → (n : ℕ) → i ≤ n → n < j → p n ≡ false
unfolding first_at
first_at_before p zero i j e n h l = clash cc
first_at_before p (suc k) i j e n h l = go (λ x. first_at_before p k (i + 1) j x n) (p i) refl e
  where
    fin : (i + 1 ≤ n → n < j → p n ≡ false) → p i ≡ false → (t : Bool) → eqb i n ≡ t → p n ≡ false
    fin ih q true w = let v : i ≡ n = eqb-true i n w in rw v at q
    fin ih q false w = let v : i ≡ n → ⊥ = eqb-false i n w in ih (omega arith) l

    go : (first_at p (i + 1) k ≡ At j → i + 1 ≤ n → n < j → p n ≡ false) → (b : Bool) → p i ≡ b → pick b (At i) (first_at p (i + 1) k) ≡ At j → p n ≡ false
    go ih true q x = let w : i ≡ j = cc in absurd (omega arith)
    go ih false q x = fin (ih x) q (eqb i n) refl

-- ---- octets of a list with a part of it replaced

module _ (p q : List ℕ) (a : ℕ) (h : a + length q ≤ length p) where
  begins : length (take a p) ≡ a
  begins = length-take-le a p (omega arith)

  patched_there : (k : ℕ) → k < length q → get_or (patch p a q) (a + k) 0 ≡ get_or q k 0
  unfolding patch
  patched_there k l =
      subst (λ (n : ℕ). get_or (take a p ++ overlay q (drop a p)) (n + k) 0 ≡ get_or (overlay q (drop a p)) k 0) begins
      (get_or-append-add (take a p) (overlay q (drop a p)) k 0)
      ∙ get_or-append q (drop (length q) (drop a p)) 0 k l

  patched_before : (k : ℕ) → k < a → get_or (patch p a q) k 0 ≡ get_or p k 0
  unfolding patch
  patched_before k l =
      get_or-append (take a p) (overlay q (drop a p)) 0 k (rw begins l) ∙ get_or-take a p k 0 l

  patched_past : (j : ℕ) → get_or (patch p a q) (a + (length q + j)) 0 ≡ get_or p (a + (length q + j)) 0
  unfolding patch
  patched_past j =
      subst (λ (n : ℕ). get_or (take a p ++ overlay q (drop a p)) (n + (length q + j)) 0 ≡ get_or (overlay q (drop a p)) (length q + j) 0) begins
      (get_or-append-add (take a p) (overlay q (drop a p)) (length q + j) 0)
      ∙ get_or-append-add q (drop (length q) (drop a p)) j 0
      ∙ get_or-drop (length q) (drop a p) j 0
      ∙ get_or-drop a p (length q + j) 0

  pub octets_become : OctetsBecome p a (length q) (λ k. get_or q k 0) (patch p a q)
  octets_become =
      record {
        there = patched_there;
        before = patched_before;
        past = λ k l. subst (λ (n : ℕ). get_or (patch p a q) n 0 ≡ get_or p n 0) (omega arith) (patched_past (k - (a + length q)));
        size = length_patch p q a h;
      }

-- ---- an entry that is set

entry_becomes : (d : Desk) (i : ℕ) (x : State) (more now : ℕ) (ks : List ℕ) → length d.entries ≡ 40 → i < 40 → EntryBecomes d i x (made d i x more now ks)
entry_becomes d i x more now ks e h =
    record {
      there = same_at d.entries i x (omega arith);
      others = λ j n. other_at d.entries i j x n;
      forty = simp length-set e;
      slots = refl;
    }

ticks_become : (d : Desk) (i : ℕ) (x : State) (more now : ℕ) → length d.stamps ≡ 40 → i < 40 → TicksBecome d i now (made d i x more now (set d.stamps i now))
ticks_become d i x more now e h =
    record {
      tick = refl;
      there = get_or-set_same d.stamps i now 0 (omega arith);
      others = λ j n. get_or-set_other d.stamps i j now 0 n;
      beside = simp length-set e;
    }

-- the octets of slot i are 0
pub slot_zeroed : (p : List ℕ) (i : ℕ) → i * 16384 + 16384 ≤ length p → OctetsBecome p (i * 16384) 16384 (λ k. 0) (patch p (i * 16384) zeros)
slot_zeroed p i h =
    let z : length zeros ≡ 16384 = zeros_length in
    let o = octets_become p zeros (i * 16384) (omega arith) in
    record {
      there = λ k h. (o.there k (omega arith) ∙ ap (λ (xs : List ℕ). get_or xs k 0) (sym zeros_are) ∙ get_or-replicate 16384 k 0 0 h);
      before = o.before;
      past = λ k h. o.past k (omega arith);
      size = o.size;
    }

so_free : (x : State) → is_free x ≡ true → x ≡ Free
so_free Free e = refl
so_free (Open s) e = clash cc

module _ (d : Desk) (p : List ℕ) (u : Usable d p) where
  -- ---- open

  open_step_lem : (m tick : ℕ) → open_step d p m tick ≡ pick (eqb d.next 4294967295) (refusing d p 0 21) (open_in d p m (seen d tick) (first_at (free_at d.entries) 0 d.slots))
  unfolding open_step
  open_step_lem m tick = rw (is_sound d u.sound, eq-eqb (length p) (d.slots * 16384) u.size)

  opens : (m tick t : ℕ) → said (open_step d p m tick).answer ≡ told t → Opens d p m tick t (open_step d p m tick)
  unfolding idle_of
  opens m tick t e =
      subst (λ (r : Turned). Opens d p m tick t r) (sym (open_step_lem m tick))
      (go (eqb d.next 4294967295) (first_at (free_at d.entries) 0 d.slots) refl (sym (ap (λ (r : Turned). said r.answer) (open_step_lem m tick)) ∙ e))
    where
      now : ℕ
      now = seen d tick

      few : d.slots ≤ 40
      few = u.sound.entries.most

      none_before : (i : ℕ) → first_at (free_at d.entries) 0 d.slots ≡ At i → (j : ℕ) → j < i → state_at d.entries j ≡ Free → ⊥
      none_before i q j l z =
          let w : false ≡ true = sym (first_at_before (free_at d.entries) d.slots 0 i q j (omega arith) l) ∙ ap is_free z in
          clash cc

      becomes : (i : ℕ) → i < 40 → d.next ≡ t → EntryBecomes d i (Open (record { ticket = t; tram = m; held = 0 })) (opened d m now i)
      becomes i h w =
          subst (λ (n : ℕ). EntryBecomes d i (Open (record { ticket = n; tram = m; held = 0 })) (opened d m now i)) w
          (entry_becomes d i (Open (record { ticket = d.next; tram = m; held = 0 })) (d.next + 1) now (set d.stamps i now) u.forty h)

      ticked : (i : ℕ) → i < 40 → TicksBecome d i now (opened d m now i)
      ticked i h = ticks_become d i (Open (record { ticket = d.next; tram = m; held = 0 })) (d.next + 1) now u.beside h

      taken : (i : ℕ) → first_at (free_at d.entries) 0 d.slots ≡ At i → d.next ≡ t → Opened d p m tick t i (open_in d p m now (At i))
      taken i q w =
          let f = first_at_is (free_at d.entries) d.slots 0 i q in
          let l : i < 40 = omega (arith, few) in
          record {
            inside = omega arith;
            free = so_free (state_at d.entries i) f.0;
            lowest = none_before i q;
            entries = becomes i l w;
            ticks = ticked i l;
            ticket = sym w;
            next = refl;
            pool = refl;
          }

      none_free : first_at (free_at d.entries) 0 d.slots ≡ Nowhere → (j : ℕ) → j < d.slots → state_at d.entries j ≡ Free → ⊥
      none_free q j l z =
          let w : false ≡ true = sym (first_at_not (free_at d.entries) d.slots 0 q j (omega arith) (omega arith)) ∙ ap is_free z in
          clash cc

      -- an idle entry counts by its ticket
      counts : (j : ℕ) (v : Session) → state_at d.entries j ≡ Open v → tick_at d.stamps j + 600 ≤ now → idle_at d.entries d.stamps now j ≡ v.ticket
      counts j v q h = rw (q, le-leb (tick_at d.stamps j + 600) now h)

      reclaims : (i : ℕ) → first_at (free_at d.entries) 0 d.slots ≡ Nowhere → lowest_at (idle_at d.entries d.stamps now) d.slots ≡ At i → d.next ≡ t
          → Opens d p m tick t (reclaim_in d p m now (At i))
      reclaims i q e w = here (state_at d.entries i) refl (leb (tick_at d.stamps i + 600) now) refl
        where
          k : LowestIs (idle_at d.entries d.stamps now) d.slots i
          k = lowest_at_is (idle_at d.entries d.stamps now) d.slots i e

          here : (x : State) → state_at d.entries i ≡ x → (b : Bool) → leb (tick_at d.stamps i + 600) now ≡ b → Opens d p m tick t (reclaim_in d p m now (At i))
          here x y false b = absurd (k.some (rw b))
          here Free y true b = absurd (k.some (rw (y, b)))
          here (Open s) y true b =
              let h = leb-true (tick_at d.stamps i + 600) now b in
              let l : i < 40 = omega (arith, few, k.inside) in
              in_idle_slot i s
              (record {
                full = none_free q;
                inside = k.inside;
                had = y;
                idle = h;
                lowest = λ j v n z g.
                    (let c = counts j v z g in
                    let f = (u.sound.entries.each j (omega (arith, few)) v z).low in
                    omega (arith, counts i s y h, k.least j n (λ o. omega (arith, c))));
                entries = becomes i l w;
                ticks = ticked i l;
                ticket = sym w;
                next = refl;
                pool = slot_zeroed p i (omega (arith, k.inside, u.size));
              })

      idles : (x : Position) → first_at (free_at d.entries) 0 d.slots ≡ Nowhere → lowest_at (idle_at d.entries d.stamps now) d.slots ≡ x
          → said (reclaim_in d p m now x).answer ≡ told t → Opens d p m tick t (reclaim_in d p m now x)
      idles Nowhere q e f = clash cc
      idles (Barred k) q e f = lowest_unbarred (idle_at d.entries d.stamps now) d.slots k e
      idles (At i) q e f = let w : d.next ≡ t = cc in reclaims i q e w

      go : (b : Bool) (x : Position) → first_at (free_at d.entries) 0 d.slots ≡ x → said (pick b (refusing d p 0 21) (open_in d p m now x)).answer ≡ told t
          → Opens d p m tick t (pick b (refusing d p 0 21) (open_in d p m now x))
      go true x q f = clash cc
      go false Nowhere q f = idles (lowest_at (idle_at d.entries d.stamps now) d.slots) q refl f
      go false (Barred k) q f = unbarred (free_at d.entries) d.slots 0 k q
      go false (At i) q f = let w : d.next ≡ t = cc in in_free_slot i (taken i q w)

  -- ---- the slot of a ticket

  open_at : (t i : ℕ) (s : Session) → slot_of d (length p) t ≡ Held i s → OpenAt d t i s
  open_at t i s e = let g = granted d (length p) t i s e in record { inside = g.inside; state = g.state; ticket = g.ticket }

  -- ---- add

  adds : (t : ℕ) (chunk : List ℕ) (tick n : ℕ) → said (add_step d p t chunk tick).answer ≡ told n
      → (i : ℕ) × ((s : Session) × Added d p t chunk tick n i s (add_step d p t chunk tick))
  unfolding add_step
  adds t chunk tick n e = go (slot_of d (length p) t) refl e
    where
      put : (i : ℕ) (s : Session) → slot_of d (length p) t ≡ Held i s → (b : Bool) → ltb 16384 (s.held + length chunk) ≡ b
          → said (pick b (refusing d p s.held 23) (add_in d p chunk (seen d tick) (Held i s))).answer ≡ told n → Added d p t chunk tick n i s (add_in d p chunk (seen d tick) (Held i s))
      put i s q true b f = clash cc
      put i s q false b f =
          let g = granted d (length p) t i s q in
          let fits = ltb-false 16384 (s.held + length chunk) b in
          let l = g.inside in
          let z : length p ≡ d.slots * 16384 = u.size in
          let w : said (add_in d p chunk (seen d tick) (Held i s)).answer ≡ told (s.held + length chunk) = rw b in
          let v : told n ≡ told (s.held + length chunk) = sym f ∙ w in
          let o : n ≡ s.held + length chunk = cc in
          rw b
          (record {
            slot = open_at t i s q;
            fits = fits;
            entries = entry_becomes d i (Open (record { ticket = s.ticket; tram = s.tram; held = s.held + length chunk })) d.next (seen d tick) (set d.stamps i (seen d tick)) u.forty g.short;
            ticks = ticks_become d i (Open (record { ticket = s.ticket; tram = s.tram; held = s.held + length chunk })) d.next (seen d tick) u.beside g.short;
            answer = o;
            next = refl;
            pool = octets_become p chunk (i * 16384 + s.held) (omega arith);
          })

      go : (x : Slot) → slot_of d (length p) t ≡ x → said (add_in d p chunk (seen d tick) x).answer ≡ told n → (i : ℕ) × ((s : Session) × Added d p t chunk tick n i s (add_in d p chunk (seen d tick) x))
      go (No k) q f = clash cc
      go (Held i s) q f = (i, (s, put i s q (ltb 16384 (s.held + length chunk)) refl (over (ltb 16384 (s.held + length chunk)) refl f)))
        where
          over : (b : Bool) → ltb 16384 (s.held + length chunk) ≡ b → said (add_in d p chunk (seen d tick) (Held i s)).answer ≡ told n
              → said (pick b (refusing d p s.held 23) (add_in d p chunk (seen d tick) (Held i s))).answer ≡ told n
          over true b f = rw b at f
          over false b f = f

  -- ---- release

  releases : (t n : ℕ) → said (release_step d p t).answer ≡ told n → (i : ℕ) × ((s : Session) × Released d p t n i s (release_step d p t))
  unfolding release_step
  releases t n e = go (slot_of d (length p) t) refl e
    where
      go : (x : Slot) → slot_of d (length p) t ≡ x → said (release_in d p x).answer ≡ told n → (i : ℕ) × ((s : Session) × Released d p t n i s (release_in d p x))
      go (No k) q f = clash cc
      go (Held i s) q f =
          let g = granted d (length p) t i s q in
          let w : n ≡ 0 = cc in (
            i,
            (
              s,
              record {
                slot = open_at t i s q;
                entries = entry_becomes d i Free d.next d.tick d.stamps u.forty g.short;
                ticks = record { tick = refl; stamps = refl };
                answer = w;
                next = refl;
                zeros = slot_zeroed p i (omega (arith, g.inside, u.size));
              },
            ),
          )

pub grants : Granted
grants = record { opens = opens; adds = adds; releases = releases }

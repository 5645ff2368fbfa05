-- Refinement without ticks: each call that names a ticket is answered on the desk as in the plain ledger and keeps their relation, and so does an
-- opening in a free slot. Assumes nothing.
use Prim.Native.Nat.{ℕ, ◌+◌, ◌*◌, ◌<◌, ◌≤◌}
use mathlib.Core.Path.{◌≡◌, refl, sym, ap, subst, ◌∙◌}
use mathlib.Core.Bool.{Bool, true, false, not}
use mathlib.Core.List.{List, [], ◌∷◌, ◌++◌}
use native.Mathlib.Omega.{arith}
use lib.Dec.{ltb, eqb}
use lib.ListN.{length, drop, set, replicate, length-set, length-drop, get_or-replicate}
use lib.Seq.{length-take-le, get_or-set_same, get_or-set_other}
use borrow.Author.Tests.{ltb-false, eqb-true, eqb-false, eq-eqb, ne_eqb}
use Rattle.desk_slots.specs.Sound.{none, state_at, Fit}
use Rattle.desk_slots.specs.Slots.{is_free}
use Rattle.desk_pool.specs.Pools.{patch, zeros}
use Rattle.desk_pool.proofs.Patches.{zeros_length}
use Rattle.desk.specs.Steps.{Sound, new_step, slot_of, stamped, opened, grown, with_state, add_in, release_step, octets_in, show_step, held_step, judge_step}
use Rattle.desk_entries.proofs.Searches.{clash}
use Rattle.desk_slots.proofs.SoundLaws.{in_bounds}
use Rattle.desk.proofs.DeskLaws.{Granted}
use Rattle.desk_entries.specs.declared.Session.{Session}
use Rattle.desk_entries.specs.declared.Entry.{Entry}
use Rattle.desk_entries.specs.declared.State.{State}
use Rattle.desk_entries.specs.declared.State.TheVariants.{Free, Open}
use Rattle.desk.specs.declared.Desk.{Desk}
use Rattle.desk_slots.specs.Slots.{Held, No}
use Rattle.desk_ledger.specs.Ledger.{Deed, adds, judges, shows, asks, releases, on, told, absent, present, answer, leaves, Row, Ledger, lookup, change, Out, ledger_step, fresh_ledger}
use Rattle.desk_ledger.specs.Ticks.{judging, showing, counting, releasing}
use Rattle.desk_ledger.specs.Desks.{World, took, ask_step}
use Rattle.desk_laws.proofs.LedgerRows.{no, change_same, change_other, change_absent, change_back, below_change, length_put, length_close}
use Rattle.desk_laws.proofs.Patched.{patch_in, length_patch, patch_other}
use Rattle.desk_laws.proofs.Counts.{count, count_same, count_zero, count_more}
use Rattle.desk_laws.proofs.Relation.{same_at, other_at, Later, sound_set, taken, Refines, is_open, is_free_lem, backed_set, View, seen, unseen}

-- the same answer, and the relation holds on
pub record Simulates (a : Out World) (b : Out Ledger) : Type 0 where
  pub same : a.reply ≡ b.reply
  pub keeps : Refines a.then.desk a.then.pool b.then

abbrev with : Ledger → List Row → Ledger
with l rs = record { slots = l.slots; next = l.next; rows = rs }

pub octets_length : (d : Desk) (p : List ℕ) (t i : ℕ) (s : Session) → Granted d (length p) t i s → length (octets_in p i s) ≡ s.held
octets_length d p t i s g =
    let a : length p ≡ d.slots * 16384 = g.sized in
    let b : i < d.slots = g.inside in
    let c : s.held ≤ 16384 = g.room in
    length-take-le s.held (drop (i * 16384) p) (rw length-drop (omega arith))

-- whether an entry is taken once another state is set that is taken as the old one was
taken_set : (es : List Entry) (i j : ℕ) (x : State) → i < length es → not (is_free x) ≡ taken es i → (b : Bool) → eqb j i ≡ b → taken es j ≡ taken (set es i (record { state = x })) j
taken_set es i j x l e true q =
    let w : j ≡ i = eqb-true j i q in
    rw w (sym e ∙ sym (ap (λ (y : State). not (is_free y)) (same_at es i x l)))
taken_set es i j x l e false q = sym (ap (λ (y : State). not (is_free y)) (other_at es i j x (eqb-false j i q)))

-- a stamp at entry i with a tick that is not lower
later_stamp : (d : Desk) (i now : ℕ) → d.tick ≤ now → i < length d.stamps → Later d i now (set d.stamps i now)
later_stamp d i now h l =
    record { higher = h; there = let e = get_or-set_same d.stamps i now 0 l in omega arith; others = λ j n. get_or-set_other d.stamps i j now 0 n }

-- no stamp moves where an open entry becomes free
later_same : (d : Desk) (i : ℕ) (s : Session) → Sound d → i < 40 → state_at d.entries i ≡ Open s → Later d i d.tick d.stamps
later_same d i s g h e = record { higher = omega arith; there = g.behind i h s e; others = λ j n. refl }

module _ (d : Desk) (p : List ℕ) (l : Ledger) (r : Refines d p l) (t i : ℕ) (s : Session) (g : Granted d (length p) t i s) (lk : lookup l.rows t ≡ present (octets_in p i s)) where
  in_list : i < length d.entries
  in_list = let a : i < 40 = g.short in let b = r.forty in omega arith

  fit : Fit d.next s
  fit = r.good.entries.each i g.short s g.state

  elsewhere : (j : ℕ) → j < 40 → (j ≡ i → ⊥) → (u : Session) → state_at d.entries j ≡ Open u → u.ticket ≡ t → ⊥
  elsewhere j k n u e q = n (r.good.entries.distinct j i k g.short u s e g.state (q ∙ sym g.ticket))

  was : (u : Session) → state_at d.entries i ≡ Open u → u.ticket ≡ t
  was u e = let w : Open u ≡ Open s = sym e ∙ g.state in let v : u ≡ s = cc in ap (λ (x : Session). x.ticket) v ∙ g.ticket

  kept : (q : List ℕ) (a : ℕ) → i * 16384 ≤ a → a + length q ≤ i * 16384 + 16384 → (j : ℕ) → j < 40 → (j ≡ i → ⊥) → (u : Session) → state_at d.entries j ≡ Open u → octets_in (patch p a q) j u ≡ octets_in p j u
  kept q a low high j k n u e =
      let b : length p ≡ d.slots * 16384 = g.sized in
      let c : i < d.slots = g.inside in
      patch_other p q i j a u.held n low high (omega arith) (r.good.entries.each j k u e).room

  added : (q : List ℕ) (now : ℕ) → d.tick ≤ now → length d.stamps ≡ 40 → s.held + length q ≤ 16384
      → Refines (with_state (stamped d i now) i (Open (grown s (length q)))) (patch p (i * 16384 + s.held) q) (with l (change l.rows t (present (octets_in p i s ++ q))))
  added q now a f h =
      let b : length p ≡ d.slots * 16384 = g.sized in
      let c : i < d.slots = g.inside in
      record {
        good = sound_set d d.next i (Open (grown s (length q))) now (set d.stamps i now) r.good (later_stamp d i now a (omega (arith, g.short))) (omega arith) in_list c
            (λ u e. let w : grown s (length q) ≡ u = cc in rw (← w) (record { low = fit.low; high = fit.high; room = h }))
            (λ a u j e k n f q'. let w : grown s (length q) ≡ a = cc in elsewhere j k n u f (q' ∙ sym (ap (λ (x : Session). x.ticket) w) ∙ g.ticket));
        forty = simp length-set r.forty;
        sized = length_patch p q (i * 16384 + s.held) (omega arith) ∙ b;
        slots = r.slots;
        next = r.next;
        rows = backed_set d.entries p (patch p (i * 16384 + s.held) q) l.rows (change l.rows t (present (octets_in p i s ++ q))) i t (Open (grown s (length q))) r.rows g.short in_list
            elsewhere was (λ u n. change_other l.rows t u (present (octets_in p i s ++ q)) n) (kept q (i * 16384 + s.held) (omega arith) (omega arith))
            (is_open (grown s (length q)) g.ticket (change_same l.rows l.next t (present (octets_in p i s ++ q)) (octets_in p i s) r.falling lk ∙ ap present (sym (patch_in p q (i * 16384) s.held (omega arith)))));
        many = length_put l.rows t (octets_in p i s ++ q) ∙ r.many
            ∙ count_same (taken d.entries) (taken (set d.entries i (record { state = Open (grown s (length q)) }))) d.slots
            (λ j k. taken_set d.entries i j (Open (grown s (length q))) in_list (sym (ap (λ (y : State). not (is_free y)) g.state)) (eqb j i) refl);
        falling = below_change l.rows l.next t (present (octets_in p i s ++ q)) r.falling;
      }

  pub released : Refines (with_state d i Free) (patch p (i * 16384) zeros) (with l (change l.rows t absent))
  released =
      let b : length p ≡ d.slots * 16384 = g.sized in
      let c : i < d.slots = g.inside in
      let z = zeros_length in
      let m = count_more (taken (set d.entries i (record { state = Free }))) (taken d.entries) d.slots i c
      (ap (λ (y : State). not (is_free y)) (same_at d.entries i Free in_list)) (ap (λ (y : State). not (is_free y)) g.state)
      (λ j n. ap (λ (y : State). not (is_free y)) (other_at d.entries i j Free n)) in
      let k = length_close l.rows t (octets_in p i s) lk in
      record {
        good = sound_set d d.next i Free d.tick d.stamps r.good (later_same d i s r.good g.short g.state) (omega arith) in_list c (λ u e. clash cc) (λ a u j e. clash cc);
        forty = simp length-set r.forty;
        sized = length_patch p zeros (i * 16384) (omega arith) ∙ b;
        slots = r.slots;
        next = r.next;
        rows = backed_set d.entries p (patch p (i * 16384) zeros) l.rows (change l.rows t absent) i t Free r.rows g.short in_list
            elsewhere was (λ u n. change_other l.rows t u absent n) (kept zeros (i * 16384) (omega arith) (omega arith))
            (is_free_lem (change_same l.rows l.next t absent (octets_in p i s) r.falling lk));
        many = let n = r.many in omega arith;
        falling = below_change l.rows l.next t absent r.falling;
      }

-- ---- each call that names a ticket

-- a deed on the desk, with the tick that counts
abbrev pub deed_step : World → ℕ → ℕ → Deed → Out World
deed_step w now t (adds q) = took (add_in w.desk w.pool q now (slot_of w.desk (length w.pool) t))
deed_step w now t judges = ask_step w t judging
deed_step w now t shows = ask_step w t showing
deed_step w now t asks = ask_step w t counting
deed_step w now t releases = ask_step w t releasing

-- a ticket that is not open: nothing changes
shut_refines : (d : Desk) (p : List ℕ) (l : Ledger) (now t : ℕ) (x : Deed) → Refines d p l → slot_of d (length p) t ≡ No 22 → lookup l.rows t ≡ absent
    → Simulates (deed_step (record { desk = d; pool = p }) now t x) (ledger_step l (on t x))
unfolding release_step show_step held_step judge_step
shut_refines d p l now t (adds q) r e f = rw (e, f, change_absent l.rows t absent f) (record { same = refl; keeps = r })
shut_refines d p l now t judges r e f = rw (e, f, change_absent l.rows t absent f) (record { same = refl; keeps = r })
shut_refines d p l now t shows r e f = rw (e, f, change_absent l.rows t absent f) (record { same = refl; keeps = r })
shut_refines d p l now t asks r e f = rw (e, f, change_absent l.rows t absent f) (record { same = refl; keeps = r })
shut_refines d p l now t releases r e f = rw (e, f, change_absent l.rows t absent f) (record { same = refl; keeps = r })

open_refines : (d : Desk) (p : List ℕ) (l : Ledger) (now t : ℕ) (x : Deed) → Refines d p l → d.tick ≤ now → length d.stamps ≡ 40
    → (i : ℕ) (s : Session) → slot_of d (length p) t ≡ Held i s → Granted d (length p) t i s
    → lookup l.rows t ≡ present (octets_in p i s) → Simulates (deed_step (record { desk = d; pool = p }) now t x) (ledger_step l (on t x))
unfolding release_step show_step held_step judge_step
open_refines d p l now t (adds q) r a b i s e g lk = rw (e, lk) (go (ltb 16384 (s.held + length q)) refl)
  where
    n : length (octets_in p i s) ≡ s.held
    n = octets_length d p t i s g

    go : (b : Bool) → ltb 16384 (s.held + length q) ≡ b
        → Simulates (took (add_in d p q now (Held i s)))
        (record {
          reply = answer (present (octets_in p i s)) (adds q);
          then = with l (change l.rows t (leaves (present (octets_in p i s)) (adds q)));
        })
    go true h = rw (n, h, change_back l.rows t (octets_in p i s) lk) (record { same = refl; keeps = r })
    go false h = rw (n, h) (record { same = refl; keeps = added d p l r t i s g lk q now a b (ltb-false _ _ h) })
open_refines d p l now t judges r a b i s e g lk = rw (e, lk, change_back l.rows t (octets_in p i s) lk) (record { same = refl; keeps = r })
open_refines d p l now t shows r a b i s e g lk = rw (e, lk, change_back l.rows t (octets_in p i s) lk) (record { same = refl; keeps = r })
open_refines d p l now t asks r a b i s e g lk = rw (e, lk, change_back l.rows t (octets_in p i s) lk) (record { same = ap told (sym (octets_length d p t i s g)); keeps = r })
open_refines d p l now t releases r a b i s e g lk = rw (e, lk) (record { same = refl; keeps = released d p l r t i s g lk })

pub on_refines : (d : Desk) (p : List ℕ) (l : Ledger) (now t : ℕ) (x : Deed) → Refines d p l → d.tick ≤ now → length d.stamps ≡ 40 → View d p l t
    → Simulates (deed_step (record { desk = d; pool = p }) now t x) (ledger_step l (on t x))
on_refines d p l now t x r a b (unseen e f) = shut_refines d p l now t x r e f
on_refines d p l now t x r a b (seen i s e g lk) = open_refines d p l now t x r a b i s e g lk

-- an opening in the free slot i
pub granted_open : (d : Desk) (p : List ℕ) (l : Ledger) (m now : ℕ) → Refines d p l → d.tick ≤ now → length d.stamps ≡ 40
    → (i : ℕ) → state_at d.entries i ≡ Free → i < d.slots
    → Refines (opened d m now i) p (record { slots = l.slots; next = l.next + 1; rows = record { ticket = l.next; octets = [] } ∷ l.rows })
unfolding lookup
granted_open d p l m now r late beside i z c =
    subst (λ (n : ℕ). Refines (opened d m now i) p (record { slots = l.slots; next = n + 1; rows = record { ticket = n; octets = [] } ∷ l.rows })) (sym r.next) there
  where
    a : d.slots ≤ 40
    a = r.good.entries.most

    b : i < length d.entries
    b = omega (arith, a, r.forty)

    x : State
    x = Open (record { ticket = d.next; tram = m; held = 0 })

    high : (j : ℕ) → j < 40 → (u : Session) → state_at d.entries j ≡ Open u → u.ticket ≡ d.next → ⊥
    high j k u h q = let w : u.ticket < d.next = (r.good.entries.each j k u h).high in omega arith

    there : Refines (opened d m now i) p (record { slots = l.slots; next = d.next + 1; rows = record { ticket = d.next; octets = [] } ∷ l.rows })
    there =
        let k = count_more (taken d.entries) (taken (set d.entries i (record { state = x }))) d.slots i c (ap (λ (y : State). not (is_free y)) z)
        (ap (λ (y : State). not (is_free y)) (same_at d.entries i x b)) (λ j n. sym (ap (λ (y : State). not (is_free y)) (other_at d.entries i j x n))) in
        record {
          good = sound_set d (d.next + 1) i x now (set d.stamps i now) r.good (later_stamp d i now late (omega (arith, a))) (omega arith) b c
              (λ u h. let w : ◌≡◌ {A = Session} (record { ticket = d.next; tram = m; held = 0 }) u = cc in rw (← w) (record { low = r.good.entries.first; high = omega arith; room = omega arith }))
              (λ v u j h k n f q. let w : ◌≡◌ {A = Session} (record { ticket = d.next; tram = m; held = 0 }) v = cc in high j k u f (q ∙ sym (ap (λ (x : Session). x.ticket) w)));
          forty = simp length-set r.forty;
          sized = r.sized;
          slots = r.slots;
          next = refl;
          rows = backed_set d.entries p p l.rows (record { ticket = d.next; octets = [] } ∷ l.rows) i d.next x r.rows (omega (arith, a)) b
              (λ j k n u h. high j k u h) (λ u h. (let w : Free ≡ Open u = sym z ∙ h in clash cc)) (λ u n. rw (ne_eqb d.next u (λ q. n (sym q)))) (λ j k n u h. refl)
              (is_open (record { ticket = d.next; tram = m; held = 0 }) refl (rw (eq-eqb d.next d.next refl)));
          many = let n = r.many in omega arith;
          falling = (omega arith, rw r.next at r.falling);
        }

-- ---- a fresh desk

all_free : (i : ℕ) → i < 40 → state_at (replicate 40 none) i ≡ Free
all_free i h = ap (λ (e : Entry). e.state) (get_or-replicate 40 i none none h)

pub fresh_refines : (n : ℕ) (p : List ℕ) → 1 ≤ n → n ≤ 40 → length p ≡ n * 16384 → Refines (new_step n).desk p (fresh_ledger n)
unfolding new_step lookup
fresh_refines n p a b c =
    rw (in_bounds n 1 a b (omega arith))
    (record {
      good = record {
        entries = record {
          some = a;
          most = b;
          first = omega arith;
          past = λ i h l. all_free i l;
          each = λ i h s e. (let w : Free ≡ Open s = sym (all_free i h) ∙ e in clash cc);
          distinct = λ i j h k s u e f t. (let w : Free ≡ Open s = sym (all_free i h) ∙ e in clash cc);
        };
        behind = λ i h s e. (let w : Free ≡ Open s = sym (all_free i h) ∙ e in clash cc);
      };
      forty = refl;
      sized = c;
      slots = refl;
      next = refl;
      rows = record {
        holds = λ i h s e. (let w : Free ≡ Open s = sym (all_free i h) ∙ e in clash cc);
        backs = λ t o e. no o e;
      };
      many = sym (none_taken n b);
      falling = tt;
    })
  where
    none_taken : (k : ℕ) → k ≤ 40 → count (taken (replicate 40 none)) k ≡ 0
    none_taken k h = count_zero (taken (replicate 40 none)) k (λ j l. ap (λ (y : State). not (is_free y)) (all_free j (omega arith)))

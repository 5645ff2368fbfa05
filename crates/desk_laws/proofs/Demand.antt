-- Demand 3: refinement of the ledger and noninterference of uploads, and what follows from them by name. Assumes nothing.
use Prim.Native.Nat.{ℕ, ◌+◌, ◌*◌, ◌<◌, ◌≤◌}
use mathlib.Core.Path.{◌≡◌, refl, sym, ap, subst, ◌∙◌}
use mathlib.Core.Bool.{Bool, true, false, not}
use mathlib.Core.List.{List, [], ◌∷◌, ◌++◌, map}
use native.Mathlib.Omega.{arith}
use lib.Dec.{leb, eqb}
use lib.ListN.{length, take}
use borrow.Author.Tests.{leb-true, le-leb, eqb-true, eqb-false, eq-eqb, ne_eqb}
use Rattle.octets.specs.Pick.{pick}
use Rattle.reader.specs.Outcome.{judge_of}
use Rattle.desk_entries.specs.Search.{first_at, lowest_at}
use Rattle.desk_slots.specs.Sound.{state_at, tick_at}
use Rattle.desk_slots.specs.Slots.{is_free, free_at, idle_at, idle_of}
use Rattle.desk.specs.Steps.{Sound, Turned, refused, seen as counts-as, new_step, reclaim_in, open_in, open_step, octets_in, show_step, held_step, judge_step}
use Rattle.desk_entries.proofs.Searches.{clash, first_at_is, first_at_not, unbarred, lowest_at_is, lowest_at_not, lowest_unbarred}
use Rattle.desk_slots.proofs.SlotLaws.{free_is, slot_inside}
use Rattle.desk.proofs.DeskLaws.{is_sound}
use Rattle.desk_entries.specs.Search.{Position}
use Rattle.desk_entries.specs.Search.{At, Nowhere, Barred}
use Rattle.desk_entries.specs.declared.Session.{Session}
use Rattle.desk_entries.specs.declared.State.{State}
use Rattle.desk_entries.specs.declared.State.TheVariants.{Free, Open}
use Rattle.desk.specs.declared.Desk.{Desk}
use Rattle.desk_ledger.specs.Answers.{Reply, refused as refusal, told, counts, part, verdict, said}
use Rattle.desk_ledger.specs.Ledger.{Deed, adds, judges, shows, asks, releases, Call, opens, on, Found, absent, present, shut, answer, leaves, Ledger, lookup, change, Out, ledger_step, fresh_ledger, after}
use Rattle.desk_ledger.specs.Uploads.{keep, mine, own, solo, joined}
use Rattle.desk_ledger.specs.Ticks.{releasing, Ticked, opens_at, adds_at, asks_of, plain, Clocked, stamp_of, counted, idle, Whose, nobody, of, lowest_idle, taken, takes, freed, clocked_by, plain_out, clocked_step, fresh_clocked, run_ticked, after_ticked, ReclaimsNone, SameTicked, same_opening, same_add, same_ask, SameTickedCalls, none, next}
use Rattle.desk_ledger.specs.Desks.{World, desk_step, fresh, Proper, answers, world, ledger_answers, ledger}
use Rattle.desk_laws.specs.Demand.{OpenOn, OpenIn, Holds, Afterwards, Grants, Kept, own_answers, deeds_on, on_at, asked, Alike, Taken, Reclaims, Closed, used_up, no_slot, Opening, Demand3, Demand3AsAsked}
use Rattle.desk_laws.proofs.LedgerRows.{no, Below, below_absent, length_close}
use Rattle.desk_laws.proofs.Relation.{taken as taken_at, Refines, Follows, View, seen, unseen, view}
use Rattle.desk_laws.proofs.Refinement.{octets_length}
use Rattle.desk_laws.proofs.Noninterference.{Given, step_fate, given_step, same_slots, falls_after, starts, own_solo, fates, after_fates, solo_take, fates_append, fates_absent, mine_append, given_after, next_granted, falls_step}
use Rattle.desk_laws.proofs.Joins.{joins, Known, given, later as not_yet, known}
use Rattle.desk_laws.proofs.Reclaims.{step_reply, step_ledger, flat, after_flat, joined_flat, mine_flat, own_flat, none_spared, as_before, Settles, none_idle, lowest_idle_lem, settles}
use Rattle.desk_laws.specs.Granted.{Usable, EntryBecomes, Opens, in_free_slot, in_idle_slot}
use Rattle.desk_laws.proofs.Granted.{grants as granted-by}
use Rattle.desk_laws.proofs.Counts.{count, count_all}
use Rattle.desk_laws.proofs.Following.{step_follows, run_follows, after_follows, fresh_follows}

-- ---- laws of lists with ticks

pub after_append : {S : Type 0} (step : S → Ticked → Out S) (xs ys : List Ticked) (s : S) → after_ticked step s (xs ++ ys) ≡ after_ticked step (after_ticked step s xs) ys
unfolding after_ticked
after_append step [] ys s = refl
after_append step (x ∷ xs) ys s = after_append step xs ys (step s x).then

freed_falls : (l : Ledger) (w : Whose) → Below l.next l.rows → Below (freed l w).next (freed l w).rows
freed_falls l nobody b = b
freed_falls l (of t) b = falls_step l (on t releases) b

map-append : (f : Ticked → Call) (xs ys : List Ticked) → map f (xs ++ ys) ≡ map f xs ++ map f ys
map-append f [] ys = refl
map-append f (x ∷ xs) ys = ap (λ (cs : List Call). f x ∷ cs) (map-append f xs ys)

step_same : (c : Clocked) {x y : Ticked} → SameTicked x y → clocked_step c x ≡ clocked_step c y
step_same c (same_opening m m' τ) = refl
step_same c (same_add t q τ) = refl
step_same c (same_ask t x) = refl

run_same : (c : Clocked) {xs ys : List Ticked} → SameTickedCalls xs ys → run_ticked clocked_step c xs ≡ run_ticked clocked_step c ys
unfolding run_ticked
run_same c none = refl
run_same c (next {d = y} s r) = rw (step_same c s, run_same (clocked_step c y).then r)

same_calls : (xs : List Ticked) → SameTickedCalls xs xs
same_calls [] = none
same_calls (opens_at m τ ∷ xs) = next (same_opening m m τ) (same_calls xs)
same_calls (adds_at t q τ ∷ xs) = next (same_add t q τ) (same_calls xs)
same_calls (asks_of t x ∷ xs) = next (same_ask t x) (same_calls xs)

-- ---- desk and ledger after the same calls

module _ (n : ℕ) (p : List ℕ) (f : Proper n p) where
  at_first : Follows (new_step n).desk p (fresh_clocked n)
  at_first = fresh_follows n p f.some f.most f.sized

  pub then_follows : (cs : List Ticked) → Follows (world n p cs).desk (world n p cs).pool (ledger n cs)
  then_follows cs = after_follows cs (fresh n p) (fresh_clocked n) at_first

  pub answered : (cs : List Ticked) → answers n p cs ≡ ledger_answers n cs
  answered cs = run_follows cs (fresh n p) (fresh_clocked n) at_first

  -- what the ledger's rows say of an open ticket
  row_joined : (cs : List Ticked) (t : ℕ) (o : List ℕ) → lookup (ledger n cs).ledger.rows t ≡ present o → o ≡ joined t (map plain cs) (ledger_answers n cs)
  unfolding lookup
  row_joined cs t o e =
      joins (flat (fresh_clocked n) cs) (fresh_ledger n) t o tt (sym (ap (λ (l : Ledger). lookup l.rows t) (after_flat cs (fresh_clocked n))) ∙ e)
      ∙ joined_flat cs (fresh_clocked n) t

  pub afterwards : (cs : List Ticked) → Afterwards n p cs
  unfolding show_step held_step judge_step
  afterwards cs =
      record {
        sound = r.good;
        slots = slots;
        proper = r.sized ∙ ap (λ (k : ℕ). k * 16384) slots;
        tick = sym (then_follows cs).timed.highest;
        recorded = λ t h. recorded t h;
        backed = λ t h. (let b = r.rows.backs t h.0 h.1 in (b.0, (b.1.0, (inside b.0 b.1.1.0 b.1.0 b.1.1.1, b.1.1.1, b.1.1.2))));
        holds = λ t h. holds t (recorded t h) (view w.desk w.pool (ledger n cs).ledger t r);
      }
    where
      w : World
      w = world n p cs

      r : Refines w.desk w.pool (ledger n cs).ledger
      r = (then_follows cs).refines

      slots : w.desk.slots ≡ n
      slots = sym r.slots ∙ ap (λ (l : Ledger). l.slots) (after_flat cs (fresh_clocked n)) ∙ same_slots (flat (fresh_clocked n) cs) (fresh_ledger n)

      inside : (i : ℕ) → i < 40 → (s : Session) → state_at w.desk.entries i ≡ Open s → i < w.desk.slots
      inside = slot_inside w.desk.entries w.desk.slots w.desk.next r.good.entries

      recorded : (t : ℕ) → OpenOn w.desk t → OpenIn (ledger n cs).ledger t
      recorded t h =
          let m = r.good.entries.most in
          let k : h.0 < w.desk.slots = h.1.1.0 in
          (octets_in w.pool h.0 h.1.0, rw h.1.1.2 at (r.rows.holds h.0 (omega arith) h.1.0 h.1.1.1))

      holds : (t : ℕ) → OpenIn (ledger n cs).ledger t → View w.desk w.pool (ledger n cs).ledger t → Holds w t (joined t (map plain cs) (ledger_answers n cs))
      holds t h (unseen e q) = no h.0 (sym q ∙ h.1)
      holds t h (seen i s e g q) =
          let j = row_joined cs t (octets_in w.pool i s) q in
          record {
            shown = rw e j;
            judged = rw e (ap (λ (o : List ℕ). verdict (judge_of o)) j);
            held = rw e (ap told (sym (octets_length w.desk w.pool t i s g) ∙ ap (λ (o : List ℕ). length o) j));
          }

  -- a deed is answered by its ticket's row
  asked_row : (cs : List Ticked) (t : ℕ) (x : Deed) (σ : ℕ) → asked n p cs t x σ ≡ answer (lookup (ledger n cs).ledger.rows t) x
  asked_row cs t x σ = (step_follows (world n p cs) (ledger n cs) (on_at t x σ) (then_follows cs)).same ∙ step_reply (ledger n cs) (on_at t x σ) ∙ plainly x
    where
      plainly : (x : Deed) → (plain_out (ledger n cs) (on_at t x σ)).reply ≡ answer (lookup (ledger n cs).ledger.rows t) x
      plainly (adds q) = refl
      plainly judges = refl
      plainly shows = refl
      plainly asks = refl
      plainly releases = refl

  -- ---- an upload

  falls : (cs : List Ticked) → Below (ledger n cs).ledger.next (ledger n cs).ledger.rows
  falls cs = subst (λ (l : Ledger). Below l.next l.rows) (sym (after_flat cs (fresh_clocked n))) (falls_after (flat (fresh_clocked n) cs) (fresh_ledger n) tt)

  -- the ledger grants the opening too, and both stand there then
  module _ (xs : List Ticked) (m τ t : ℕ) (g : Grants n p xs m τ t) where
    abbrev begin : Clocked
    begin = (clocked_step (ledger n xs) (opens_at m τ)).then

    ledger_grants : (plain_out (ledger n xs) (opens_at m τ)).reply ≡ told t
    ledger_grants =
        sym (step_reply (ledger n xs) (opens_at m τ)) ∙ sym (step_follows (world n p xs) (ledger n xs) (opens_at m τ) (then_follows xs)).same ∙ g

    begun : (lookup begin.ledger.rows t ≡ present []) × Given begin.ledger t
    begun =
        subst (λ (l : Ledger). (lookup l.rows t ≡ present []) × Given l t) (sym (step_ledger (ledger n xs) (opens_at m τ)))
        (starts (freed (ledger n xs).ledger (taken (ledger n xs) (opens_at m τ))) m t (freed_falls (ledger n xs).ledger (taken (ledger n xs) (opens_at m τ)) (falls xs)) ledger_grants)

    pub alone : (ys : List Ticked) → Kept n xs m τ t ys → own_answers n p xs m τ t ys ≡ solo (present []) (deeds_on t ys)
    alone ys s =
        ap (own t (map plain ys))
        (run_follows ys (desk_step (world n p xs) (opens_at m τ)).then begin (step_follows (world n p xs) (ledger n xs) (opens_at m τ) (then_follows xs)).keeps)
        ∙ sym (own_flat ys begin t s)
        ∙ own_solo (flat begin ys) begin.ledger t begun.1
        ∙ rw (begun.0, mine_flat ys begin t s)

    -- the ledger after the opening and later calls
    later_ledger : (ys : List Ticked) → (ledger n (xs ++ opens_at m τ ∷ ys)).ledger ≡ after ledger_step begin.ledger (flat begin ys)
    unfolding after_ticked
    later_ledger ys = ap (λ (c : Clocked). c.ledger) (after_append clocked_step xs (opens_at m τ ∷ ys) (fresh_clocked n)) ∙ after_flat ys begin

    row_so : (ys : List Ticked) → Kept n xs m τ t ys → lookup (ledger n (xs ++ opens_at m τ ∷ ys)).ledger.rows t ≡ fates (present []) (deeds_on t ys)
    row_so ys s =
        ap (λ (l : Ledger). lookup l.rows t) (later_ledger ys) ∙ after_fates (flat begin ys) begin.ledger t begun.1 ∙ rw (begun.0, mine_flat ys begin t s)

    pub asked_so : (ys : List Ticked) → Kept n xs m τ t ys → (x : Deed) (σ : ℕ) → asked n p (xs ++ opens_at m τ ∷ ys) t x σ ≡ answer (fates (present []) (deeds_on t ys)) x
    asked_so ys s x σ = asked_row (xs ++ opens_at m τ ∷ ys) t x σ ∙ ap (λ (f : Found). answer f x) (row_so ys s)

    first_part : (ys : List Ticked) → Kept n xs m τ t ys → (k : ℕ) → take k (own_answers n p xs m τ t ys) ≡ solo (present []) (take k (deeds_on t ys))
    first_part ys s k = ap (λ (rs : List Reply). take k rs) (alone ys s) ∙ solo_take k (present []) (deeds_on t ys)

pub alike : (n : ℕ) (p : List ℕ) → Proper n p → (xs : List Ticked) (m τ t : ℕ) → Grants n p xs m τ t
    → (n' : ℕ) (p' : List ℕ) → Proper n' p' → (xs' : List Ticked) (m' τ' t' : ℕ) → Grants n' p' xs' m' τ' t'
    → Alike n p xs m τ t n' p' xs' m' τ' t'
alike n p f xs m τ t g n' p' f' xs' m' τ' t' g' =
    record {
      answers = λ ys ys' s s' k e.
          (first_part n p f xs m τ t g ys s k ∙ ap (solo (present [])) e ∙ sym (first_part n' p' f' xs' m' τ' t' g' ys' s' k));
      after = λ ys ys' s s' e x σ σ'.
          (asked_so n p f xs m τ t g ys s x σ ∙ ap (λ (ds : List Deed). answer (fates (present []) ds) x) e ∙ sym (asked_so n' p' f' xs' m' τ' t' g' ys' s' x σ'));
    }

pub unseen_by : (n : ℕ) (p p' : List ℕ) → Proper n p → Proper n p' → (xs ys : List Ticked) → SameTickedCalls xs ys → answers n p xs ≡ answers n p' ys
unseen_by n p p' f f' xs ys e =
    answered n p f xs ∙ run_same (fresh_clocked n) e ∙ sym (answered n p' f' ys)

-- ---- a later grant

freed_next : (l : Ledger) (w : Whose) → (freed l w).next ≡ l.next
freed_next l nobody = refl
freed_next l (of t) = refl

-- the ledger grants what the desk grants: its next ticket
granted_next : (n : ℕ) (p : List ℕ) (f : Proper n p) (xs : List Ticked) (m τ t : ℕ) → Grants n p xs m τ t → (ledger n xs).ledger.next ≡ t
granted_next n p f xs m τ t g =
    sym (freed_next (ledger n xs).ledger (taken (ledger n xs) (opens_at m τ)))
    ∙ next_granted (freed (ledger n xs).ledger (taken (ledger n xs) (opens_at m τ))) m t (ledger_grants n p f xs m τ t g)

pub later : (n : ℕ) (p : List ℕ) → Proper n p → (xs : List Ticked) (m τ t : ℕ) → Grants n p xs m τ t
    → (ys : List Ticked) (m' τ' t' : ℕ) → Grants n p (xs ++ opens_at m τ ∷ ys) m' τ' t' → t < t'
later n p f xs m τ t g ys m' τ' t' h =
    let c = begin n p f xs m τ t g in
    let a = (given_after (flat c ys) c.ledger t (begun n p f xs m τ t g).1).past in
    let e : (ledger n (xs ++ opens_at m τ ∷ ys)).ledger.next ≡ t' = granted_next n p f (xs ++ opens_at m τ ∷ ys) m' τ' t' h in
    let q = ap (λ (l : Ledger). l.next) (later_ledger n p f xs m τ t g ys) in
    omega arith

-- ---- an opening on any sound desk

module _ (d : Desk) (p : List ℕ) (m tick : ℕ) (s : Sound d) (z : length p ≡ d.slots * 16384) where
  abbrev now : ℕ
  now = counts-as d tick

  abbrev idles : ℕ → ℕ
  idles i = idle_at d.entries d.stamps now i

  free_so : (x : State) → x ≡ Free → is_free x ≡ true
  free_so x e = rw e

  open_so : open_step d p m tick ≡ pick (eqb d.next 4294967295) (refused d p 0 21) (open_in d p m now (first_at (free_at d.entries) 0 d.slots))
  unfolding open_step
  open_so = rw (is_sound d s, eq-eqb (length p) (d.slots * 16384) z)

  -- no slot is free, and none idle
  full : first_at (free_at d.entries) 0 d.slots ≡ Nowhere → lowest_at idles d.slots ≡ Nowhere → Closed d tick
  full e g =
      no_slot
      (λ i h q.
      (let w : false ≡ true = sym (first_at_not (free_at d.entries) d.slots 0 e i (omega arith) (omega arith)) ∙ free_so (state_at d.entries i) q in
      clash_bot w))
      (λ i u h q o.
      (let k : idles i ≡ u.ticket = rw (q, le-leb (tick_at d.stamps i + 600) now o) in
      let f = (s.entries.each i (omega (arith, s.entries.most)) u q).low in
      omega (arith, k, lowest_at_not idles d.slots g i h)))
    where
      clash_bot : false ≡ true → ⊥
      clash_bot w = clash cc

  -- an idle slot, and none that is
  none_idle_slot : (i : ℕ) → lowest_at idles d.slots ≡ At i → ((i : ℕ) (s : Session) → i < d.slots → state_at d.entries i ≡ Open s → tick_at d.stamps i + 600 ≤ now → ⊥) → ⊥
  none_idle_slot i e f = go (state_at d.entries i) refl (leb (tick_at d.stamps i + 600) now) refl
    where
      go : (x : State) → state_at d.entries i ≡ x → (b : Bool) → leb (tick_at d.stamps i + 600) now ≡ b → ⊥
      go x y false b = (lowest_at_is idles d.slots i e).some (rw b)
      go Free y true b = (lowest_at_is idles d.slots i e).some (rw (y, b))
      go (Open u) y true b = f i u (lowest_at_is idles d.slots i e).inside y (leb-true (tick_at d.stamps i + 600) now b)

  -- the opening where tickets are left
  left : (d.next ≡ 4294967295 → ⊥) → open_step d p m tick ≡ open_in d p m now (first_at (free_at d.entries) 0 d.slots)
  left n = open_so ∙ rw (ne_eqb d.next 4294967295 n)

  used : d.next ≡ 4294967295 → open_step d p m tick ≡ refused d p 0 21
  used h = open_so ∙ rw (eq-eqb d.next 4294967295 h)

  abbrev tells : Turned → Reply
  tells r = said r.answer

  pub opening : Opening d p m tick
  unfolding idle_of
  opening =
      record {
        first = λ h. ap tells (used h);
        second = λ n c. second n c (first_at (free_at d.entries) 0 d.slots) refl (lowest_at idles d.slots) refl;
        only = λ r a e. only r a e (eqb d.next 4294967295) refl (first_at (free_at d.entries) 0 d.slots) refl (lowest_at idles d.slots) refl;
        else = λ n. else n (first_at (free_at d.entries) 0 d.slots) refl (lowest_at idles d.slots) refl;
      }
    where
      -- an opening that finds so
      found : (d.next ≡ 4294967295 → ⊥) → (x : Position) → first_at (free_at d.entries) 0 d.slots ≡ x → said (open_step d p m tick).answer ≡ tells (open_in d p m now x)
      found n x e = ap tells (left n ∙ ap (open_in d p m now) e)

      idled : (d.next ≡ 4294967295 → ⊥) → first_at (free_at d.entries) 0 d.slots ≡ Nowhere → (y : Position) → lowest_at idles d.slots ≡ y → said (open_step d p m tick).answer ≡ tells (reclaim_in d p m now y)
      idled n e y g = found n Nowhere e ∙ ap (λ (y : Position). tells (reclaim_in d p m now y)) g

      second : (d.next ≡ 4294967295 → ⊥) → Closed d tick → (x : Position) → first_at (free_at d.entries) 0 d.slots ≡ x → (y : Position) → lowest_at idles d.slots ≡ y
          → said (open_step d p m tick).answer ≡ refusal 20 0
      second n (used_up h) x e y g = absurd (n h)
      second n (no_slot f i) (Barred k) e y g = unbarred (free_at d.entries) d.slots 0 k e
      second n (no_slot f i) Nowhere e (Barred k) g = lowest_unbarred idles d.slots k g
      second n (no_slot f i) Nowhere e Nowhere g = idled n e Nowhere g
      second n (no_slot f i) Nowhere e (At j) g = absurd (none_idle_slot j g i)
      second n (no_slot f i) (At j) e y g =
          let w = first_at_is (free_at d.entries) d.slots 0 j e in
          absurd (f j (omega arith) (free_is (state_at d.entries j) w.0))

      only : (r a : ℕ) → said (open_step d p m tick).answer ≡ refusal r a → (b : Bool) → eqb d.next 4294967295 ≡ b → (x : Position) → first_at (free_at d.entries) 0 d.slots ≡ x
          → (y : Position) → lowest_at idles d.slots ≡ y → Closed d tick
      only r a e true b x q y g = used_up (eqb-true d.next 4294967295 b)
      only r a e false b (Barred k) q y g = unbarred (free_at d.entries) d.slots 0 k q
      only r a e false b Nowhere q Nowhere g = full q g
      only r a e false b Nowhere q (Barred k) g = lowest_unbarred idles d.slots k g
      only r a e false b Nowhere q (At i) g =
          let w : told d.next ≡ refusal r a = sym (idled (eqb-false d.next 4294967295 b) q (At i) g) ∙ e in
          clash cc
      only r a e false b (At i) q y g =
          let w : told d.next ≡ refusal r a = sym (found (eqb-false d.next 4294967295 b) (At i) q) ∙ e in
          clash cc

      else : (Closed d tick → ⊥) → (x : Position) → first_at (free_at d.entries) 0 d.slots ≡ x → (y : Position) → lowest_at idles d.slots ≡ y
          → said (open_step d p m tick).answer ≡ told d.next
      else n (Barred k) e y g = unbarred (free_at d.entries) d.slots 0 k e
      else n Nowhere e Nowhere g = absurd (n (full e g))
      else n Nowhere e (Barred k) g = lowest_unbarred idles d.slots k g
      else n Nowhere e (At i) g = idled (λ h. n (used_up h)) e (At i) g
      else n (At i) e y g = found (λ h. n (used_up h)) (At i) e

-- ---- a session that is taken

-- an opening takes a session only where a ticket is left and all slots are taken
took_so : (c : Clocked) (now t : ℕ) → takes c now ≡ of t → (c.ledger.next ≡ 4294967295 → ⊥) × (length c.ledger.rows ≡ c.ledger.slots) × (lowest_idle c now c.ledger.rows ≡ of t)
took_so c now t e = go (eqb c.ledger.next 4294967295) refl (eqb (length c.ledger.rows) c.ledger.slots) refl e
  where
    go : (a : Bool) → eqb c.ledger.next 4294967295 ≡ a → (b : Bool) → eqb (length c.ledger.rows) c.ledger.slots ≡ b
        → pick a nobody (pick b (lowest_idle c now c.ledger.rows) nobody) ≡ of t
        → (c.ledger.next ≡ 4294967295 → ⊥) × (length c.ledger.rows ≡ c.ledger.slots) × (lowest_idle c now c.ledger.rows ≡ of t)
    go true q b r h = clash cc
    go false q false r h = clash cc
    go false q true r h = (eqb-false c.ledger.next 4294967295 q, eqb-true (length c.ledger.rows) c.ledger.slots r, h)

-- what is known of a ticket whose session is the lowest idle one
record Lowest (c : Clocked) (now t : ℕ) : Type 0 where
  octets : List ℕ
  row : lookup c.ledger.rows t ≡ present octets
  idle : stamp_of c.stamps t + 600 ≤ now
  least : (u : ℕ) (q : List ℕ) → lookup c.ledger.rows u ≡ present q → stamp_of c.stamps u + 600 ≤ now → t ≤ u

lowest_so : (c : Clocked) (now t : ℕ) (w : Whose) → Settles c now c.ledger.rows w → w ≡ of t → Lowest c now t
unfolding idle
lowest_so c now t w (none_idle f) e = clash cc
lowest_so c now t w (lowest_idle_lem u o lk q f) e =
    let x : u ≡ t = cc in
    subst (λ (k : ℕ). Lowest c now k) x
    (record { octets = o; row = lk; idle = leb-true (stamp_of c.stamps u + 600) now q; least = λ v s l h. f v s l (le-leb (stamp_of c.stamps v + 600) now h) })

given_row : (l : Ledger) (t : ℕ) (o : List ℕ) → Below l.next l.rows → lookup l.rows t ≡ present o → Given l t
given_row l t o b e = go (known l t)
  where
    go : Known l t → Given l t
    go (given h) = record { falls = b; past = h }
    go (not_yet h) = no o (sym (below_absent l.rows l.next t b h) ∙ e)

-- a ticket that was released is closed after the opening too
closed_so : (l : Ledger) (m t : ℕ) → Given l t → (lookup (ledger_step (ledger_step l (on t releases)).then (opens m)).then.rows t ≡ absent) × Given (ledger_step (ledger_step l (on t releases)).then (opens m)).then t
closed_so l m t g =
    let g' = given_step l t (on t releases) g in
    (step_fate (ledger_step l (on t releases)).then t (opens m) g' ∙ step_fate l t (on t releases) g ∙ rw (eq-eqb t t refl) (gone (lookup l.rows t)), given_step (ledger_step l (on t releases)).then t (opens m) g')
  where
    gone : (f : Found) → leaves f releases ≡ absent
    gone absent = refl
    gone (present o) = refl

module _ (n : ℕ) (p : List ℕ) (f : Proper n p) (xs : List Ticked) (m τ t : ℕ) (e : taken (ledger n xs) (opens_at m τ) ≡ of t) where
  abbrev c : Clocked
  c = ledger n xs

  how : (c.ledger.next ≡ 4294967295 → ⊥) × (length c.ledger.rows ≡ c.ledger.slots) × (lowest_idle c (counted c τ) c.ledger.rows ≡ of t)
  how = took_so c (counted c τ) t e

  low : Lowest c (counted c τ) t
  low = lowest_so c (counted c τ) t (lowest_idle c (counted c τ) c.ledger.rows) (settles c (counted c τ) c.ledger.rows) how.2

  here : Given c.ledger t
  here = given_row c.ledger t low.octets (falls n p f xs) low.row

  out_so : plain_out c (opens_at m τ) ≡ ledger_step (ledger_step c.ledger (on t releases)).then (opens m)
  out_so = ap (λ (w : Whose). ledger_step (freed c.ledger w) (opens m)) e

  grants : Grants n p xs m τ c.ledger.next
  grants =
      (step_follows (world n p xs) c (opens_at m τ) (then_follows n p f xs)).same ∙ step_reply c (opens_at m τ) ∙ ap (λ (o : Out Ledger). o.reply) out_so
      ∙ rw (
        low.row,
        ne_eqb c.ledger.next 4294967295 how.0,
        ne_eqb (length (change c.ledger.rows t absent)) c.ledger.slots
            (λ x. omega (arith, length_close c.ledger.rows t low.octets low.row, how.1)),
      )

  closed_row : (ys : List Ticked) → lookup (ledger n (xs ++ opens_at m τ ∷ ys)).ledger.rows t ≡ absent
  closed_row ys =
      let b = (clocked_step c (opens_at m τ)).then in
      let g = closed_so c.ledger m t here in
      let k : (lookup b.ledger.rows t ≡ absent) × Given b.ledger t =
      subst (λ (l : Ledger). (lookup l.rows t ≡ absent) × Given l t) (sym (step_ledger c (opens_at m τ) ∙ ap (λ (o : Out Ledger). o.then) out_so)) g in
      ap (λ (l : Ledger). lookup l.rows t) (later_ledger n p f xs m τ c.ledger.next grants ys) ∙ after_fates (flat b ys) b.ledger t k.1
      ∙ ap (λ (x : Found). fates x (mine t (flat b ys))) k.0 ∙ fates_absent (mine t (flat b ys))

  shown_row : lookup (ledger n (xs ++ opens_at m τ ∷ [])).ledger.rows c.ledger.next ≡ present []
  unfolding after flat
  shown_row =
      ap (λ (l : Ledger). lookup l.rows c.ledger.next) (later_ledger n p f xs m τ c.ledger.next grants [])
      ∙ (begun n p f xs m τ c.ledger.next grants).0

  -- the desk before and after
  abbrev w : World
  w = world n p xs

  abbrev r : Turned
  r = open_step w.desk w.pool m τ

  follows : Follows w.desk w.pool c
  follows = then_follows n p f xs

  one_more : world n p (xs ++ opens_at m τ ∷ []) ≡ record { desk = r.desk; pool = r.pool }
  unfolding after_ticked
  one_more = after_append desk_step xs (opens_at m τ ∷ []) (fresh n p)

  slot_taken : (i : ℕ) × Taken w.desk (world n p (xs ++ opens_at m τ ∷ [])) t i
  slot_taken = subst (λ (v : World). (i : ℕ) × Taken w.desk v t i) (sym one_more) (go (granted-by.opens w.desk w.pool usable m τ c.ledger.next grants))
    where
      usable : Usable w.desk w.pool
      usable = record { sound = follows.refines.good; forty = follows.refines.forty; beside = follows.timed.beside; size = follows.refines.sized }

      after_row : (s : Session) (i : ℕ) → i < 40 → state_at r.desk.entries i ≡ Open s → s.ticket ≡ t → ⊥
      after_row s i h q y =
          let a = (step_follows w c (opens_at m τ) follows).keeps.refines.rows.holds i h s q in
          let k : lookup (clocked_step c (opens_at m τ)).then.ledger.rows t ≡ absent =
          ap (λ (l : Ledger). lookup l.rows t) (step_ledger c (opens_at m τ) ∙ ap (λ (o : Out Ledger). o.then) out_so) ∙ (closed_so c.ledger m t here).0 in
          no _ (sym k ∙ (rw y at a))

      -- the entry that had the ticket is the one that was set
      was : (i : ℕ) (x : State) → EntryBecomes w.desk i x r.desk → (j : ℕ) (s : Session) → j < 40 → state_at w.desk.entries j ≡ Open s → s.ticket ≡ t → (b : Bool) → eqb j i ≡ b → j ≡ i
      was i x v j s h q y true b = eqb-true j i b
      was i x v j s h q y false b = absurd (after_row s j h (v.others j (eqb-false j i b) ∙ q) y)

      had : (i : ℕ) (x : State) → EntryBecomes w.desk i x r.desk → (s : Session) × ((state_at w.desk.entries i ≡ Open s) × (s.ticket ≡ t))
      had i x v =
          let b = follows.refines.rows.backs t low.octets low.row in
          let k = was i x v b.0 b.1.0 b.1.1.0 b.1.1.1 b.1.1.2 (eqb b.0 i) refl in
          (b.1.0, (rw k at b.1.1.1, b.1.1.2))

      all_taken : (j : ℕ) → j < w.desk.slots → state_at w.desk.entries j ≡ Free → ⊥
      all_taken j l q =
          let a : count (taken_at w.desk.entries) w.desk.slots ≡ w.desk.slots = omega (arith, follows.refines.many, follows.refines.slots, how.1) in
          let b : not (is_free (state_at w.desk.entries j)) ≡ true = count_all (taken_at w.desk.entries) w.desk.slots a j l in
          let z : false ≡ true = rw q at b in
          clash_free z
        where
          clash_free : false ≡ true → ⊥
          clash_free z = clash cc

      go : Opens w.desk w.pool m τ c.ledger.next r → (i : ℕ) × Taken w.desk (record { desk = r.desk; pool = r.pool }) t i
      go (in_free_slot i x) = absurd (all_taken i x.inside x.free)
      go (in_idle_slot i s x) =
          (i, record { inside = x.inside; had = had i _ x.entries; has = (m, rw follows.refines.next at x.entries.there); zeroed = x.pool.there })

  pub reclaims : Reclaims n p xs m τ t
  reclaims =
      record {
        was_open = (low.octets, low.row);
        idle = low.idle;
        lowest = λ u o h. low.least u o.0 o.1 h;
        full = how.1 ∙ ap (λ (l : Ledger). l.slots) (after_flat xs (fresh_clocked n)) ∙ same_slots (flat (fresh_clocked n) xs) (fresh_ledger n);
        granted = grants;
        closed = λ ys x σ. asked_row n p f (xs ++ opens_at m τ ∷ ys) t x σ ∙ ap (λ (h : Found). answer h x) (closed_row ys);
        shown = asked_row n p f (xs ++ opens_at m τ ∷ []) c.ledger.next shows 0 ∙ ap (λ (h : Found). answer h shows) shown_row;
        slot = slot_taken;
      }

-- ---- stamps

stamp_first : (c : Clocked) (now t : ℕ) (r : Reply) (o : Out Ledger) (k : ℕ) → r ≡ told k → stamp_of (clocked_by c now t r o).then.stamps t ≡ now
unfolding stamp_of
stamp_first c now t (told n) o k e = rw (eq-eqb t t refl)
stamp_first c now t (refusal n q) o k e = clash cc
stamp_first c now t (counts a b) o k e = clash cc
stamp_first c now t (part q) o k e = clash cc

stamps_open : (c : Clocked) (m τ t : ℕ) → (clocked_step c (opens_at m τ)).reply ≡ told t → stamp_of (clocked_step c (opens_at m τ)).then.stamps t ≡ counted c τ
stamps_open c m τ t e =
    let g : (plain_out c (opens_at m τ)).reply ≡ told t = sym (step_reply c (opens_at m τ)) ∙ e in
    let x : c.ledger.next ≡ t = sym (freed_next c.ledger (taken c (opens_at m τ))) ∙ next_granted (freed c.ledger (taken c (opens_at m τ))) m t g in
    subst (λ (k : ℕ). stamp_of (clocked_step c (opens_at m τ)).then.stamps k ≡ counted c τ) x
    (stamp_first c (counted c τ) c.ledger.next (plain_out c (opens_at m τ)).reply (plain_out c (opens_at m τ)) t g)

stamps_add : (c : Clocked) (t : ℕ) (q : List ℕ) (τ k : ℕ) → (clocked_step c (adds_at t q τ)).reply ≡ told k → stamp_of (clocked_step c (adds_at t q τ)).then.stamps t ≡ counted c τ
stamps_add c t q τ k e = stamp_first c (counted c τ) t (plain_out c (adds_at t q τ)).reply (plain_out c (adds_at t q τ)) k (sym (step_reply c (adds_at t q τ)) ∙ e)

-- ---- the whole

pub demand3 : Demand3
demand3 =
    record {
      answered = answered;
      afterwards = afterwards;
      alone = alone;
      alike = alike;
      unseen = unseen_by;
      never_twice = later;
      opening = opening;
      reclaims = reclaims;
      stamps_open = stamps_open;
      stamps_add = stamps_add;
    }

-- ---- as it is asked

none_after : (xs : List Ticked) (c : Clocked) (m τ : ℕ) (ys : List Ticked) → ReclaimsNone c (xs ++ opens_at m τ ∷ ys)
    → ReclaimsNone (clocked_step (after_ticked clocked_step c xs) (opens_at m τ)).then ys
unfolding after_ticked ReclaimsNone
none_after [] c m τ ys k = k.1
none_after (x ∷ xs) c m τ ys k = none_after xs (clocked_step c x).then m τ ys k.1

kept_so : (n : ℕ) (xs : List Ticked) (m τ t : ℕ) (ys : List Ticked) → ReclaimsNone (fresh_clocked n) (xs ++ opens_at m τ ∷ ys) → Kept n xs m τ t ys
kept_so n xs m τ t ys k = none_spared ys (clocked_step (ledger n xs) (opens_at m τ)).then t (none_after xs (fresh_clocked n) m τ ys k)

pub demand3_as_asked : Demand3AsAsked
demand3_as_asked =
    record {
      answered = λ n p f xs k. answered n p f xs ∙ as_before xs (fresh_clocked n) k;
      alone = λ n p f xs m τ t g ys k. alone n p f xs m τ t g ys (kept_so n xs m τ t ys k);
      alike = λ n p f xs m τ t g n' p' f' xs' m' τ' t' g' ys ys' k k' e x σ σ'.
          (alike n p f xs m τ t g n' p' f' xs' m' τ' t' g').after ys ys' (kept_so n xs m τ t ys k) (kept_so n' xs' m' τ' t' ys' k') e x σ σ';
    }

-- ---- by name

-- two uploads in one list of calls
pub in_one_list : (n : ℕ) (p : List ℕ) → Proper n p → (xs ys : List Ticked) (m τ t m' τ' t' : ℕ) → Grants n p xs m τ t → Grants n p (xs ++ opens_at m τ ∷ ys) m' τ' t'
    → Alike n p xs m τ t n p (xs ++ opens_at m τ ∷ ys) m' τ' t'
in_one_list n p f xs ys m τ t m' τ' t' g g' = demand3.alike n p f xs m τ t g n p f (xs ++ opens_at m τ ∷ ys) m' τ' t' g'

-- two uploads in two lists of calls, on desks of any sizes
pub in_two_lists : (n n' : ℕ) (p p' : List ℕ) → Proper n p → Proper n' p' → (xs xs' : List Ticked) (m τ t m' τ' t' : ℕ) → Grants n p xs m τ t → Grants n' p' xs' m' τ' t'
    → Alike n p xs m τ t n' p' xs' m' τ' t'
in_two_lists n n' p p' f f' xs xs' m τ t m' τ' t' g g' = demand3.alike n p f xs m τ t g n' p' f' xs' m' τ' t' g'

-- other identifiers
pub identifiers : (n : ℕ) (p : List ℕ) → Proper n p → (xs ys : List Ticked) → SameTickedCalls xs ys → answers n p xs ≡ answers n p ys
identifiers n p f xs ys e = demand3.unseen n p p f f xs ys e

-- another proper pool
pub other_pool : (n : ℕ) (p p' : List ℕ) → Proper n p → Proper n p' → (xs : List Ticked) → answers n p xs ≡ answers n p' xs
other_pool n p p' f f' xs = demand3.unseen n p p' f f' xs xs (same_calls xs)

-- a session with an accepted opening or add less than 600 ticks ago is never taken
pub awake : (n : ℕ) (p : List ℕ) → Proper n p → (xs : List Ticked) (m τ t : ℕ) → counted (ledger n xs) τ < stamp_of (ledger n xs).stamps t + 600
    → taken (ledger n xs) (opens_at m τ) ≡ of t → ⊥
awake n p f xs m τ t h e = let r = demand3.reclaims n p f xs m τ t e in omega (arith, r.idle)

-- a released ticket answers 22, and an empty part to show, for ever
pub released : (n : ℕ) (p : List ℕ) → Proper n p → (xs : List Ticked) (m τ t : ℕ) → Grants n p xs m τ t → (ys zs : List Ticked)
    → Kept n xs m τ t (ys ++ asks_of t releasing ∷ zs) → (x : Deed) (σ : ℕ) → asked n p (xs ++ opens_at m τ ∷ (ys ++ asks_of t releasing ∷ zs)) t x σ ≡ shut x
unfolding mine fates
released n p f xs m τ t g ys zs s x σ =
    asked_so n p f xs m τ t g (ys ++ asks_of t releasing ∷ zs) s x σ ∙ ap (λ (h : Found). answer h x) gone
  where
    closed : (h : Found) → leaves h releases ≡ absent
    closed absent = refl
    closed (present o) = refl

    gone : fates (present []) (deeds_on t (ys ++ asks_of t releasing ∷ zs)) ≡ absent
    gone =
        ap (λ (cs : List Call). fates (present []) (mine t cs)) (map-append plain ys (asks_of t releasing ∷ zs))
        ∙ ap (fates (present [])) (mine_append t (map plain ys) (on t releases ∷ map plain zs))
        ∙ fates_append (mine t (map plain ys)) (mine t (on t releases ∷ map plain zs)) (present [])
        ∙ ap (λ (b : Bool). fates (fates (present []) (mine t (map plain ys))) (keep b releases (mine t (map plain zs)))) (eq-eqb t t refl)
        ∙ ap (λ (h : Found). fates h (mine t (map plain zs))) (closed (fates (present []) (mine t (map plain ys))))
        ∙ fates_absent (mine t (map plain zs))

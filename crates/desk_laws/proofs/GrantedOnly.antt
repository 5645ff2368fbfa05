-- What is said of a granted call leaves nothing free: two outcomes of which it is said are the same. Assumes nothing.
use Prim.Native.Nat.{ℕ, suc, ◌+◌, ◌-◌, ◌<◌}
use mathlib.Core.Path.{◌≡◌, refl, sym, ap, subst, ◌∙◌}
use mathlib.Core.Bool.{Bool, true, false}
use mathlib.Core.List.{List, [], ◌∷◌}
use native.Mathlib.Omega.{arith}
use lib.Dec.{ltb, eqb}
use lib.ListN.{length, get_or}
use borrow.Author.Tests.{ltb-true, ltb-false, eqb-true, eqb-false}
use Rattle.desk_slots.specs.Sound.{state_at, tick_at}
use Rattle.desk.specs.Steps.{Turned}
use Rattle.desk_entries.specs.declared.Session.{Session}
use Rattle.desk_entries.specs.declared.Entry.{Entry}
use Rattle.desk_entries.specs.declared.State.{State}
use Rattle.desk_entries.specs.declared.State.TheVariants.{Open}
use Rattle.desk.specs.declared.Desk.{Desk}
use Rattle.desk_ledger.specs.Answers.{told, said}
use Rattle.desk_ledger.proofs.AnswerLaws.{said_told}
use Rattle.desk_laws.specs.Granted.{Usable, OpenAt, EntryBecomes, TicksBecome, TicksStay, OctetsBecome, Opened, Reclaimed, Added, Released}

same_octets : (xs ys : List ℕ) → length xs ≡ length ys → ((k : ℕ) → get_or xs k 0 ≡ get_or ys k 0) → xs ≡ ys
same_octets [] [] e f = refl
same_octets [] (y ∷ ys) e f = absurd (omega arith)
same_octets (x ∷ xs) [] e f = absurd (omega arith)
same_octets (x ∷ xs) (y ∷ ys) e f = rw (f 0, same_octets xs ys (omega arith) (λ k. f (suc k)))

same_entries : (xs ys : List Entry) → length xs ≡ length ys → ((j : ℕ) → state_at xs j ≡ state_at ys j) → xs ≡ ys
same_entries [] [] e f = refl
same_entries [] (y ∷ ys) e f = absurd (omega arith)
same_entries (x ∷ xs) [] e f = absurd (omega arith)
same_entries (x ∷ xs) (y ∷ ys) e f =
    let h : x ≡ y = ap {B = Entry} (λ (s : State). record { state = s }) (f 0) in
    rw (h, same_entries xs ys (omega arith) (λ j. f (suc j)))

octets_only : {p p' p'' : List ℕ} {a n : ℕ} {new : ℕ → ℕ} → OctetsBecome p a n new p' → OctetsBecome p a n new p'' → p' ≡ p''
octets_only {p} {p'} {p''} {a} {n} x y = same_octets p' p'' (x.size ∙ sym y.size) (λ k. go k (ltb k a) refl (ltb k (a + n)) refl)
  where
    go : (k : ℕ) (b : Bool) → ltb k a ≡ b → (c : Bool) → ltb k (a + n) ≡ c → get_or p' k 0 ≡ get_or p'' k 0
    go k true q c r = let l = ltb-true k a q in x.before k l ∙ sym (y.before k l)
    go k false q true r =
        let h : k - a < n = omega (arith, ltb-true k (a + n) r, ltb-false k a q) in
        subst (λ (m : ℕ). get_or p' m 0 ≡ get_or p'' m 0) (omega (arith, ltb-false k a q)) (x.there (k - a) h ∙ sym (y.there (k - a) h))
    go k false q false r = let l = ltb-false k (a + n) r in x.past k l ∙ sym (y.past k l)

entries_only : {d d' d'' : Desk} {i : ℕ} {s : State} → EntryBecomes d i s d' → EntryBecomes d i s d'' → d'.entries ≡ d''.entries
entries_only {d} {d'} {d''} {i} x y = same_entries d'.entries d''.entries (x.forty ∙ sym y.forty) (λ j. go j (eqb j i) refl)
  where
    go : (j : ℕ) (b : Bool) → eqb j i ≡ b → state_at d'.entries j ≡ state_at d''.entries j
    go j true q = let w : j ≡ i = eqb-true j i q in rw w (x.there ∙ sym y.there)
    go j false q = let n = eqb-false j i q in x.others j n ∙ sym (y.others j n)

stamps_only : {d d' d'' : Desk} {i now : ℕ} → TicksBecome d i now d' → TicksBecome d i now d'' → d'.stamps ≡ d''.stamps
stamps_only {d} {d'} {d''} {i} x y = same_octets d'.stamps d''.stamps (x.beside ∙ sym y.beside) (λ j. go j (eqb j i) refl)
  where
    go : (j : ℕ) (b : Bool) → eqb j i ≡ b → tick_at d'.stamps j ≡ tick_at d''.stamps j
    go j true q = let w : j ≡ i = eqb-true j i q in rw w (x.there ∙ sym y.there)
    go j false q = let n = eqb-false j i q in x.others j n ∙ sym (y.others j n)

same_desk : (d d' : Desk) → d.entries ≡ d'.entries → d.slots ≡ d'.slots → d.next ≡ d'.next → d.tick ≡ d'.tick → d.stamps ≡ d'.stamps → d ≡ d'
same_desk d d' e f g h k =
    let r : ◌≡◌ {A = Desk} (record { entries = d.entries; slots = d.slots; next = d.next; tick = d.tick; stamps = d.stamps })
    (record { entries = d'.entries; slots = d'.slots; next = d'.next; tick = d'.tick; stamps = d'.stamps }) = rw (e, f, g, h, k) in
    r

desk_only : {d d' d'' : Desk} {i now : ℕ} {s : State} → EntryBecomes d i s d' → TicksBecome d i now d' → EntryBecomes d i s d'' → TicksBecome d i now d'' → d'.next ≡ d''.next → d' ≡ d''
desk_only {d} {d'} {d''} x t y v e =
    same_desk d' d'' (entries_only x y) (x.slots ∙ sym y.slots) e (t.tick ∙ sym v.tick) (stamps_only t v)

desk_freed : {d d' d'' : Desk} {i : ℕ} {s : State} → EntryBecomes d i s d' → TicksStay d d' → EntryBecomes d i s d'' → TicksStay d d'' → d'.next ≡ d''.next → d' ≡ d''
desk_freed {d} {d'} {d''} x t y v e =
    same_desk d' d'' (entries_only x y) (x.slots ∙ sym y.slots) e (t.tick ∙ sym v.tick) (t.stamps ∙ sym v.stamps)

turned_only : (r s : Turned) (n : ℕ) → said r.answer ≡ told n → said s.answer ≡ told n → r.desk ≡ s.desk → r.pool ≡ s.pool → r ≡ s
turned_only r s n a b e f =
    let g : ◌≡◌ {A = Turned} (record { answer = r.answer; desk = r.desk; pool = r.pool }) (record { answer = s.answer; desk = s.desk; pool = s.pool }) = rw (said_told r.answer n a, said_told s.answer n b, e, f) in
    g

module _ (d : Desk) (p : List ℕ) where
  pub opened_only : (m k t i j : ℕ) (r s : Turned) → said r.answer ≡ told t → said s.answer ≡ told t → Opened d p m k t i r → Opened d p m k t j s → r ≡ s
  opened_only m k t i j r s a b x y =
      let e : i ≡ j = same (ltb i j) refl (ltb j i) refl in
      let z : Opened d p m k t i s = subst (λ (n : ℕ). Opened d p m k t n s) (sym e) y in
      turned_only r s t a b (desk_only x.entries x.ticks z.entries z.ticks (x.next ∙ sym z.next)) (x.pool ∙ sym z.pool)
    where
      same : (b : Bool) → ltb i j ≡ b → (c : Bool) → ltb j i ≡ c → i ≡ j
      same true q c v = absurd (y.lowest i (ltb-true i j q) x.free)
      same false q true v = absurd (x.lowest j (ltb-true j i v) y.free)
      same false q false v = omega (arith, ltb-false i j q, ltb-false j i v)

  -- an opening is granted in a free slot or in an idle one, and not in both
  pub one_way : (m k t i j : ℕ) (v : Session) (r s : Turned) → Opened d p m k t i r → Reclaimed d p m k t j v s → ⊥
  one_way m k t i j v r s x y = y.full i x.inside x.free

  pub reclaimed_only : Usable d p → (m k t i j : ℕ) (v w : Session) (r s : Turned) → said r.answer ≡ told t → said s.answer ≡ told t
      → Reclaimed d p m k t i v r → Reclaimed d p m k t j w s → r ≡ s
  reclaimed_only u m k t i j v w r s a b x y =
      let f = u.sound.entries.most in
      let n = x.inside in
      let o = y.inside in
      let g : v.ticket ≡ w.ticket = omega (arith, x.lowest j w y.inside y.had y.idle, y.lowest i v x.inside x.had x.idle) in
      let e : j ≡ i = u.sound.entries.distinct j i (omega arith) (omega arith) w v y.had x.had (sym g) in
      let z : Reclaimed d p m k t i w s = subst (λ (n : ℕ). Reclaimed d p m k t n w s) e y in
      turned_only r s t a b (desk_only x.entries x.ticks z.entries z.ticks (x.next ∙ sym z.next)) (octets_only x.pool z.pool)

  module _ (u : Usable d p) (t : ℕ) where
    slot_only : (i j : ℕ) (s v : Session) → OpenAt d t i s → OpenAt d t j v → (j ≡ i) × (v ≡ s)
    slot_only i j s v x y =
        let m = u.sound.entries.most in
        let a = x.inside in
        let b = y.inside in
        let e : j ≡ i = u.sound.entries.distinct j i (omega arith) (omega arith) v s y.state x.state (y.ticket ∙ sym x.ticket) in
        let o : Open v ≡ Open s = sym (rw e at y.state) ∙ x.state in
        (e, cc)

    pub added_only : (chunk : List ℕ) (k n i j : ℕ) (v w : Session) (r s : Turned) → said r.answer ≡ told n → said s.answer ≡ told n
        → Added d p t chunk k n i v r → Added d p t chunk k n j w s → r ≡ s
    added_only chunk k n i j v w r s a b x y =
        let o = slot_only i j v w x.slot y.slot in
        let y' : Added d p t chunk k n i w s = subst (λ (q : ℕ). Added d p t chunk k n q w s) o.0 y in
        let z : Added d p t chunk k n i v s = subst (λ (q : Session). Added d p t chunk k n i q s) o.1 y' in
        turned_only r s n a b (desk_only x.entries x.ticks z.entries z.ticks (x.next ∙ sym z.next)) (octets_only x.pool z.pool)

    pub released_only : (n i j : ℕ) (v w : Session) (r s : Turned) → said r.answer ≡ told n → said s.answer ≡ told n
        → Released d p t n i v r → Released d p t n j w s → r ≡ s
    released_only n i j v w r s a b x y =
        let o = slot_only i j v w x.slot y.slot in
        let z : Released d p t n i w s = subst (λ (k : ℕ). Released d p t n k w s) o.0 y in
        turned_only r s n a b (desk_freed x.entries x.ticks z.entries z.ticks (x.next ∙ sym z.next)) (octets_only x.zeros z.zeros)

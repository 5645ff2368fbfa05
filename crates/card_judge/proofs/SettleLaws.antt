-- A line that fits its place and its kind, of a property marked *1 or another: by what was seen before and by its ALTID value. Assumes nothing.
use mathlib.Core.Path.{◌≡◌, refl, sym, ap, subst, ◌∙◌}
use mathlib.Core.Bool.{Bool, true, false, not, ◌&&◌, false≢true}
use mathlib.Core.List.{List, [], ◌++◌, map, append-nil}
use mathlib.Core.Option.{Option, none, some}
use mathlib.Core.Logic.{◌⊎◌, inl, inr}
use Prim.Native.Nat.{ℕ, zero, suc, ◌+◌, ◌-◌, ◌<◌, ◌≤◌}
use native.Mathlib.Omega.{arith}
use lib.Dec.{eqb}
use lib.ListN.{length, drop, length-take, length-drop}
use borrow.Author.Tests.{eqb-true, ne_eqb}
use Rattle.octets.specs.Pick.{pick}
use Rattle.octets.proofs.Bools.{by, and_both}
use Rattle.property_table.specs.Rows.{rows, newer, all_rows, row_at, single, once_at, is_group}
use Rattle.card_state.specs.State.{Card, Step, Next, Refused, Flawed, flag_of, once_flag, is_seen, same_tag, tag_of, tagged, second_instance, going, line_card, noted, phase_after, end_card, closed}
use Rattle.numbers.specs.Refusals.{number}
use Rattle.numbers.specs.declared.refusal.Reason.{Reason}
use Rattle.card_state.specs.Kept.{places_of, tag_at, Lies, card_of, step_of, Holds, gone_on, Keeps}
use Rattle.card_state.specs.declared.Card.{Card as Kept}
use Rattle.card_state.specs.Kept.{KeptStep}
use Rattle.card_state.specs.Kept.{next, refused, flawed}
use Rattle.card_state.proofs.KeptLaws.{holds_more, keep_lies, gone_card, keep_card}
use Rattle.line_parameters.specs.First.{find_first}
use Rattle.line_parameters.specs.First.{First}
use Rattle.line_parameters.specs.First.{Between, Nothing}
use Rattle.card_line.specs.Parts.{Accepted, first_value}
use Rattle.card_line.proofs.PartLaws.{value_missing, value_there}
use Rattle.card_judge.specs.Judge.{entered, part, read_by, octets_of, added_at, KeepsOn, Keeping, Spans, Instance, instance, Told, Takes}
use Rattle.card_judge.specs.declared.judge.Judgement.{Judgement}
use Rattle.card_judge.specs.declared.judge.Instance.{Instance as Found}
use Rattle.card_judge.specs.declared.judge.Instance.TheVariants.{Second, Opened, Further}

-- END is not marked *1
end_often : once_at 2 ≡ 0
unfolding once_at single row_at rows newer all_rows
end_often = refl

not_end : (row : ℕ) → (once_at row ≡ 0 → ⊥) → eqb row 2 ≡ false
not_end row h = by (eqb row 2) (λ e. absurd (h (ap once_at (eqb-true row 2 e) ∙ end_often))) (λ e. e)

-- a property of which a line was seen is marked *1
seen_some : (k s : ℕ) → is_seen (flag_of k) s ≡ true → k ≡ 0 → ⊥
unfolding is_seen flag_of
seen_some k s h e = let z : false ≡ true = rw e at h in false≢true z

seen_once : (row s : ℕ) → is_seen (once_flag row) s ≡ true → once_at row ≡ 0 → ⊥
unfolding once_flag
seen_once row s h = seen_some (once_at row) s h

none_same : (a : Option (List ℕ)) → same_tag a none ≡ false
unfolding same_tag
none_same none = refl
none_same (some v) = refl

-- no ALTID value, or one that is not looked for, leaves the tags
tagged_none : (ts : List (Option (List ℕ))) (k : ℕ) (a : Option (List ℕ)) → pick (eqb k 0) none a ≡ none → tagged ts k a ≡ ts
unfolding tagged
tagged_none ts zero a e = refl
tagged_none ts (suc k) a e = let n : a ≡ none = rw (ne_eqb (suc k) 0 (λ z. omega arith)) at e in rw n

pub looked_for : (k : ℕ) (a : Option (List ℕ)) → (k ≡ 0 → ⊥) → pick (eqb k 0) none a ≡ a
looked_for k a h = rw (ne_eqb k 0 h)

-- a value that was found was looked for
pub found_once : (k : ℕ) (a : Option (List ℕ)) (w : List ℕ) → pick (eqb k 0) none a ≡ some w → (0 < k) × (a ≡ some w)
found_once zero a w e = let z : ◌≡◌ {A = ℕ} 0 1 = cc in absurd (omega arith)
found_once (suc k) a w e = (omega arith, sym (looked_for (suc k) a (λ z. omega arith)) ∙ e)

-- what a search for a parameter's value finds
pub found_spans : (l : List ℕ) (end : ℕ) → Accepted l end → (name : List ℕ) (r : First)
    → r ≡ find_first name end (suc (length (drop end l))) (drop end l) → Spans r l (first_value name l)
found_spans l end a name (Between i j) e = let p = value_there l end a name i j (sym e) in (p.order, p.inside, p.octets)
found_spans l end a name Nothing e = value_missing l end a name (sym e)

pub part_size : (from to : ℕ) (l : List ℕ) → from ≤ to → to ≤ length l → length (part from to l) ≡ to - from
part_size from to l g h = simp (length-take, length-drop) (omega arith)

-- a judgement by which nothing is to be kept
abbrev unkept : KeptStep → Judgement
unkept st = record { step = st; from = 0; to = 0 }

stepped : {added : List ℕ} (c : Kept) (store l : List ℕ) (j : Judgement) (st : KeptStep) (s : Step) → j ≡ unkept st → Holds c.used st
    → ((d : Kept) → st ≡ next d → ⊥) → step_of store st ≡ s → (read_by j store l ≡ s) × Keeping c l added j
unfolding read_by
stepped c store l j st s e h never q = rw e (
  rw (append-nil store) q,
  record {
    order = omega arith;
    inside = omega arith;
    holds = holds_more st c.used (c.used + (0 - 0)) (omega arith) h;
    adds = λ d z. absurd (never d z);
    counts = λ d z. absurd (never d z);
  },
)

pub stopped : {added : List ℕ} (c : Kept) (store l : List ℕ) (j : Judgement) (n : Reason) (p : ℕ) (s : Step) → j ≡ unkept (refused n p) → Refused (number n) p ≡ s
    → (read_by j store l ≡ s) × Keeping c l added j
unfolding Holds step_of
stopped c store l j n p s e q = stepped c store l j (refused n p) s e tt (λ d z. let y : ◌≡◌ {A = ℕ} 0 1 = cc in absurd (omega arith)) q

pub flawed_stop : {added : List ℕ} (c : Kept) (store l : List ℕ) (j : Judgement) (n : Reason) (o : ℕ) (s : Step) → j ≡ unkept (flawed n o) → Flawed (number n) o ≡ s
    → (read_by j store l ≡ s) × Keeping c l added j
unfolding Holds step_of
flawed_stop c store l j n o s e q = stepped c store l j (flawed n o) s e tt (λ d z. let y : ◌≡◌ {A = ℕ} 0 1 = cc in absurd (omega arith)) q

-- after END the card has not begun
closed_phase : (x y : Card) (at : ℕ) → closed x at ≡ Next y → y.phase ≡ 0
unfolding closed
closed_phase x y at e = by_fn x.has_fn (x.has_member && not x.is_group) e
  where
    by_fn : (f m : Bool) → pick f (pick m (Refused 12 at) (Next (end_card x))) (Refused 11 at) ≡ Next y → y.phase ≡ 0
    by_fn false m e = let z : ◌≡◌ {A = ℕ} 0 1 = cc in absurd (omega arith)
    by_fn true true e = let z : ◌≡◌ {A = ℕ} 0 1 = cc in absurd (omega arith)
    by_fn true false e = let z : end_card x ≡ y = cc in sym (ap (λ (c : Card). c.phase) z)

-- after END no values are kept
pub end_keeps : (c : Kept) (at n : ℕ) (r : KeptStep) → step_of [] r ≡ closed (card_of c []) at → Holds 0 r → KeepsOn n r
unfolding step_of Holds card_of
end_keeps c at n r q h d e =
    let p : d.phase ≡ 0 = closed_phase (card_of c []) (card_of d []) at (sym q ∙ ap (step_of []) e) in
    let u = subst (Holds 0) e h in
    rw p (omega (arith, u.1))

-- a line that is no END leaves the values
pub gone_keeps : (c : Kept) (row : ℕ) (group : Bool) → KeepsOn c.used (next (gone_on c row group))
unfolding gone_on phase_after
gone_keeps c row group d e =
    let z : gone_on c row group ≡ d = cc in
    subst (λ (x : Kept). x.used ≡ pick (eqb x.phase 0) 0 c.used) z (by (eqb row 1) (λ t. rw t) (λ t. rw t))

module _ (c : Kept) (store : List ℕ) (at row : ℕ) (v : List ℕ) where
  abbrev now_card : Card
  now_card = card_of c store

  -- the line is entered, and no value kept
  abbrev on : Step
  on = pick (eqb row 2) (closed now_card at) (Next (card_of (gone_on c row (is_group v)) store))

  entered_on : (a : Option (List ℕ)) → second_instance now_card row a ≡ false
      → pick (is_seen (once_flag row) now_card.seen) now_card.tags (tagged now_card.tags (once_at row) a) ≡ now_card.tags
      → on ≡ entered now_card at row a v
  unfolding entered noted line_card
  entered_on a e f = rw (e, f, gone_card c store row (is_group v))

  entered_second : (a : Option (List ℕ)) → is_seen (once_flag row) c.seen ≡ true → same_tag (tag_of now_card.tags (once_at row)) a ≡ false
      → Refused 10 at ≡ entered now_card at row a v
  unfolding entered noted second_instance card_of
  entered_second a h e = sym (rw (not_end row (seen_once row c.seen h), h, e))

  -- an ALTID, of the first line
  module _ (r : Kept) (w : List ℕ) (k : ℕ) (here : k ≡ once_at row) (unseen : is_seen (once_flag row) c.seen ≡ false)
      (keeps : Keeps c k (length w) r) (lies : Lies c) (short : length w ≤ 16384) (all : length store ≡ c.used) (some-k : 0 < k) where
    kept_next : card_of (gone_on r row (is_group v)) (store ++ w) ≡ line_card now_card row (some w) (is_group v)
    unfolding line_card card_of
    kept_next =
        gone_card r (store ++ w) row (is_group v)
        ∙ ap (λ (d : Card). going d d.tags row (is_group v)) (keep_card c r k (length w) keeps lies short store w all refl some-k)
        ∙ rw (unseen, ← here)

    first_on : pick (eqb row 2) (closed (card_of r (store ++ w)) at) (Next (card_of (gone_on r row (is_group v)) (store ++ w))) ≡ entered now_card at row (some w) v
    unfolding entered noted second_instance card_of
    first_on =
        let inside : eqb row 2 ≡ false = not_end row (λ e. omega (arith, here)) in
        rw (inside, unseen) (ap Next kept_next)

-- what a line l of the k-th property marked *1, or of any other (0), with the ALTID value a makes of its instance
module _ (c : Kept) (store l : List ℕ) (k : ℕ) (a : Option (List ℕ)) (again : Bool) (known : again ≡ is_seen (flag_of k) c.seen) where
  abbrev kept_tag : Option (List ℕ)
  kept_tag = tag_of (map (tag_at store) (places_of c.tags)) k

  second_none : (b : Bool) → again ≡ b → pick (eqb k 0) none a ≡ none → b ≡ b && not (same_tag kept_tag a)
  second_none false e n = refl
  second_none true e n =
      let missing : a ≡ none = sym (looked_for k a (seen_some k c.seen (sym known ∙ e))) ∙ n in
      rw (missing, none_same kept_tag)

  pub told_none : pick (eqb k 0) none a ≡ none → Told c store l k a (record { second = again; keeps = false; from = 0; to = 0 })
  told_none n = record {
    order = omega arith;
    inside = omega arith;
    second = rw (← known) (second_none again refl n);
    first = λ h. absurd (false≢true h);
    other = λ h. ((refl, refl), inr n);
  }

  pub told_first : (from to : ℕ) → from ≤ to → to ≤ length l → again ≡ false → pick (eqb k 0) none a ≡ some (part from to l)
      → Told c store l k a (record { second = false; keeps = true; from = from; to = to })
  told_first from to g h e q = record {
    order = g;
    inside = h;
    second = rw (← known, e);
    first = λ z. (sym known ∙ e, found_once k a (part from to l) q);
    other = λ z. absurd (false≢true (sym z));
  }

  pub told_again : (w : List ℕ) (same : Bool) → again ≡ true → pick (eqb k 0) none a ≡ some w → same ≡ same_tag kept_tag (some w)
      → Told c store l k a (record { second = not same; keeps = false; from = 0; to = 0 })
  told_again w same e q h = record {
    order = omega arith;
    inside = omega arith;
    second = rw (← known, e, (found_once k a w q).1) (ap not h);
    first = λ z. absurd (false≢true z);
    other = λ z. ((refl, refl), inl (sym known ∙ e));
  }

-- what is known of a line l of the k-th property marked *1, or of any other (0), with the ALTID value a
module _ (c : Kept) (store l : List ℕ) (k : ℕ) (a : Option (List ℕ)) (i : Instance) (told : Told c store l k a i) where
  abbrev seen : Bool
  seen = is_seen (flag_of k) c.seen

  abbrev tags : List (Option (List ℕ))
  tags = map (tag_at store) (places_of c.tags)

  -- a line whose value is not kept leaves the tags
  stays : (seen ≡ true) ⊎ (pick (eqb k 0) none a ≡ none) → pick seen tags (tagged tags k a) ≡ tags
  stays (inl e) = rw e
  stays (inr e) = by seen (λ q. rw q) (λ q. rw q (tagged_none tags k a e))

  -- a line whose value is not kept adds none
  none_added : (seen ≡ true) ⊎ (pick (eqb k 0) none a ≡ none) → [] ≡ pick seen [] (pick (eqb k 0) [] (octets_of a))
  none_added (inl e) = rw e
  none_added (inr e) = by seen (λ q. rw q) (λ q. rw q (by (eqb k 0) (λ z. rw z) (λ z. let n : a ≡ none = rw z at e in rw (z, n))))

  -- the octets to keep are those that the line adds
  pub added_is : (row : ℕ) → k ≡ once_at row → part i.from i.to l ≡ added_at row c.seen a
  unfolding added_at once_flag
  added_is row here =
      rw (← here)
      (by i.keeps
      (λ h. let f = told.first h in rw (f.0, ne_eqb k 0 (λ z. omega (arith, f.1.0)), f.1.1))
      (λ h. let o = told.other h in rw (o.0.0, o.0.1) (none_added o.1)))

  -- the state r has the line's value, where it is to be kept
  module _ (r : Kept) (takes : Takes c k i r) (lies : Lies c) (short : c.used + length l ≤ 16384) where
    size_low : i.to - i.from ≤ 16384
    size_low = omega (arith, told.inside, short)

    pub takes_lies : Lies r
    takes_lies = by i.keeps (λ h. keep_lies c r k _ (takes.value h) lies size_low) (λ h. subst Lies (sym (takes.none h)) lies)

    pub takes_counts : (r.cards ≡ c.cards) × (r.lines ≡ c.lines)
    takes_counts =
        by i.keeps (λ h. ((takes.value h).cards, (takes.value h).lines))
        (λ h. (ap (λ (d : Kept). d.cards) (takes.none h), ap (λ (d : Kept). d.lines) (takes.none h)))

    pub takes_used : r.used ≡ c.used + (i.to - i.from)
    takes_used =
        by i.keeps (λ h. (takes.value h).used)
        (λ h. ap (λ (d : Kept). d.used) (takes.none h) ∙ omega (arith, (told.other h).0.0, (told.other h).0.1))

  module _ (at row : ℕ) (v : List ℕ) (here : k ≡ once_at row) where
    seen_row : (b : Bool) → seen ≡ b → is_seen (once_flag row) c.seen ≡ b
    unfolding once_flag
    seen_row b e = rw (← here) e

    second_row : (b : Bool) → i.second ≡ b → second_instance (card_of c store) row a ≡ b
    unfolding second_instance card_of once_flag
    second_row b e = rw (← here) (sym told.second ∙ e)

    pub told_second : i.second ≡ true → Refused 10 at ≡ entered (card_of c store) at row a v
    unfolding entered noted
    told_second e =
        let both = and_both seen _ (sym told.second ∙ e) in
        sym (rw (not_end row (seen_once row c.seen (seen_row true both.0)), second_row true e))

    module _ (r : Kept) (takes : Takes c k i r) (lies : Lies c) (short : c.used + length l ≤ 16384) (all : length store ≡ c.used) (one : i.second ≡ false) where
      abbrev kept : List ℕ
      kept = store ++ part i.from i.to l

      abbrev gone : Step
      gone = pick (eqb row 2) (closed (card_of r kept) at) (Next (card_of (gone_on r row (is_group v)) kept))

      first_gone : i.keeps ≡ true → gone ≡ entered (card_of c store) at row a v
      first_gone h =
          let f = told.first h in
          let size = part_size i.from i.to l told.order told.inside in
          first_on c store at row v r (part i.from i.to l) k here (seen_row false f.0)
          (subst (λ (n : ℕ). Keeps c k n r) (sym size) (takes.value h)) lies (omega (arith, size, told.inside, short)) all f.1.0
          ∙ ap (λ (z : Option (List ℕ)). entered (card_of c store) at row z v) (sym f.1.1)

      other_gone : i.keeps ≡ false → gone ≡ entered (card_of c store) at row a v
      unfolding card_of once_flag
      other_gone h =
          let o = told.other h in
          rw (takes.none h, o.0.0, o.0.1, append-nil store) (entered_on c store at row v a (second_row false one) (rw (← here) (stays o.1)))

      pub told_on : gone ≡ entered (card_of c store) at row a v
      told_on = by i.keeps first_gone other_gone

      -- such a line, entered in the state r, is judged as it should be
      pub settled : (st : KeptStep)
          → ((s : List ℕ) → step_of s st ≡ pick (eqb row 2) (closed (card_of r s) at) (Next (card_of (gone_on r row (is_group v)) s)))
          → Holds r.used st × KeepsOn r.used st
          → (read_by (record { step = st; from = i.from; to = i.to }) store l ≡ entered (card_of c store) at row a v)
          × Keeping c l (added_at row c.seen a) (record { step = st; from = i.from; to = i.to })
      unfolding read_by
      settled st f h =
          let size = takes_used r takes lies short in (
            f kept ∙ told_on,
            record {
              order = told.order;
              inside = told.inside;
              holds = subst (λ (n : ℕ). Holds n st) size h.0;
              adds = λ d z. added_is row here;
              counts = subst (λ (n : ℕ). KeepsOn n st) size h.1;
            },
          )

pub not_second : (x : Found) → (x ≡ Second → ⊥) → (instance x).second ≡ false
not_second Second h = absurd (h refl)
not_second (Opened from to) h = refl
not_second Further h = refl

pub nothing_kept : (x : Found) → ((from to : ℕ) → x ≡ Opened from to → ⊥) → ((instance x).from ≡ 0) × ((instance x).to ≡ 0)
nothing_kept Second h = (refl, refl)
nothing_kept (Opened from to) h = absurd (h from to refl)
nothing_kept Further h = (refl, refl)

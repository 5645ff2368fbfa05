-- What the state of a card says of the card's lines so far, and how a line or an END changes both alike. Assumes nothing.
use mathlib.Core.Path.{◌≡◌, refl, sym, ap, subst, ◌∙◌}
use mathlib.Core.Bool.{Bool, true, false, not, ◌&&◌, ◌||◌, false≢true, or_assoc, or-false, and-or_distrib_left}
use mathlib.Core.List.{List, [], ◌∷◌, ◌++◌}
use mathlib.Core.Option.{Option, none, some}
use mathlib.Core.Logic.{◌↔◌}
use Prim.Native.Nat.{ℕ, zero, suc, ◌+◌, ◌-◌, ◌<◌, ◌≤◌}
use native.Mathlib.Omega.{arith}
use lib.Dec.{eqb}
use lib.Bits.{bit_or}
use lib.ListN.{length, get_or, replicate, length-set}
use lib.Seq.{get_or-set_same, get_or-set_other}
use borrow.Author.Tests.{eqb-true, eqb-false, eq-eqb, ne_eqb, not-true}
use Rattle.octets.specs.Pick.{pick}
use Rattle.line_parser.specs.Grammar.{Line, Each}
use Rattle.property_table.specs.Rows.{single, once_at, is_group}
use Rattle.octets.proofs.Bools.{by, and_both, or_none_left, or_none_right}
use Rattle.card_state.specs.State.{Card, Next, Refused, fresh_card, untagged, in_order, once_flag, is_seen, phase_after, equal, same_tag, tag_of, tagged, second_instance, line_card as next_card, noted, end_card as closed_card, closed}
use Rattle.card_state.proofs.KeptLaws.{once_ten}
use Rattle.card_line.specs.Parts.{row_of_line, altid_of}
use Rattle.card_line.proofs.PartLaws.{row_of_line_lem}
use Rattle.reader_grammar.specs.Cards.{counts, count, of_row, lines_of, says_group, group_lines, any, OneInstance, alike, same_instance}
use Rattle.reader_grammar.specs.Refusals.{InPlace}
use Rattle.reader_grammar.proofs.Flags.{none_seen, seen_after, once_some, once_own}
use Rattle.property_table.specs.declared.Edition.{Edition}

module _ (ed : Edition) where
  any_counts : (t u : Bool) (n : ℕ) → (u ≡ true → 1 ≤ n) → (t || u) ≡ true → 1 ≤ counts t n
  any_counts true u n f e = omega arith
  any_counts false u n f e = f e

  pub any_some : (p : Line → Bool) (xs : List Line) → any p xs ≡ true → 1 ≤ count p xs
  unfolding any count
  any_some p [] e = absurd (false≢true e)
  any_some p (x ∷ xs) e = any_counts (p x) (any p xs) (count p xs) (any_some p xs) e

  none_counts : (t u : Bool) (n : ℕ) → (u ≡ false → n ≡ 0) → (t || u) ≡ false → counts t n ≡ 0
  none_counts true u n f e = absurd (false≢true (sym e))
  none_counts false u n f e = f e

  pub any_none : (p : Line → Bool) (xs : List Line) → any p xs ≡ false → count p xs ≡ 0
  unfolding any count
  any_none p [] e = refl
  any_none p (x ∷ xs) e = none_counts (p x) (any p xs) (count p xs) (any_none p xs) e

  pub some_any : (p : Line → Bool) (xs : List Line) → 1 ≤ count p xs → any p xs ≡ true
  some_any p xs h = by (any p xs) (λ e. e) (λ e. absurd (omega (arith, any_none p xs e)))

  pub none_any : (p : Line → Bool) (xs : List Line) → count p xs ≡ 0 → any p xs ≡ false
  none_any p xs h = by (any p xs) (λ e. absurd (omega (arith, any_some p xs e))) (λ e. e)

  pub any_last : (p : Line → Bool) (xs : List Line) (x : Line) → any p (xs ++ (x ∷ [])) ≡ (any p xs || p x)
  unfolding any
  any_last p [] x = or-false (p x)
  any_last p (y ∷ xs) x = ap (λ (t : Bool). p y || t) (any_last p xs x) ∙ sym (or_assoc (p y) (any p xs) (p x))

  counts_add : (t : Bool) (n m : ℕ) → counts t (n + m) ≡ counts t n + m
  counts_add true n m = omega arith
  counts_add false n m = refl

  pub count_append : (p : Line → Bool) (xs ys : List Line) → count p (xs ++ ys) ≡ count p xs + count p ys
  unfolding count
  count_append p [] ys = omega arith
  count_append p (x ∷ xs) ys = ap (counts (p x)) (count_append p xs ys) ∙ counts_add (p x) (count p xs) (count p ys)

  -- equal octets are one value
  equal_is : (a b : List ℕ) → equal a b ≡ true → a ≡ b
  unfolding equal
  equal_is [] [] e = refl
  equal_is [] (y ∷ b) e = absurd (false≢true e)
  equal_is (x ∷ a) [] e = absurd (false≢true e)
  equal_is (x ∷ a) (y ∷ b) e =
      let h = and_both (eqb x y) (equal a b) e in
      rw (eqb-true x y h.0, equal_is a b h.1)

  is_equal : (a : List ℕ) → equal a a ≡ true
  unfolding equal
  is_equal [] = refl
  is_equal (x ∷ a) = rw (eq-eqb x x refl, is_equal a)

  same_tag_lem : (a b : Option (List ℕ)) → same_tag a b ≡ true → (v : List ℕ) × (a ≡ some v) × (b ≡ some v)
  unfolding same_tag
  same_tag_lem (some a) (some b) e = (a, refl, ap some (sym (equal_is a b e)))
  same_tag_lem (some a) none e = absurd (false≢true e)
  same_tag_lem none b e = absurd (false≢true e)

  -- all lines of the row have the same ALTID, or none has one
  abbrev pub Tagged : List Line → ℕ → Option (List ℕ) → Type 0
  Tagged ys row t = Each (λ y. row_of_line ed y ≡ row → altid_of y ≡ t) ys

  -- what holds of no line of a row holds of none
  none_tagged : (ys : List Line) (row : ℕ) (t : Option (List ℕ)) → any (of_row ed row) ys ≡ false → Tagged ys row t
  unfolding any Each
  none_tagged [] row t e = tt
  none_tagged (y ∷ ys) row t e = (
    λ r. absurd (false≢true (sym (or_none_left (of_row ed row y) (any (of_row ed row) ys) e) ∙ eq-eqb (row_of_line ed y) row r)),
    none_tagged ys row t (or_none_right (of_row ed row y) (any (of_row ed row) ys) e),
  )

  pub each_last : {A : Type 0} (P : A → Type 0) (ys : List A) (x : A) → Each P ys → P x → Each P (ys ++ (x ∷ []))
  unfolding Each
  each_last P [] x h p = (p, tt)
  each_last P (y ∷ ys) x h p = (h.0, each_last P ys x h.1 p)

  -- the test says whether two lines are one instance
  pub instance_law : (x y : Line) → (same_instance ed x y ≡ true) ↔ OneInstance ed y x
  unfolding same_instance same_tag
  instance_law x y = (to, from)
    where
      to : same_instance ed x y ≡ true → OneInstance ed y x
      to e =
          let h = and_both (eqb (row_of_line ed y) (row_of_line ed x)) (same_tag (altid_of y) (altid_of x)) e in
          let t = same_tag_lem (altid_of y) (altid_of x) h.1 in
          alike (eqb-true (row_of_line ed y) (row_of_line ed x) h.0) t.1 t.2

      from : OneInstance ed y x → same_instance ed x y ≡ true
      from (alike {v = v} r a b) = rw (eq-eqb (row_of_line ed y) (row_of_line ed x) r, a, b) (is_equal v)

  apart_to : (x : Line) (ys : List Line) → any (same_instance ed x) ys ≡ false → Each (λ y. OneInstance ed y x → ⊥) ys
  unfolding any Each
  apart_to x [] e = tt
  apart_to x (y ∷ ys) e = (
    λ o. false≢true (sym (or_none_left (same_instance ed x y) (any (same_instance ed x) ys) e) ∙ (instance_law x y).1 o),
    apart_to x ys (or_none_right (same_instance ed x y) (any (same_instance ed x) ys) e),
  )

  apart_from : (x : Line) (ys : List Line) → Each (λ y. OneInstance ed y x → ⊥) ys → any (same_instance ed x) ys ≡ false
  unfolding any Each
  apart_from x [] h = refl
  apart_from x (y ∷ ys) h =
      by (same_instance ed x y) (λ e. absurd (h.0 ((instance_law x y).0 e))) (λ e. rw e (apart_from x ys h.1))

  -- none of the lines is of the instance of x
  pub apart_law : (x : Line) (ys : List Line) → (any (same_instance ed x) ys ≡ false) ↔ Each (λ y. OneInstance ed y x → ⊥) ys
  apart_law x ys = (apart_to x ys, apart_from x ys)

  pub any_instance : (x : Line) (t : Option (List ℕ)) (ys : List Line) → Tagged ys (row_of_line ed x) t
      → any (same_instance ed x) ys ≡ (any (of_row ed (row_of_line ed x)) ys && same_tag t (altid_of x))
  unfolding any Each same_instance
  any_instance x t [] h = refl
  any_instance x t (y ∷ ys) h =
      by (eqb (row_of_line ed y) (row_of_line ed x))
      (λ e. rw (e, h.0 (eqb-true (row_of_line ed y) (row_of_line ed x) e), any_instance x t ys h.1) (absorb (same_tag t (altid_of x)) (any (of_row ed (row_of_line ed x)) ys)))
      (λ e. rw (e, any_instance x t ys h.1))
    where
      absorb : (s a : Bool) → (s || (a && s)) ≡ s
      absorb true a = refl
      absorb false true = refl
      absorb false false = refl

  -- how far a card has come
  unfoldable pub phase_of : List Line → ℕ
  phase_of [] = 0
  phase_of (x ∷ []) = 1
  phase_of (x ∷ y ∷ ys) = 2

  -- the state c of a card that has had the lines ys
  pub record Known (c : Card) (ys : List Line) : Type 0 where
    pub phase : c.phase ≡ phase_of ys
    pub named : c.has_fn ≡ any (of_row ed 6) ys
    pub member : c.has_member ≡ any (of_row ed 24) ys
    pub group : c.is_group ≡ any (says_group ed) ys
    pub seen : (row : ℕ) → row < 44 → is_seen (once_flag row) c.seen ≡ (single row && any (of_row ed row) ys)
    pub long : length c.tags ≡ 10
    pub tags : (row : ℕ) → row < 44 → single row ≡ true → Tagged ys row (tag_of c.tags (once_at row))
    pub blank : (row : ℕ) → row < 44 → single row ≡ true → any (of_row ed row) ys ≡ false → tag_of c.tags (once_at row) ≡ none

  -- a line that starts no second instance
  abbrev pub Joins : List Line → Line → Type 0
  Joins ys x = single (row_of_line ed x) ≡ true → 1 ≤ lines_of ed (row_of_line ed x) ys → any (same_instance ed x) ys ≡ true

  and-false : (t : Bool) → (t && false) ≡ false
  and-false true = refl
  and-false false = refl

  blank_at : (n i : ℕ) → get_or {A = Option (List ℕ)} (replicate n none) i none ≡ none
  blank_at zero i = refl
  blank_at (suc n) zero = refl
  blank_at (suc n) (suc i) = blank_at n i

  no_tags : (k : ℕ) → tag_of untagged k ≡ none
  unfolding tag_of
  no_tags k = blank_at 10 (k - 1)

  pub fresh_known : Known fresh_card []
  unfolding phase_of any Each
  fresh_known = record {
    phase = refl;
    named = refl;
    member = refl;
    group = refl;
    seen = λ row h. none_seen row h ∙ sym (and-false (single row));
    long = refl;
    tags = λ row h e. tt;
    blank = λ row h e f. no_tags (once_at row);
  }

  -- a line stands in its place exactly where the state has it in order
  order_of : (ys : List Line) (x : Line) → (in_order (phase_of ys) (row_of_line ed x) ≡ true) ↔ InPlace ed ys x
  unfolding in_order phase_of InPlace
  order_of [] x = (λ e. eqb-true (row_of_line ed x) 1 e, λ e. eq-eqb (row_of_line ed x) 1 e)
  order_of (b ∷ []) x = (λ e. eqb-true (row_of_line ed x) 34 e, λ e. eq-eqb (row_of_line ed x) 34 e)
  order_of (b ∷ v ∷ ys) x = (
    λ e.
        let h = and_both (not (eqb (row_of_line ed x) 1)) (not (eqb (row_of_line ed x) 34)) e in
        (eqb-false (row_of_line ed x) 1 (not-true _ h.0), eqb-false (row_of_line ed x) 34 (not-true _ h.1)),
    λ h. rw (ne_eqb (row_of_line ed x) 1 h.0, ne_eqb (row_of_line ed x) 34 h.1),
  )

  pub order_law : (c : Card) (ys : List Line) (x : Line) → Known c ys → (in_order c.phase (row_of_line ed x) ≡ true) ↔ InPlace ed ys x
  order_law c ys x k = rw k.phase (order_of ys x)

  phase_next : (ys : List Line) (x : Line) → InPlace ed ys x → phase_after (row_of_line ed x) ≡ phase_of (ys ++ (x ∷ []))
  unfolding phase_after phase_of InPlace
  phase_next [] x h = rw h
  phase_next (b ∷ []) x h = rw h
  phase_next (b ∷ v ∷ ys) x h = rw (ne_eqb (row_of_line ed x) 1 h.0)

  -- the state after a line that is no END
  abbrev pub line_card : Card → Line → Card
  line_card c x = next_card c (row_of_line ed x) (altid_of x) (is_group x.value)

  seen_next : (s : ℕ) (ys : List Line) (x : Line) (row : ℕ) → row < 44 → is_seen (once_flag row) s ≡ (single row && any (of_row ed row) ys)
      → is_seen (once_flag row) (bit_or s (once_flag (row_of_line ed x))) ≡ (single row && any (of_row ed row) (ys ++ (x ∷ [])))
  seen_next s ys x row h e =
      seen_after s row (row_of_line ed x) h (row_of_line_lem ed x)
      ∙ ap (λ (t : Bool). t || (single row && eqb (row_of_line ed x) row)) e
      ∙ sym (and-or_distrib_left (single row) (any (of_row ed row) ys) (eqb (row_of_line ed x) row))
      ∙ ap (λ (t : Bool). single row && t) (sym (any_last (of_row ed row) ys x))

  -- tags after a line: those of other rows stay
  other_tag : (ts : List (Option (List ℕ))) (j k : ℕ) (a : Option (List ℕ)) → 0 < k → (k ≡ j → ⊥) → tag_of (tagged ts j a) k ≡ tag_of ts k
  unfolding tag_of tagged
  other_tag ts zero k a p h = refl
  other_tag ts (suc j) k none p h = refl
  other_tag ts (suc j) k (some v) p h = get_or-set_other ts j (k - 1) (some v) none (λ e. h (omega arith))

  own_tag : (ts : List (Option (List ℕ))) (k : ℕ) (a : Option (List ℕ)) → 0 < k → k ≤ length ts → tag_of ts k ≡ none → tag_of (tagged ts k a) k ≡ a
  unfolding tag_of tagged
  own_tag ts zero a p h e = absurd (omega arith)
  own_tag ts (suc k) none p h e = e
  own_tag ts (suc k) (some v) p h e =
      let back : suc k - 1 ≡ k = omega arith in
      rw back (get_or-set_same ts k (some v) none (omega arith))

  tagged_long : (ts : List (Option (List ℕ))) (k : ℕ) (a : Option (List ℕ)) → length (tagged ts k a) ≡ length ts
  unfolding tagged
  tagged_long ts zero a = refl
  tagged_long ts (suc k) none = refl
  tagged_long ts (suc k) (some v) = length-set ts k (some v)

  -- a line after which the card goes on
  module _ (c : Card) (ys : List Line) (x : Line) (k : Known c ys) (j : Joins ys x) where
    abbrev before_it : Bool
    before_it = is_seen (once_flag (row_of_line ed x)) c.seen

    abbrev tags_then : List (Option (List ℕ))
    tags_then = pick before_it c.tags (tagged c.tags (once_at (row_of_line ed x)) (altid_of x))

    seen_is : before_it ≡ (single (row_of_line ed x) && any (of_row ed (row_of_line ed x)) ys)
    seen_is = k.seen (row_of_line ed x) (row_of_line_lem ed x)

    -- where a line of the property was seen, this one has its ALTID
    joined_tag : before_it ≡ true → altid_of x ≡ tag_of c.tags (once_at (row_of_line ed x))
    joined_tag e =
        let h = and_both (single (row_of_line ed x)) (any (of_row ed (row_of_line ed x)) ys) (sym seen_is ∙ e) in
        let t = tag_of c.tags (once_at (row_of_line ed x)) in
        let o = any_instance x t ys (k.tags (row_of_line ed x) (row_of_line_lem ed x) h.0) in
        let s = and_both (any (of_row ed (row_of_line ed x)) ys) (same_tag t (altid_of x)) (sym o ∙ j h.0 (any_some (of_row ed (row_of_line ed x)) ys h.1)) in
        let v = same_tag_lem t (altid_of x) s.1 in
        v.2 ∙ sym v.1

    -- its own tag
    own_then : single (row_of_line ed x) ≡ true → altid_of x ≡ tag_of tags_then (once_at (row_of_line ed x))
    own_then e =
        by before_it
        (λ s. rw s (joined_tag s))
        (λ s.
        let n : any (of_row ed (row_of_line ed x)) ys ≡ false = sym (ap (λ (t : Bool). t && any (of_row ed (row_of_line ed x)) ys) e) ∙ sym seen_is ∙ s in
        let p = once_some (row_of_line ed x) (row_of_line_lem ed x) e in
        rw s (sym (own_tag c.tags (once_at (row_of_line ed x)) (altid_of x) p (rw k.long (once_ten (row_of_line ed x) (row_of_line_lem ed x))) (k.blank (row_of_line ed x) (row_of_line_lem ed x) e n))))

    -- the tag of another row
    other_then : (row : ℕ) → row < 44 → single row ≡ true → (row_of_line ed x ≡ row → ⊥) → tag_of tags_then (once_at row) ≡ tag_of c.tags (once_at row)
    other_then row h e f =
        by before_it
        (λ s. rw s)
        (λ s. rw s (other_tag c.tags (once_at (row_of_line ed x)) (once_at row) (altid_of x) (once_some row h e)
        (λ q. f (sym (once_own row (row_of_line ed x) h (row_of_line_lem ed x) e q)))))

    long_then : length tags_then ≡ 10
    long_then = by before_it (λ s. rw s k.long) (λ s. rw s (tagged_long c.tags (once_at (row_of_line ed x)) (altid_of x) ∙ k.long))

    -- the lines before it, of its own row
    retag : single (row_of_line ed x) ≡ true → Tagged ys (row_of_line ed x) (tag_of tags_then (once_at (row_of_line ed x)))
    retag e =
        by before_it
        (λ s. rw s (k.tags (row_of_line ed x) (row_of_line_lem ed x) e))
        (λ s. none_tagged ys (row_of_line ed x) (tag_of tags_then (once_at (row_of_line ed x))) (sym (ap (λ (t : Bool). t && any (of_row ed (row_of_line ed x)) ys) e) ∙ sym seen_is ∙ s))

    tags_next : (row : ℕ) → row < 44 → single row ≡ true → Tagged (ys ++ (x ∷ [])) row (tag_of tags_then (once_at row))
    tags_next row h e =
        by (eqb (row_of_line ed x) row)
        (λ t.
        let q = eqb-true (row_of_line ed x) row t in
        let e' = ap single q ∙ e in
        subst (λ (r : ℕ). Tagged (ys ++ (x ∷ [])) r (tag_of tags_then (once_at r))) q
        (each_last (λ y. row_of_line ed y ≡ row_of_line ed x → altid_of y ≡ tag_of tags_then (once_at (row_of_line ed x))) ys x (retag e') (λ r. own_then e')))
        (λ t.
        let f = eqb-false (row_of_line ed x) row t in
        each_last (λ y. row_of_line ed y ≡ row → altid_of y ≡ tag_of tags_then (once_at row)) ys x
        (rw (other_then row h e f) (k.tags row h e)) (λ r. absurd (f r)))

    blank_next : (row : ℕ) → row < 44 → single row ≡ true → any (of_row ed row) (ys ++ (x ∷ [])) ≡ false → tag_of tags_then (once_at row) ≡ none
    blank_next row h e f =
        let g = sym (any_last (of_row ed row) ys x) ∙ f in
        other_then row h e (λ r. false≢true (sym (or_none_right (any (of_row ed row) ys) (of_row ed row x) g) ∙ eq-eqb (row_of_line ed x) row r))
        ∙ k.blank row h e (or_none_left (any (of_row ed row) ys) (of_row ed row x) g)

    pub line_known : InPlace ed ys x → Known (line_card c x) (ys ++ (x ∷ []))
    unfolding next_card
    line_known h = record {
      phase = phase_next ys x h;
      named = ap (λ (t : Bool). t || eqb (row_of_line ed x) 6) k.named ∙ sym (any_last (of_row ed 6) ys x);
      member = ap (λ (t : Bool). t || eqb (row_of_line ed x) 24) k.member ∙ sym (any_last (of_row ed 24) ys x);
      group = ap (λ (t : Bool). t || (eqb (row_of_line ed x) 4 && is_group x.value)) k.group ∙ sym (any_last (says_group ed) ys x);
      seen = λ row r. seen_next c.seen ys x row r (k.seen row r);
      long = long_then;
      tags = tags_next;
      blank = blank_next;
    }

  -- the state after END
  abbrev pub end_card : Card → Card
  end_card c = closed_card c

  pub end_known : (c : Card) → Known (end_card c) []
  unfolding phase_of any Each
  end_known c = record { phase = refl; named = refl; member = refl; group = refl; seen = fresh_known.seen; long = refl; tags = λ row h e. tt; blank = fresh_known.blank }

  module _ (c : Card) (ys : List Line) (k : Known c ys) (at : ℕ) (x : Line) where
    second_is : second_instance c (row_of_line ed x) (altid_of x) ≡ (single (row_of_line ed x) && (any (of_row ed (row_of_line ed x)) ys && not (any (same_instance ed x) ys)))
    unfolding second_instance
    second_is = by (single (row_of_line ed x)) marked unmarked
      where
        marked : single (row_of_line ed x) ≡ true → (is_seen (once_flag (row_of_line ed x)) c.seen && not (same_tag (tag_of c.tags (once_at (row_of_line ed x))) (altid_of x)))
            ≡ (single (row_of_line ed x) && (any (of_row ed (row_of_line ed x)) ys && not (any (same_instance ed x) ys)))
        marked e =
            rw (k.seen (row_of_line ed x) (row_of_line_lem ed x), any_instance x (tag_of c.tags (once_at (row_of_line ed x))) ys (k.tags (row_of_line ed x) (row_of_line_lem ed x) e), e)
            (each (any (of_row ed (row_of_line ed x)) ys) (same_tag (tag_of c.tags (once_at (row_of_line ed x))) (altid_of x)))
          where
            each : (a b : Bool) → (a && not b) ≡ (a && not (a && b))
            each true b = refl
            each false b = refl

        unmarked : single (row_of_line ed x) ≡ false → (is_seen (once_flag (row_of_line ed x)) c.seen && not (same_tag (tag_of c.tags (once_at (row_of_line ed x))) (altid_of x)))
            ≡ (single (row_of_line ed x) && (any (of_row ed (row_of_line ed x)) ys && not (any (same_instance ed x) ys)))
        unmarked e = rw (k.seen (row_of_line ed x) (row_of_line_lem ed x), e)

    pub note_next : Joins ys x → noted c at (row_of_line ed x) (altid_of x) (is_group x.value) ≡ Next (line_card c x)
    unfolding noted
    note_next j = rw (second_is ∙ first (single (row_of_line ed x)) refl)
      where
        first : (t : Bool) → single (row_of_line ed x) ≡ t → (t && (any (of_row ed (row_of_line ed x)) ys && not (any (same_instance ed x) ys))) ≡ false
        first false e = refl
        first true e = by (any (of_row ed (row_of_line ed x)) ys) (λ o. rw (o, j e (any_some (of_row ed (row_of_line ed x)) ys o))) (λ o. rw o)

    pub note_second : single (row_of_line ed x) ≡ true → 1 ≤ lines_of ed (row_of_line ed x) ys → any (same_instance ed x) ys ≡ false
        → noted c at (row_of_line ed x) (altid_of x) (is_group x.value) ≡ Refused 10 at
    unfolding noted
    note_second e h f = rw (second_is, e, some_any (of_row ed (row_of_line ed x)) ys h, f)

    pub close_next : 1 ≤ lines_of ed 6 ys → (1 ≤ lines_of ed 24 ys → 1 ≤ group_lines ed ys) → closed c at ≡ Next (end_card c)
    unfolding closed
    close_next h f = rw (k.named, some_any (of_row ed 6) ys h, k.member, k.group, grouped (any (of_row ed 24) ys) refl)
      where
        grouped : (t : Bool) → any (of_row ed 24) ys ≡ t → (t && not (any (says_group ed) ys)) ≡ false
        grouped true e = ap not (some_any (says_group ed) ys (f (any_some (of_row ed 24) ys e)))
        grouped false e = refl

    pub close_nameless : lines_of ed 6 ys ≡ 0 → closed c at ≡ Refused 11 at
    unfolding closed
    close_nameless h = rw (k.named, none_any (of_row ed 6) ys h)

    pub close_groupless : 1 ≤ lines_of ed 6 ys → 1 ≤ lines_of ed 24 ys → group_lines ed ys ≡ 0 → closed c at ≡ Refused 12 at
    unfolding closed
    close_groupless h g f = rw (k.named, some_any (of_row ed 6) ys h, k.member, some_any (of_row ed 24) ys g, k.group, none_any (says_group ed) ys f)

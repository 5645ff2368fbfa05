-- The judgement of one line, in both directions: what refuses it, and how the card goes on where nothing does. Assumes nothing.
use mathlib.Core.Path.{◌≡◌, refl, sym, ap, subst, ◌∙◌}
use mathlib.Core.Bool.{Bool, true, false, not, ◌&&◌, ◌||◌, false≢true}
use mathlib.Core.List.{List, [], ◌∷◌}
use mathlib.Core.Logic.{inl, inr}
use Prim.Native.Nat.{ℕ, ◌+◌, ◌≤◌}
use native.Mathlib.Omega.{arith}
use lib.Dec.{eqb, ltb}
use lib.ListN.{length}
use borrow.Author.Tests.{eqb-true, eqb-false, eq-eqb, ne_eqb, lt-ltb, ltb-true}
use Rattle.octets.specs.Pick.{pick}
use Rattle.utf8.specs.Characters.{allowed, first_bad}
use Rattle.utf8_laws.proofs.Utf8.{bad_at, bad_at_only}
use Rattle.line_parser.specs.Parse.{Parse, got, bad}
use Rattle.line_parser.specs.Grammar.{Line, front}
use Rattle.line_parser.specs.Rule.{parse_line}
use Rattle.line_parameters.proofs.Law.{line_law}
use Rattle.line_laws.proofs.FirstLaws.{first_fault_law}
use Rattle.property_table.specs.Rows.{rows, newer, all_rows, row_at, single, framing, is_group}
use Rattle.value_kinds.specs.Kinds.{value_in}
use Rattle.value_kinds.specs.declared.Fault.{Fault}
use Rattle.value_kinds.specs.declared.Fault.TheVariants.{Fits, Breaks}
use Rattle.octets.proofs.Bools.{by}
use Rattle.card_state.specs.State.{Card, Step, Next, Refused, Flawed, in_order, noted, closed}
use Rattle.card_line.specs.Parts.{row_of_line, kind_of_line, altid_of}
use Rattle.card_line.proofs.PartLaws.{kind_of_line_lem}
use Rattle.card_judge.specs.Judge.{laden, entered, fitting, judge_parts, judge_parsed, judge_line}
use Rattle.reader_grammar.specs.Cards.{Clean, Bare, of_row, lines_of, says_group, group_lines, any, same_instance}
use Rattle.reader_grammar.specs.Refusals.{Reads, InPlace, Framing, Unladen, Sound, Where, at_start, at_octet, LineRefused, octet, rule, order, laden as heavy, value, second, nameless, no_group}
use Rattle.reader_grammar.proofs.ValueLaws.{value_fits, value_dead, clean_law}
use Rattle.reader_grammar.proofs.Known.{any_some, any_none, apart_law, Known, Joins, order_law, line_card, end_card, note_next, note_second, close_next, close_nameless, close_groupless}
use Rattle.property_table.specs.declared.Edition.{Edition}

module _ (ed : Edition) where
  -- BEGIN, VERSION and END
  framing_to : (row : ℕ) → Framing row → framing row ≡ true
  unfolding framing
  framing_to row (inl e) = rw e
  framing_to row (inr (inl e)) = rw e
  framing_to row (inr (inr e)) = rw e

  framing_from : (row : ℕ) → framing row ≡ true → Framing row
  unfolding framing
  framing_from row e = go (eqb row 1) (eqb row 34) (eqb row 2) refl refl refl e
    where
      go : (a b c : Bool) → eqb row 1 ≡ a → eqb row 34 ≡ b → eqb row 2 ≡ c → (a || (b || c)) ≡ true → Framing row
      go true b c p q r e = inl (eqb-true row 1 p)
      go false true c p q r e = inr (inl (eqb-true row 34 q))
      go false false true p q r e = inr (inr (eqb-true row 2 r))
      go false false false p q r e = absurd (false≢true e)

  empty : {A : Type 0} (xs : List A) → eqb (length xs) 0 ≡ true → xs ≡ []
  empty [] e = refl
  empty (x ∷ xs) e = absurd (omega (arith, eqb-true (length (x ∷ xs)) 0 e))

  module _ (x : Line) where
    unladen_to : laden (row_of_line ed x) (length x.group) (length x.params) ≡ false → Unladen ed x
    unfolding laden
    unladen_to e f = go (eqb (length x.group) 0) (eqb (length x.params) 0) refl refl (rw (framing_to (row_of_line ed x) f) at e)
      where
        go : (a b : Bool) → eqb (length x.group) 0 ≡ a → eqb (length x.params) 0 ≡ b → (not a || not b) ≡ false → Bare x
        go true true p q e = record { group = empty x.group p; params = empty x.params q }
        go true false p q e = absurd (false≢true (sym e))
        go false b p q e = absurd (false≢true (sym e))

    unladen_from : Unladen ed x → laden (row_of_line ed x) (length x.group) (length x.params) ≡ false
    unfolding laden
    unladen_from f = go (framing (row_of_line ed x)) refl
      where
        go : (t : Bool) → framing (row_of_line ed x) ≡ t → (t && (not (eqb (length x.group) 0) || not (eqb (length x.params) 0))) ≡ false
        go true e = let b = f (framing_from (row_of_line ed x) e) in rw (b.group, b.params)
        go false e = refl

  -- END is not marked *1
  end_often : single 2 ≡ false
  unfolding single row_at rows newer all_rows
  end_often = refl

  -- a refusal of a line that starts at p, with its place
  abbrev pub stopped : ℕ → ℕ → Where → Step
  stopped p n at_start = Refused n p
  stopped p n (at_octet o) = Flawed n o

  -- what a judged line leads to, after the card's lines ys: a refusal at its place, another state of the card, or the card's end
  pub data Judged (c : Card) (ys : List Line) (at : ℕ) (l : List ℕ) : Step → Type 0 where
    refused : {n : ℕ} {w : Where} → LineRefused ed ys l n w → Judged c ys at l (stopped at n w)
    goes_on : (x : Line) → Sound ed ys l x → (row_of_line ed x ≡ 2 → ⊥) → Joins ed ys x
        → Judged c ys at l (Next (line_card ed c x))
    ends : (x : Line) → Sound ed ys l x → row_of_line ed x ≡ 2 → 1 ≤ lines_of ed 6 ys → (1 ≤ lines_of ed 24 ys → 1 ≤ group_lines ed ys)
        → Judged c ys at l (Next (end_card ed c))

  module _ (c : Card) (ys : List Line) (k : Known ed c ys) (at : ℕ) (l : List ℕ) where
    abbrev judged_parts : Line → Step
    judged_parts x = judge_parts ed c at (row_of_line ed x) (length x.group) (length x.params) (kind_of_line ed x) (altid_of x) (length (front x)) x.value

    after_clean : Clean l → judge_line ed c at l ≡ judge_parsed ed c at (parse_line l)
    unfolding judge_line
    after_clean h = rw ((clean_law ed l).1 h)

    after_reads : (x : Line) → Reads l x → judge_line ed c at l ≡ judged_parts x
    after_reads x r =
        after_clean (rw r.text r.readable.clean)
        ∙ ap (judge_parsed ed c at) ((line_law l x (length (front x))).1 (r.readable.formed, r.text, refl))

    after_order : (x : Line) → Reads l x → InPlace ed ys x
        → judge_line ed c at l
        ≡ pick (laden (row_of_line ed x) (length x.group) (length x.params)) (Refused 8 at)
        (fitting (length (front x)) (value_in ed (row_of_line ed x) (kind_of_line ed x) x.value) (entered c at (row_of_line ed x) (altid_of x) x.value))
    unfolding judge_parts
    after_order x r h = after_reads x r ∙ rw ((order_law ed c ys x k).1 h)

    after_laden : (x : Line) → Reads l x → InPlace ed ys x → Unladen ed x
        → judge_line ed c at l ≡ fitting (length (front x)) (value_in ed (row_of_line ed x) (kind_of_line ed x) x.value) (entered c at (row_of_line ed x) (altid_of x) x.value)
    after_laden x r h u = after_order x r h ∙ rw (unladen_from x u)

    after_value : (x : Line) → Sound ed ys l x → judge_line ed c at l ≡ entered c at (row_of_line ed x) (altid_of x) x.value
    after_value x s =
        after_laden x s.reads s.place s.unladen
        ∙ ap (λ (f : Fault). fitting (length (front x)) f (entered c at (row_of_line ed x) (altid_of x) x.value)) ((value_fits ed (row_of_line ed x) (kind_of_line ed x) x.value).1 s.fits)

    at_end : (x : Line) → Sound ed ys l x → row_of_line ed x ≡ 2 → judge_line ed c at l ≡ closed c at
    unfolding entered
    at_end x s e = after_value x s ∙ rw (eq-eqb (row_of_line ed x) 2 e)

    at_line : (x : Line) → Sound ed ys l x → (row_of_line ed x ≡ 2 → ⊥) → judge_line ed c at l ≡ noted c at (row_of_line ed x) (altid_of x) (is_group x.value)
    unfolding entered
    at_line x s e = after_value x s ∙ rw (ne_eqb (row_of_line ed x) 2 e)

    -- a test that is passed where its failing says what is not so
    abbrev passes : {A : Type 0} (t : Bool) → (t ≡ false → A) → (A → ⊥) → t ≡ true
    passes t f g = by t (λ e. e) (λ e. absurd (g (f e)))

    -- and one that is not
    abbrev fails : {A : Type 0} (t : Bool) → (t ≡ true → A) → (A → ⊥) → t ≡ false
    fails t f g = by t (λ e. absurd (g (f e))) (λ e. e)

    refusal : {n : ℕ} {w : Where} → LineRefused ed ys l n w → judge_line ed c at l ≡ stopped at n w
    unfolding judge_line judge_parts
    refusal (octet {o = o} b) = rw (bad_at_only (allowed false) l b, lt-ltb o (length l) b.inside)
    refusal (rule {n = e} h f) = after_clean h ∙ ap (judge_parsed ed c at) ((first_fault_law l e).1 f)
    refusal (order x r f) = after_reads x r ∙ rw (fails (in_order c.phase (row_of_line ed x)) (order_law ed c ys x k).0 f)
    refusal (heavy x r h f) =
        after_order x r h ∙ rw (passes (laden (row_of_line ed x) (length x.group) (length x.params)) (unladen_to x) f)
    refusal (value {o = o} x r h u d) =
        after_laden x r h u
        ∙ ap (λ (g : Fault). fitting (length (front x)) g (entered c at (row_of_line ed x) (altid_of x) x.value))
        ((value_dead ed (row_of_line ed x) (kind_of_line ed x) x.value o (kind_of_line_lem ed x)).1 d)
    refusal (second x s e h f) =
        at_line x s (λ r. false≢true (sym end_often ∙ sym (ap single r) ∙ e)) ∙ note_second ed c ys k at x e h ((apart_law ed x ys).1 f)
    refusal (nameless x s e h) = at_end x s e ∙ close_nameless ed c ys k at x h
    refusal (no_group x s e h g f) = at_end x s e ∙ close_groupless ed c ys k at x h g f

    -- each judgement is the one that is made
    pub outcome : {s : Step} → Judged c ys at l s → judge_line ed c at l ≡ s
    outcome (refused f) = refusal f
    outcome (goes_on x s e f) = at_line x s e ∙ note_next ed c ys k at x f
    outcome (ends x s e h f) = at_end x s e ∙ close_next ed c ys k at x h f

    abbrev Decided : Type 0
    Decided = (s : Step) × Judged c ys at l s

    end_decided : (x : Line) → Sound ed ys l x → row_of_line ed x ≡ 2 → Decided
    end_decided x s e =
        by (any (of_row ed 6) ys)
        (λ t. by (any (of_row ed 24) ys)
        (λ u. by (any (says_group ed) ys)
        (λ v. (Next (end_card ed c), ends x s e (any_some ed (of_row ed 6) ys t) (λ h. any_some ed (says_group ed) ys v)))
        (λ v. (Refused 12 at, refused (no_group x s e (any_some ed (of_row ed 6) ys t) (any_some ed (of_row ed 24) ys u) (any_none ed (says_group ed) ys v)))))
        (λ u. (Next (end_card ed c), ends x s e (any_some ed (of_row ed 6) ys t) (λ h. absurd (omega (arith, any_none ed (of_row ed 24) ys u))))))
        (λ t. (Refused 11 at, refused (nameless x s e (any_none ed (of_row ed 6) ys t))))

    line_decided : (x : Line) → Sound ed ys l x → (row_of_line ed x ≡ 2 → ⊥) → Decided
    line_decided x s e =
        by (single (row_of_line ed x))
        (λ t. by (any (of_row ed (row_of_line ed x)) ys)
        (λ u. by (any (same_instance ed x) ys)
        (λ v. (Next (line_card ed c x), goes_on x s e (λ h m. v)))
        (λ v. (Refused 10 at, refused (second x s t (any_some ed (of_row ed (row_of_line ed x)) ys u) ((apart_law ed x ys).0 v)))))
        (λ u. (Next (line_card ed c x), goes_on x s e (λ h m. absurd (omega (arith, m, any_none ed (of_row ed (row_of_line ed x)) ys u))))))
        (λ t. (Next (line_card ed c x), goes_on x s e (λ h m. absurd (false≢true (sym t ∙ h)))))

    value_decided : (x : Line) → Reads l x → InPlace ed ys x → Unladen ed x → (f : Fault) → value_in ed (row_of_line ed x) (kind_of_line ed x) x.value ≡ f → Decided
    value_decided x r h u Fits e =
        let s : Sound ed ys l x = record { reads = r; place = h; unladen = u; fits = (value_fits ed (row_of_line ed x) (kind_of_line ed x) x.value).0 e } in
        by (eqb (row_of_line ed x) 2) (λ t. end_decided x s (eqb-true (row_of_line ed x) 2 t)) (λ t. line_decided x s (eqb-false (row_of_line ed x) 2 t))
    value_decided x r h u (Breaks o) e = (Flawed 7 (length (front x) + o), refused (value x r h u ((value_dead ed (row_of_line ed x) (kind_of_line ed x) x.value o (kind_of_line_lem ed x)).0 e)))

    reads_decided : (x : Line) → Reads l x → Decided
    reads_decided x r =
        by (in_order c.phase (row_of_line ed x))
        (λ t.
        let h = (order_law ed c ys x k).0 t in
        by (laden (row_of_line ed x) (length x.group) (length x.params))
        (λ u. (Refused 8 at, refused (heavy x r h (λ f. false≢true (sym (unladen_from x f) ∙ u)))))
        (λ u. value_decided x r h (unladen_to x u) (value_in ed (row_of_line ed x) (kind_of_line ed x) x.value) refl))
        (λ t. (Refused 9 at, refused (order x r (λ h. false≢true (sym t ∙ (order_law ed c ys x k).1 h)))))

    parse_decided : Clean l → (m : Parse Line) → parse_line l ≡ m → Decided
    parse_decided h (bad e) p = (Refused e at, refused (rule h ((first_fault_law l e).0 p)))
    parse_decided h (got x n) p =
        let w = (line_law l x n).0 p in
        reads_decided x (record { text = w.1; readable = record { clean = subst Clean w.1 h; formed = w.0 } })

    -- every line is judged in one of these ways
    pub decided : Decided
    decided =
        by (ltb (first_bad (allowed false) l) (length l))
        (λ t. (Flawed 5 (first_bad (allowed false) l), refused (octet (bad_at (allowed false) l (ltb-true (first_bad (allowed false) l) (length l) t)))))
        (λ t. parse_decided ((clean_law ed l).0 t) (parse_line l) refl)

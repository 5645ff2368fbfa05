-- What is taken in the reader accepts as one card. Assumes nothing.
use mathlib.Core.Path.{◌≡◌, refl, sym, ap, subst, ◌∙◌}
use mathlib.Core.Bool.{true, false≢true}
use mathlib.Core.List.{List, [], ◌∷◌, ◌++◌, map, append-nil, append_assoc}
use Prim.Native.Nat.{ℕ, suc, ◌≤◌}
use native.Mathlib.Omega.{arith}
use lib.Dec.{eqb}
use lib.ListN.{length, take}
use lib.Seq.{take-append_seam}
use borrow.Author.Tests.{eqb-true, eqb-false}
use Rattle.octets.specs.Room.{filled}
use Rattle.octets.specs.Room.{Wrote}
use Rattle.octets.proofs.Bools.{by}
use Rattle.line_parser.specs.Grammar.{Line, Each, render}
use Rattle.property_table.specs.declared.Edition.TheVariants.{First}
use Rattle.property_table.specs.Rows.{rows, newer, all_rows, row_at, single}
use Rattle.card_line.specs.Parts.{row_of_line, kind_of_line}
use Rattle.folder_line.specs.Pieces.{folded, pieces, joined, folded_lines}
use Rattle.folder_laws.proofs.BackLaws.{whole_line}
use Rattle.reader.specs.Outcome.{judge_of}
use Rattle.reader.specs.Outcome.{Accepted}
use Rattle.reader_grammar.specs.Values.{OfKind}
use Rattle.reader_grammar.specs.Cards.{Readable, Inside, Versions, Once, Body, CardLines, Cards, count, lines_of}
use Rattle.reader_grammar.specs.Cards as grammar
use Rattle.reader_grammar.specs.Inputs.{Written, none, more, InputOf}
use Rattle.reader_grammar.proofs.BegunLaws.{each_join, each_split}
use Rattle.reader_grammar.proofs.InstanceLaws.{instances_few}
use Rattle.reader_grammar.proofs.Accepted.{accepted_law}
use Rattle.version3_parameters.specs.declared.Way.{Way}
use Rattle.version3_parameters.specs.declared.Way.TheVariants.{Inward}
use Rattle.version3.specs.Outcome.{take_outcome}
use Rattle.version3_laws.specs.Lines.{Eleven, fn, n as the-n, tel, email, adr, note, title, role, org, geo, url, TakenIn, GoesOver, versioned}
use Rattle.version3_laws.specs.Cards.{Pairs, CardBy, card, card_octets, Takes}
use Rattle.version3_laws.specs.Cards as cards
use Rattle.version3_laws.proofs.LineLaws.{eleven_no, value_unbroken, goes_from, goes_eleven}
use Rattle.version3_laws.proofs.NewLines.{row_kept, kind_kept, goes_readable, version_readable}
use Rattle.version3_laws.proofs.WalkLaws.{head_same, head_more}
use Rattle.version3_laws.proofs.TakeLaws.{takes}

-- ---- what is written is the lines, each folded

pub folded_written : (ys : List Line) → Written ys (folded_lines (map render ys))
unfolding folded_lines folded
folded_written [] = none
folded_written (y ∷ ys) =
    subst (Written (y ∷ ys)) (sym (append_assoc (joined (pieces (render y))) (13 ∷ 10 ∷ []) (folded_lines (map render ys)))) (more (whole_line (render y)) (folded_written ys))

-- ---- rows and kinds

module _ (w : Way) where
  pub row_same : (x y : Line) → Readable x → GoesOver w x y → row_of_line First y ≡ row_of_line First x
  row_same x y r h = ap (row_of_line First) (goes_from w x y (value_unbroken x r) h).1 ∙ row_kept w x

  pub kind_same : (x y : Line) → Readable x → GoesOver w x y → kind_of_line First y ≡ kind_of_line First x
  kind_same x y r h = ap (kind_of_line First) (goes_from w x y (value_unbroken x r) h).1 ∙ kind_kept w x

  pub pairs_readable : {us us' : List Line} → Pairs (GoesOver w) us us' → Each Readable us → Each Readable us'
  unfolding Each
  pairs_readable cards.none r = tt
  pairs_readable (cards.more {x = x} {y = y} h p) r = (goes_readable w x y r.0 h, pairs_readable p r.1)

  -- as many lines of each row
  pub pairs_count : (row : ℕ) {us us' : List Line} → Pairs (GoesOver w) us us' → Each Readable us → lines_of First row us' ≡ lines_of First row us
  unfolding Each
  pairs_count row cards.none r = refl
  pairs_count row (cards.more {x = x} {y = y} {xs = xs} {ys = ys} h p) r =
      let e = row_same x y r.0 h in
      by (eqb (row_of_line First x) row)
      (λ q.
      let a = eqb-true (row_of_line First x) row q in
      head_more w row y ys (e ∙ a) ∙ ap suc (pairs_count row p r.1) ∙ sym (head_more w row x xs a))
      (λ q.
      let a = eqb-false (row_of_line First x) row q in
      head_same w row y ys (λ f. a (sym e ∙ f)) ∙ pairs_count row p r.1 ∙ sym (head_same w row x xs a))

  pub pairs_join : {us us' xs xs' : List Line} → Pairs (GoesOver w) us us' → Pairs (GoesOver w) xs xs' → Pairs (GoesOver w) (us ++ xs) (us' ++ xs')
  pairs_join cards.none q = q
  pairs_join (cards.more h p) q = cards.more h (pairs_join p q)

  -- the rows of lines that go over are of the eleven
  pairs_eleven : {us us' : List Line} → Pairs (GoesOver w) us us' → Each Readable us → Each (λ y. Eleven (row_of_line First y)) us'
  unfolding Each
  pairs_eleven cards.none r = tt
  pairs_eleven (cards.more {x = x} {y = y} h p) r = (subst Eleven (sym (row_same x y r.0 h)) (goes_eleven w x y h), pairs_eleven p r.1)

-- N is the one of the eleven that a card has once at most
single_n : (row : ℕ) → Eleven row → single row ≡ true → row ≡ 7
unfolding single row_at all_rows rows newer
single_n row fn e = absurd (false≢true e)
single_n row the-n e = refl
single_n row tel e = absurd (false≢true e)
single_n row email e = absurd (false≢true e)
single_n row adr e = absurd (false≢true e)
single_n row note e = absurd (false≢true e)
single_n row title e = absurd (false≢true e)
single_n row role e = absurd (false≢true e)
single_n row org e = absurd (false≢true e)
single_n row geo e = absurd (false≢true e)
single_n row url e = absurd (false≢true e)

no_member : {row : ℕ} → Eleven row → row ≡ 24 → ⊥
no_member fn e = omega arith
no_member the-n e = omega arith
no_member tel e = omega arith
no_member email e = omega arith
no_member adr e = omega arith
no_member note e = omega arith
no_member title e = omega arith
no_member role e = omega arith
no_member org e = omega arith
no_member geo e = omega arith
no_member url e = omega arith

none_of : (row : ℕ) (ys : List Line) → Each (λ y. Eleven (row_of_line First y)) ys → (Eleven row → ⊥) → lines_of First row ys ≡ 0
unfolding Each count
none_of row [] h n = refl
none_of row (y ∷ ys) h n = head_same Inward row y ys (λ e. n (subst Eleven e h.0)) ∙ none_of row ys h.1 n

once_law : (ys : List Line) → Each (λ y. Eleven (row_of_line First y)) ys → lines_of First 7 ys ≡ 1 → Once First ys
once_law ys h e row s =
    let few = instances_few First row [] ys in
    by (eqb row 7)
    (λ q. omega (arith, few, ap (λ (m : ℕ). lines_of First m ys) (eqb-true row 7 q), e))
    (λ q. omega (arith, few, none_of row ys h (λ k. eqb-false row 7 q (single_n row k s))))

taken_inside : (x y : Line) → Readable x → TakenIn x y → Inside First y
taken_inside x y r h =
    let e = eleven_no (subst Eleven (sym (row_same Inward x y r h)) h.row) in
    record { begin = e.0; version = e.2; end = e.1; value = subst (λ (k : ℕ). OfKind First k y.value) (sym (kind_same Inward x y r h)) h.fits }

all_inside : {us us' : List Line} → Pairs (GoesOver Inward) us us' → Each Readable us → Each (Inside First) us'
unfolding Each
all_inside cards.none r = tt
all_inside (cards.more {x = x} {y = y} h p) r = (taken_inside x y r.0 h, all_inside p r.1)

pub versioned_row : (w : Way) (x : Line) → row_of_line First (versioned w x) ≡ row_of_line First x
unfolding row_of_line
versioned_row w x = refl

-- ---- the card that was taken in

-- a card's lines, those that go over together
pub record Whole (xs ys : List Line) : Type 0 where
  pub card : CardLines First ys
  pub readable : Each Readable ys

pub taken_card : {xs ys : List Line} → CardBy Inward xs ys → Each Readable xs → Whole xs ys
unfolding Each
taken_card (card b v z us us' xs xs' hb hv hz pu px n f) r =
    let ru = each_split First Readable us (v ∷ (xs ++ (z ∷ []))) r.1 in
    let rx = each_split First Readable xs (z ∷ []) ru.1.1 in
    let p = pairs_join Inward pu px in
    let rp = each_join First Readable us xs ru.0 rx.0 in
    let ys = us' ++ xs' in
    let e = pairs_eleven Inward p rp in
    let names : lines_of First 7 ys ≡ 1 = pairs_count Inward 7 p rp ∙ n in
    let body : Body First ys = record {
      inner = record { each = all_inside p rp; once = once_law ys e names };
      named = omega (arith, pairs_count Inward 6 p rp, f);
      members = λ m. absurd (omega (arith, m, none_of 24 ys e (λ k. no_member k refl)));
    } in
    let q : Versions First (versioned Inward v) = record { row = versioned_row Inward v ∙ hv.row; bare = record { group = hv.bare.group; params = hv.bare.params }; value = refl } in
    record {
      card = grammar.card hb q body hz;
      readable = (r.0, (version_readable Inward v ru.1.0, each_join First Readable ys (z ∷ []) (pairs_readable Inward p rp) (rx.1.0, tt)));
    }

-- ---- what was written

pub octets_written : {i room after : List ℕ} {n : ℕ} (h : Takes i room n after) → take n after ≡ card_octets h.lines
octets_written {room = room} h = rw (h.count, h.holds) (take-append_seam (card_octets h.lines) _)

-- octets that are a card's lines folded are an accepted input
pub written_accepted : (ys : List Line) → length (card_octets ys) ≤ 16384 → Each Readable ys → CardLines First ys → InputOf (card_octets ys) 1 (length ys)
unfolding card_octets
written_accepted ys h r c = record {
  short = h;
  lines = ys;
  written = folded_written ys;
  readable = r;
  cards = subst (Cards First 1) (append-nil ys) (grammar.Cards.more c grammar.Cards.none);
  some = omega arith;
  count = refl;
}

-- what is taken in the reader accepts, as one card
pub accepted : (i room after : List ℕ) (n : ℕ) → take_outcome i room ≡ filled (Wrote n) after → (m : ℕ) × (judge_of (take n after) ≡ Accepted 1 m)
accepted i room after n e =
    let h = (takes i room n after).0 e in
    let w = taken_card h.card.card h.card.readable in
    let a = written_accepted h.lines h.short w.readable w.card in
    (length h.lines, ap judge_of (octets_written h) ∙ (accepted_law First (card_octets h.lines) 1 (length h.lines)).1 a)

-- The octets that are written are the card of the relation, folded. Assumes nothing.
use mathlib.Core.Path.{◌≡◌, refl, sym, ap, ◌∙◌}
use mathlib.Core.Bool.{false}
use mathlib.Core.List.{List, [], ◌∷◌, ◌++◌, map, append_assoc, map-append}
use mathlib.Core.Logic.{inl, inr}
use Prim.Native.Nat.{ℕ}
use native.Mathlib.Omega.{arith}
use lib.ListN.{length}
use borrow.Author.Tests.{eq-eqb, ne_eqb, le-ltb}
use Rattle.utf8.specs.Characters.{allowed, first_bad}
use Rattle.line_folds.specs.Logical.{logical_lines}
use Rattle.line_parser.specs.Parse.{Parse, got}
use Rattle.line_parser.specs.Grammar.{Line, Each, front, render}
use Rattle.line_parser.specs.Rule.{parse_line}
use Rattle.line_parameters.proofs.Law.{line_law}
use Rattle.property_table.specs.declared.Edition.TheVariants.{First}
use Rattle.card_line.specs.Parts.{row_of_line}
use Rattle.folder_line.specs.Pieces.{folded_lines}
use Rattle.reader_grammar.specs.Cards.{Readable}
use Rattle.reader_grammar.proofs.BegunLaws.{each_split}
use Rattle.version3_parameters.specs.declared.Way.{Way}
use Rattle.version3_line.specs.Lines.{new_line, written_by}
use Rattle.version3.specs.Card.{turn_of_row, turn_by, turn_of, clear, form_of, forms, arranged, card_text}
use Rattle.version3_laws.specs.Lines.{GoesOver, versioned}
use Rattle.version3_laws.specs.Cards.{Pairs, none, more, CardBy, card, card_octets}
use Rattle.version3_laws.proofs.FairLaws.{clean_fair, fair_bad}
use Rattle.version3_laws.proofs.LineLaws.{value_unbroken, goes_from, goes_eleven, eleven_no, version_row, version_line, frame_line}
use Rattle.version3_laws.proofs.NewLines.{goes_readable, version_readable}

-- a line that may be read is written as it is
clear_readable : (y : Line) → Readable y → clear (render y) ≡ render y
unfolding clear
clear_readable y r = rw (le-ltb (first_bad (allowed false) (render y)) (length (render y)) (omega (arith, fair_bad (clean_fair r.clean))))

read_back : (x : Line) → Readable x → parse_line (render x) ≡ got x (length (front x))
read_back x r = (line_law (render x) x (length (front x))).1 (r.formed, refl, refl)

turn_there : (x : Line) → Readable x → turn_of (render x) ≡ turn_of_row (row_of_line First x)
unfolding turn_of
turn_there x r = ap turn_by (read_back x r)

form_there : (w : Way) (x y : Line) → Readable x → Readable y → new_line w x ≡ y → form_of w (render x) ≡ render y
unfolding form_of
form_there w x y r s e = ap (λ (m : Parse Line). clear (written_by w m)) (read_back x r) ∙ ap (λ (z : Line). clear (render z)) e ∙ clear_readable y s

turn_begin : (row : ℕ) → row ≡ 1 → turn_of_row row ≡ 0
unfolding turn_of_row
turn_begin row e = rw e

turn_version : (row : ℕ) → row ≡ 34 → turn_of_row row ≡ 1
unfolding turn_of_row
turn_version row e = rw e

turn_other : (row : ℕ) → (row ≡ 1 → ⊥) → (row ≡ 34 → ⊥) → turn_of_row row ≡ 2
unfolding turn_of_row
turn_other row n m = rw (ne_eqb row 1 n, ne_eqb row 34 m)

-- a line of a turn, among the lines of that turn and of another
module _ (w : Way) where
  form_yes : (n : ℕ) (l m : List ℕ) (ls : List (List ℕ)) → turn_of l ≡ n → form_of w l ≡ m → forms w n (l ∷ ls) ≡ m ∷ forms w n ls
  unfolding forms
  form_yes n l m ls t f = rw (eq-eqb (turn_of l) n t, f)

  form_no : (n : ℕ) (l : List ℕ) (ls : List (List ℕ)) → (turn_of l ≡ n → ⊥) → forms w n (l ∷ ls) ≡ forms w n ls
  unfolding forms
  form_no n l ls t = rw (ne_eqb (turn_of l) n t)

  form_none : (n : ℕ) → forms w n [] ≡ []
  unfolding forms
  form_none n = refl

  -- lines that go over, and others behind them
  go_others : (n : ℕ) {us us' : List Line} → Pairs (GoesOver w) us us' → Each Readable us → (ls : List (List ℕ)) → (n ≡ 2 → ⊥) → forms w n (map render us ++ ls) ≡ forms w n ls
  unfolding Each
  go_others n none r ls d = refl
  go_others n (more {x = x} {y = y} {xs = xs} h p) r ls d =
      let e = eleven_no (goes_eleven w x y h) in
      form_no n (render x) (map render xs ++ ls) (λ q. d (sym q ∙ turn_there x r.0 ∙ turn_other (row_of_line First x) e.0 e.2))
      ∙ go_others n p r.1 ls d

  go_lines : {us us' : List Line} → Pairs (GoesOver w) us us' → Each Readable us → (ls : List (List ℕ)) → forms w 2 (map render us ++ ls) ≡ map render us' ++ forms w 2 ls
  unfolding Each
  go_lines none r ls = refl
  go_lines (more {x = x} {y = y} {xs = xs} h p) r ls =
      let e = eleven_no (goes_eleven w x y h) in
      let q = (goes_from w x y (value_unbroken x r.0) h).1 in
      form_yes 2 (render x) (render y) (map render xs ++ ls) (turn_there x r.0 ∙ turn_other (row_of_line First x) e.0 e.2) (form_there w x y r.0 (goes_readable w x y r.0 h) (sym q))
      ∙ ap (λ (ms : List (List ℕ)). render y ∷ ms) (go_lines p r.1 ls)

  -- the lines in their places are the lines of the card
  arranged_law : {xs ys : List Line} → CardBy w xs ys → Each Readable xs → arranged w (map render xs) ≡ map render ys
  unfolding arranged Each
  arranged_law (card b v z us us' xs xs' hb hv hz pu px n f) r =
      let ru = each_split First Readable us (v ∷ (xs ++ (z ∷ []))) r.1 in
      let rx = each_split First Readable xs (z ∷ []) ru.1.1 in
      let rv = ru.1.0 in
      let rz = rx.1.0 in
      let tb = turn_there b r.0 ∙ turn_begin (row_of_line First b) hb.row in
      let tv = turn_there v rv ∙ turn_version (row_of_line First v) (version_row w v hv) in
      let tz = turn_there z rz ∙ turn_other (row_of_line First z) (λ q. omega (arith, hz.row)) (λ q. omega (arith, hz.row)) in
      let fb = form_there w b b r.0 r.0 (frame_line w b (inl hb.row) hb.bare) in
      let fv = form_there w v (versioned w v) rv (version_readable w v rv) (version_line w v hv) in
      let fz = form_there w z z rz rz (frame_line w z (inr hz.row) hz.bare) in
      let tail = map render (xs ++ (z ∷ [])) in
      let mid = map render (us ++ (v ∷ (xs ++ (z ∷ [])))) in
      let qu : mid ≡ map render us ++ (render v ∷ tail) = map-append render us (v ∷ (xs ++ (z ∷ []))) in
      let qx : tail ≡ map render xs ++ (render z ∷ []) = map-append render xs (z ∷ []) in
      let zero-z : forms w 0 (render z ∷ []) ≡ [] = form_no 0 (render z) [] (λ q. omega (arith, tz)) ∙ form_none 0 in
      let one-z : forms w 1 (render z ∷ []) ≡ [] = form_no 1 (render z) [] (λ q. omega (arith, tz)) ∙ form_none 1 in
      let two-z : forms w 2 (render z ∷ []) ≡ render z ∷ [] = form_yes 2 (render z) (render z) [] tz fz ∙ ap (λ (ms : List (List ℕ)). render z ∷ ms) (form_none 2) in
      let zeros : forms w 0 (render b ∷ mid) ≡ render b ∷ []
      = form_yes 0 (render b) (render b) mid tb fb
      ∙ ap (λ (ms : List (List ℕ)). render b ∷ ms) (ap (forms w 0) qu ∙ go_others 0 pu ru.0 (render v ∷ tail) (λ q. omega arith) ∙ form_no 0 (render v) tail (λ q. omega (arith, tv))
      ∙ ap (forms w 0) qx ∙ go_others 0 px rx.0 (render z ∷ []) (λ q. omega arith) ∙ zero-z) in
      let ones : forms w 1 (render b ∷ mid) ≡ render (versioned w v) ∷ []
      = form_no 1 (render b) mid (λ q. omega (arith, tb))
      ∙ ap (forms w 1) qu ∙ go_others 1 pu ru.0 (render v ∷ tail) (λ q. omega arith) ∙ form_yes 1 (render v) (render (versioned w v)) tail tv fv
      ∙ ap (λ (ms : List (List ℕ)). render (versioned w v) ∷ ms) (ap (forms w 1) qx ∙ go_others 1 px rx.0 (render z ∷ []) (λ q. omega arith) ∙ one-z) in
      let twos : forms w 2 (render b ∷ mid) ≡ map render us' ++ (map render xs' ++ (render z ∷ []))
      = form_no 2 (render b) mid (λ q. omega (arith, tb))
      ∙ ap (forms w 2) qu ∙ go_lines pu ru.0 (render v ∷ tail)
      ∙ ap (λ (ms : List (List ℕ)). map render us' ++ ms) (form_no 2 (render v) tail (λ q. omega (arith, tv)) ∙ ap (forms w 2) qx ∙ go_lines px rx.0 (render z ∷ [])
      ∙ ap (λ (ms : List (List ℕ)). map render xs' ++ ms) two-z) in
      let back : map render ((us' ++ xs') ++ (z ∷ [])) ≡ map render us' ++ (map render xs' ++ (render z ∷ []))
      = map-append render (us' ++ xs') (z ∷ []) ∙ ap (λ (ms : List (List ℕ)). ms ++ (render z ∷ [])) (map-append render us' xs') ∙ append_assoc (map render us') (map render xs') (render z ∷ []) in
      rw (zeros, ones, twos) (ap (λ (ms : List (List ℕ)). render b ∷ render (versioned w v) ∷ ms) (sym back))

  -- what is written of a card is its lines, folded
  pub card_law : (i : List ℕ) {xs ys : List Line} → CardBy w xs ys → Each Readable xs → logical_lines i ≡ map render xs → card_text w i ≡ card_octets ys
  unfolding card_text card_octets
  card_law i c r e = ap folded_lines (ap (arranged w) e ∙ arranged_law c r)

-- The lines of a card in their places: one turn of the loop, and how long they are. Assumes nothing.
use mathlib.Core.Path.{◌≡◌, refl, sym, ap, ◌∙◌}
use mathlib.Core.Bool.{Bool, true, false}
use mathlib.Core.List.{List, [], ◌∷◌, ◌++◌, map, flatten, append_assoc}
use Prim.Native.Nat.{ℕ, ◌+◌, ◌-◌, ◌*◌, ◌<◌, ◌≤◌}
use native.Mathlib.Omega.{arith}
use lib.Dec.{eqb, ltb}
use lib.ListN.{length, take, drop, length-append}
use lib.Seq.{take-append_seam}
use Rattle.octets.specs.Room.{overlay}
use borrow.Author.Tests.{lt-ltb, le-ltb, ltb-false, eq-eqb, ne_eqb}
use Rattle.octets.specs.Pick.{pick}
use Rattle.utf8.specs.Characters.{allowed, first_bad}
use Rattle.utf8.proofs.Chars.{bad_le}
use Rattle.line_folds.specs.Folds.{line_length, unfolded}
use Rattle.line_folds.specs.Logical.{logical_lines}
use Rattle.line_folds.proofs.LineLaws.{lines_end}
use Rattle.line_folds.proofs.SpanLaws.{lines_turn}
use Rattle.line_parser.specs.Parse.{Parse, got, bad}
use Rattle.line_parser.specs.Grammar.{Line}
use Rattle.line_parser.specs.Rule.{parse_line}
use Rattle.property_table.specs.declared.Edition.TheVariants.{First}
use Rattle.card_line.specs.Parts.{row_of_line, line_parts_by, line_parts_of}
use Rattle.card_line.specs.declared.Parts.{Parts}
use Rattle.card_line.specs.Parts.{fault}
use Rattle.card_line.proofs.PartLaws.{Read}
use Rattle.folder_line.specs.Pieces.{first, later, joined, pieces, folded, folded_lines, Clean}
use Rattle.folder_line.proofs.PieceLaws.{rejoin}
use Rattle.version3_parameters.specs.declared.Way.{Way}
use Rattle.version3_line.specs.Lines.{written_by}
use Rattle.version3_line.proofs.BoundLaws.{written_most}
use Rattle.version3.specs.Card.{turn_of_row, turn_by, turn_of, clear, form_of, forms, arranged, card_text}
use Rattle.version3.specs.Places.{placed, share}

pub turn_first : (row : ℕ) → row ≡ 1 → 0 ≡ turn_of_row row
unfolding turn_of_row
turn_first row e = sym (rw (eq-eqb row 1 e))

pub turn_second : (row : ℕ) → (row ≡ 1 → ⊥) → row ≡ 34 → 1 ≡ turn_of_row row
unfolding turn_of_row
turn_second row n e = sym (rw (ne_eqb row 1 n, eq-eqb row 34 e))

pub turn_other : (row : ℕ) → (row ≡ 1 → ⊥) → (row ≡ 34 → ⊥) → 2 ≡ turn_of_row row
unfolding turn_of_row
turn_other row n m = sym (rw (ne_eqb row 1 n, ne_eqb row 34 m))

-- text that is clear
module _ (l : List ℕ) (b : ℕ) (e : b ≡ first_bad (allowed false) l) where
  pub clear_not : b < length l → clear l ≡ []
  unfolding clear
  clear_not h = rw (← e, lt-ltb b (length l) h)

  pub clear_all : length l ≤ b → clear l ≡ l
  unfolding clear
  clear_all h = rw (← e, le-ltb b (length l) h)

clear_clean : (l : List ℕ) → Clean (clear l)
unfolding Clean clear
clear_clean l = go (ltb (first_bad (allowed false) l) (length l)) refl
  where
    go : (t : Bool) → ltb (first_bad (allowed false) l) (length l) ≡ t → first_bad (allowed false) (pick t [] l) ≡ length (pick t [] l)
    go true e = let z = bad_le (allowed false) [] in omega (arith, z)
    go false e = let z = bad_le (allowed false) l in omega (arith, z, ltb-false (first_bad (allowed false) l) (length l) e)

clear_short : (l : List ℕ) → length (clear l) ≤ length l
unfolding clear
clear_short l = go (ltb (first_bad (allowed false) l) (length l))
  where
    go : (t : Bool) → length (pick t [] l) ≤ length l
    go true = omega arith
    go false = omega arith

pub form_clean : (w : Way) (l : List ℕ) → Clean (form_of w l)
unfolding form_of
form_clean w l = clear_clean (written_by w (parse_line l))

pub form_most : (w : Way) (l : List ℕ) → length (form_of w l) ≤ 2 * length l + 16
unfolding form_of
form_most w l = omega (arith, clear_short (written_by w (parse_line l)), written_most w l)

-- a line that breaks the line rule, and one that does not
pub fault_form : (w : Way) (l : List ℕ) (e : ℕ) → fault e ≡ line_parts_of First l → (turn_of l ≡ 2) × (form_of w l ≡ [])
unfolding line_parts_of turn_of form_of clear
fault_form w l e h = go (parse_line l) h
  where
    go : (m : Parse Line) → fault e ≡ line_parts_by First m → (turn_by m ≡ 2) × (pick (ltb (first_bad (allowed false) (written_by w m)) (length (written_by w m))) [] (written_by w m) ≡ [])
    go (bad x) h = (refl, rw (le-ltb (first_bad (allowed false) []) 0 (omega arith)))
    go (got x k) h = let z : ◌≡◌ {A = ℕ} 0 1 = cc in absurd (omega arith)

pub line_turn : (l : List ℕ) (x : Parts) → Read First l x → turn_of_row x.row ≡ turn_of l
unfolding turn_of
line_turn l x r = ap turn_of_row r.row ∙ sym (ap turn_by r.parsed)

-- one turn: the line from `at` to e is the first of those that are left
module _ (s : List ℕ) (at e : ℕ) (lt : at < length s) (he : e ≡ at + line_length (drop at s)) (le : e ≤ length s) where
  turn : logical_lines (drop at s) ≡ unfolded (take (e - at) (drop at s)) ∷ logical_lines (drop (e + 2) s)
  unfolding logical_lines
  turn = ap (map unfolded) (lines_turn s at e lt he le)

  -- a place gets its share of that line, and what it gets of the others
  pub places_turn : (w : Way) (n : ℕ) → placed w n (logical_lines (drop at s))
      ≡ share n (turn_of (unfolded (take (e - at) (drop at s)))) (folded (form_of w (unfolded (take (e - at) (drop at s))))) ++ placed w n (logical_lines (drop (e + 2) s))
  unfolding forms folded_lines share
  places_turn w n =
      let l = unfolded (take (e - at) (drop at s)) in
      ap (placed w n) turn ∙ go (form_of w l) (forms w n (logical_lines (drop (e + 2) s))) (eqb (turn_of l) n)
    where
      go : (x : List ℕ) (xs : List (List ℕ)) (t : Bool) → folded_lines (pick t (x ∷ xs) xs) ≡ pick t (folded x) [] ++ folded_lines xs
      go x xs true = refl
      go x xs false = refl

pub none_left : (s : List ℕ) (at : ℕ) → length s ≤ at → logical_lines (drop at s) ≡ []
unfolding logical_lines
none_left s at h = ap (map unfolded) (lines_end s at h)

pub forms_none : (w : Way) (n : ℕ) → folded_lines (forms w n []) ≡ []
unfolding forms folded_lines
forms_none w n = refl

folded_append : (xs ys : List (List ℕ)) → folded_lines (xs ++ ys) ≡ folded_lines xs ++ folded_lines ys
unfolding folded_lines
folded_append [] ys = refl
folded_append (x ∷ xs) ys = ap (λ (r : List ℕ). folded x ++ r) (folded_append xs ys) ∙ sym (append_assoc (folded x) (folded_lines xs) (folded_lines ys))

-- the card is its three places
pub card_places : (w : Way) (i : List ℕ)
    → card_text w i ≡ (folded_lines (forms w 0 (logical_lines i)) ++ folded_lines (forms w 1 (logical_lines i))) ++ folded_lines (forms w 2 (logical_lines i))
unfolding card_text arranged
card_places w i =
    let ls = logical_lines i in
    folded_append (forms w 0 ls ++ forms w 1 ls) (forms w 2 ls)
    ∙ ap (λ (r : List ℕ). r ++ folded_lines (forms w 2 ls)) (folded_append (forms w 0 ls) (forms w 1 ls))

-- folding makes no line shorter
joined_long : (ps : List (List ℕ)) → length (flatten ps) ≤ length (joined ps)
unfolding joined flatten
joined_long [] = omega arith
joined_long (p ∷ []) = omega (arith, length-append p [])
joined_long (p ∷ q ∷ qs) = omega (arith, length-append p (flatten (q ∷ qs)), length-append p (13 ∷ 10 ∷ 32 ∷ joined (q ∷ qs)), joined_long (q ∷ qs))

pub folded_long : (l : List ℕ) → length l ≤ length (folded l)
unfolding folded pieces flatten
folded_long l =
    let ps = first l 75 ∷ later l 75 in
    omega (arith, ap length (rejoin l 75), length-append (first l 75) (flatten (later l 75)), joined_long ps, length-append (joined ps) (13 ∷ 10 ∷ []))

row_place : (row : ℕ) → turn_of_row row ≤ 2
unfolding turn_of_row
row_place row = go (eqb row 1) (eqb row 34)
  where
    go : (a b : Bool) → pick a 0 (pick b 1 2) ≤ 2
    go true b = omega arith
    go false true = omega arith
    go false false = omega arith

pub turn_place : (l : List ℕ) → turn_of l ≤ 2
unfolding turn_of
turn_place l = go (parse_line l)
  where
    go : (m : Parse Line) → turn_by m ≤ 2
    go (got x k) = row_place (row_of_line First x)
    go (bad e) = omega arith

-- what is clear of a text stands at the start of room to which the text was written
pub clear_taken : (l d : List ℕ) → take (length (clear l)) (overlay l d) ≡ clear l
unfolding clear
clear_taken l d = go (ltb (first_bad (allowed false) l) (length l))
  where
    go : (t : Bool) → take (length (pick t [] l)) (overlay l d) ≡ pick t [] l
    go true = refl
    go false = take-append_seam l (drop (length l) d)

pub form_of_lem : (w : Way) (l : List ℕ) → clear (written_by w (parse_line l)) ≡ form_of w l
unfolding form_of
form_of_lem w l = refl

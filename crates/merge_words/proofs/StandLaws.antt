-- The records of a card's lines, read by line and field, say what the lines are. Assumes nothing.
use mathlib.Core.Path.{◌≡◌, refl, sym, ap, ◌∙◌}
use mathlib.Core.Bool.{false}
use mathlib.Core.List.{List, [], ◌∷◌, ◌++◌, append_assoc}
use Prim.Native.Nat.{ℕ, suc, ◌+◌, ◌-◌, ◌*◌, ◌<◌, ◌≤◌}
use native.Mathlib.Omega.{arith}
use lib.Dec.{eqb}
use lib.ListN.{length, take, drop, get_or, length-append, length-take, length-drop}
use lib.Seq.{length-take-le, take-add, drop-drop, drop_at, drop-append_seam, get_or-append-add}
use borrow.Author.Tests.{le-ltb, ne_eqb}
use Rattle.octets.specs.Slices.{part}
use Rattle.octets.proofs.Bools.{by}
use Rattle.line_parser.specs.Grammar.{Line, Each, WellFormed, led, param_text, group_text, front, render, name_end}
use Rattle.line_parser.specs.Places.{name_start}
use Rattle.property_table.specs.declared.Edition.TheVariants.{First}
use Rattle.card_line.specs.Parts.{row_of_line, kind_of_line}
use Rattle.reader_grammar.specs.Cards.{Readable}
use Rattle.reader_grammar.specs.Records.{Tells, Records, none, more}
use Rattle.merge_sides.specs.Lines.{field_at, name_start_at, name_at, value_at}
use Rattle.merge_sides.specs.Marks.{behind_name}
use Rattle.merge_words.specs.Stands.{Stands, AllStand}
use Rattle.merge_words.specs.Stands as stand

-- ---- parts of a copy

part_in : (c : List ℕ) (a n : ℕ) → a + n ≤ length c → part c a (a + n) ≡ take n (drop a c)
part_in c a n h =
    let m : a + n - a ≡ n = omega arith in
    rw (le-ltb (length c) (a + n) h, le-ltb (a + n) a (omega arith), m)

-- of a list that stands at w, what is left behind its first part
pub tail_at : (c l : List ℕ) (w : ℕ) → take (length l) (drop w c) ≡ l → w + length l ≤ length c → (a b : List ℕ) → l ≡ a ++ b → part c (w + length a) (w + length l) ≡ b
tail_at c l w h g a b e =
    let n : length l ≡ length a + length b = ap length e ∙ length-append a b in
    let d = drop w c in
    let long : length a ≤ length d = omega (arith, length-drop w c) in
    let two : take (length a) d ++ take (length b) (drop (length a) d) ≡ a ++ b = sym (take-add (length a) (length b) d) ∙ ap (λ (k : ℕ). take k d) (sym n) ∙ h ∙ e in
    let back : take (length b) (drop (length a) d) ≡ b =
    sym (drop_at (take (length a) d) (take (length b) (drop (length a) d)) (length a) (length-take-le (length a) d long))
    ∙ ap (drop (length a)) two ∙ drop-append_seam a b in
    let m : w + length l ≡ w + length a + length b = omega arith in
    ap (part c (w + length a)) m ∙ part_in c (w + length a) (length b) (omega arith) ∙ ap (take (length b)) (sym (drop-drop (length a) w c)) ∙ back

-- ---- a line's own lengths

name_end_lem : (g n : List ℕ) → length (group_text g ++ n) ≡ name_start (length g) + length n
unfolding group_text
name_end_lem [] n = omega arith
name_end_lem (x ∷ xs) n =
    let e : eqb (suc (length xs)) 0 ≡ false = ne_eqb (suc (length xs)) 0 (λ z. omega arith) in
    rw e (omega (arith, length-append ((x ∷ xs) ++ 46 ∷ []) n, length-append xs (46 ∷ [])))

-- what stands behind the name
abbrev Rest : Line → List ℕ
Rest x = led 59 param_text x.params ++ 58 ∷ x.value

split_name : (x : Line) → render x ≡ (group_text x.group ++ x.name) ++ Rest x
unfolding render front
split_name x = simp append_assoc

split_value : (x : Line) → render x ≡ front x ++ x.value
unfolding render
split_value x = refl

behind_name_lem : (x : Line) → drop (name_end x) (render x) ≡ Rest x
unfolding name_end
behind_name_lem x = ap (drop (length (group_text x.group ++ x.name))) (split_name x) ∙ drop-append_seam (group_text x.group ++ x.name) (Rest x)

-- ---- a record by line and field

field_at_lem : (pre tail : List ℕ) (i k : ℕ) → i < 4096 → length pre ≡ i * 8 → field_at (pre ++ tail) i k ≡ get_or tail k 0
unfolding field_at
field_at_lem pre tail i k h e = rw (le-ltb 4096 i (omega arith), ← e) (get_or-append-add pre tail k 0)

module _ (c : List ℕ) (w : ℕ) (x : Line) (r : List ℕ) (t : Tells First c w x r) (f : WellFormed x) (pre rest : List ℕ) (i : ℕ) (h : i < 4096) (e : length pre ≡ i * 8) where
  abbrev R : List ℕ
  R = pre ++ (r ++ rest)

  abbrev N : List ℕ
  N = row_of_line First x ∷ w ∷ length (render x) ∷ length x.group ∷ length x.name ∷ length x.params ∷ (w + length (front x)) ∷ kind_of_line First x ∷ []

  field_is : (k : ℕ) → field_at R i k ≡ get_or (N ++ rest) k 0
  field_is k = field_at_lem pre (r ++ rest) i k h e ∙ ap (λ (l : List ℕ). get_or (l ++ rest) k 0) t.numbers

  within : w + length (render x) ≤ length c
  within =
      let n : length (take 2 (drop (w + length (render x)) c)) ≡ 2 = ap length t.end in
      omega (arith, n, length-take 2 (drop (w + length (render x)) c), length-drop (w + length (render x)) c)

  name_start_lem : name_start_at R i ≡ w + name_start (length x.group)
  unfolding name_start_at
  name_start_lem =
      rw (field_is 3, field_is 1)
      (by (eqb (length x.group) 0) (λ z. rw z (omega arith)) (λ z. rw z (omega arith)))

  name_length : name_start (length x.group) + length x.name ≡ name_end x
  unfolding name_end
  name_length = sym (name_end_lem x.group x.name)

  long : name_end x ≤ length (render x)
  unfolding name_end
  long = omega (arith, ap length (split_name x), length-append (group_text x.group ++ x.name) (Rest x))

  stands : Stands c R i w x
  unfolding name_at value_at behind_name name_end
  stands = record {
    formed = f;
    octets = t.line;
    inside = within;
    property = field_is 0;
    parameters = field_is 5;
    place = field_is 6;
    name = rw (name_start_lem, field_is 4)
        (part_in c (w + name_start (length x.group)) (length x.name) (omega (arith, within, long, name_length)) ∙ t.name);
    value = rw (field_is 6, field_is 1, field_is 2) (tail_at c (render x) w t.line within (front x) x.value (split_value x));
    behind =
        let n : w + name_start (length x.group) + length x.name ≡ w + length (group_text x.group ++ x.name) = omega (arith, name_end_lem x.group x.name) in
        rw (name_start_lem, field_is 4, field_is 1, field_is 2, n)
        (tail_at c (render x) w t.line within (group_text x.group ++ x.name) (Rest x) (split_name x)) ∙ sym (behind_name_lem x);
  }

-- of all lines, behind the records of those before them
pub records_stand : (c : List ℕ) {w : ℕ} {xs : List Line} {rs : List ℕ} → Records First c w xs rs → Each Readable xs → (pre rest : List ℕ) (i : ℕ)
    → length pre ≡ i * 8 → i + length xs ≤ 4096 → AllStand c (pre ++ (rs ++ rest)) i w xs
unfolding Each
records_stand c none q pre rest i e h = stand.none
records_stand c (more {w = w} {x = x} {xs = xs} {r = r} {rs = rs} t ts) q pre rest i e h =
    let n : length r ≡ 8 = ap length t.numbers in
    let p : length (pre ++ r) ≡ suc i * 8 = omega (arith, length-append pre r) in
    let s : pre ++ ((r ++ rs) ++ rest) ≡ pre ++ (r ++ (rs ++ rest)) = ap (λ (l : List ℕ). pre ++ l) (append_assoc r rs rest) in
    let u : pre ++ ((r ++ rs) ++ rest) ≡ (pre ++ r) ++ (rs ++ rest) = s ∙ sym (append_assoc pre r (rs ++ rest)) in
    let ih = records_stand c ts q.1 (pre ++ r) rest (suc i) p (omega arith) in
    stand.more {i = i} {w = w} {x = x} {xs = xs}
    (rw s (stands c w x r t q.0.formed pre (rs ++ rest) i (omega arith) e))
    (rw u ih)

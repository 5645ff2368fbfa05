-- The copy and the records of an accepted input say what its lines are. Assumes nothing.
use mathlib.Core.Path.{◌≡◌, refl, sym, ap, subst, ◌∙◌}
use mathlib.Core.List.{List, [], ◌∷◌, ◌++◌, map, append_assoc}
use Prim.Native.Nat.{ℕ, ◌+◌, ◌-◌, ◌≤◌}
use native.Mathlib.Omega.{arith}
use lib.ListN.{length, take, drop, length-append, length-drop}
use lib.Seq.{length-take-le, take_all, take-append-le, drop-append-le, drop-append-add, drop-append_seam}
use Rattle.line_parser.specs.Parse.{got}
use Rattle.line_parser.specs.Grammar.{Line, Each, WellFormed, front, render, name_end}
use Rattle.line_parser.specs.Rule.{parse_line}
use Rattle.line_parser.specs.Places.{outcome, name_start}
use Rattle.line_parser.proofs.Inside.{InLine, in_line}
use Rattle.line_parameters.specs.Placed.{Placed}
use Rattle.line_parameters.proofs.Law.{line_law, line_unique}
use Rattle.line_parameters.proofs.PlacesLaw.{places_law}
use Rattle.card_line.specs.Parts.{line_parts_by, line_parts_of, row_of_line, kind_of_line}
use Rattle.card_judge.proofs.CardLaws.{parts_fit}
use Rattle.reader_records.specs.Records.{record_by, record_of, records_from}
use Rattle.reader.specs.Outcome.{ended, copy_of, records_in}
use Rattle.reader_grammar.specs.Cards.{Readable}
use Rattle.reader_grammar.specs.Inputs.{InputIn}
use Rattle.reader_grammar.specs.Records.{Tells, Records, none, more}
use Rattle.reader_grammar.proofs.Accepted.{lines_law}
use Rattle.property_table.specs.declared.Edition.{Edition}

module _ (ed : Edition) where
  -- a line in a copy, after other octets and before others
  module _ (pre l rest : List ℕ) where
    inside : (a n : ℕ) → a + n ≤ length l → take n (drop (length pre + a) (pre ++ (l ++ rest))) ≡ take n (drop a l)
    inside a n h =
        ap (take n) (drop-append-add pre (l ++ rest) a ∙ drop-append-le a l rest (omega arith))
        ∙ take-append-le n (drop a l) rest (omega (arith, length-drop a l))

    inside_first : (n : ℕ) → n ≤ length l → take n (drop (length pre) (pre ++ (l ++ rest))) ≡ take n l
    inside_first n h = ap (take n) (drop-append_seam pre (l ++ rest)) ∙ take-append-le n l rest h

    inside_end : drop (length pre + length l) (pre ++ (l ++ rest)) ≡ rest
    inside_end = drop-append-add pre (l ++ rest) (length l) ∙ drop-append_seam l rest

  module _ (x : Line) (w : WellFormed x) where
    parsed : parse_line (render x) ≡ got x (length (front x))
    parsed = (line_law (render x) x (length (front x))).1 (w, refl, refl)

    placed : Placed (render x) x (length x.group) (name_end x) (length x.params) (length (front x))
    placed =
        let p = (places_law (render x) (length x.group) (name_end x) (length x.params) (length (front x))).0 (ap outcome parsed) in
        let e : p.0 ≡ x = line_unique p.0 x p.1 w (sym p.2) in
        subst (λ (y : Line). Placed (render x) y (length x.group) (name_end x) (length x.params) (length (front x))) e p.3

    within : InLine (render x) (length x.group) (name_end x) (length x.params) (length (front x))
    within = in_line (render x) (length x.group) (name_end x) (length x.params) (length (front x)) (ap outcome parsed)

    name_length : name_end x - name_start (length x.group) ≡ length x.name
    name_length =
        let s = name_start (length x.group) in
        let h : name_end x - s ≤ length (drop s (render x)) = rw (length-drop s (render x)) (omega (arith, within.name, within.params, within.value)) in
        sym (length-take-le (name_end x - s) (drop s (render x)) h) ∙ ap length placed.name

    group_length : length x.group ≤ length (render x)
    unfolding line_parts_of
    group_length = let f = parts_fit ed (render x) _ (ap (line_parts_by ed) parsed) in omega (arith, f.0, f.2)

    pub numbers : (at : ℕ) → record_of ed at (render x)
        ≡ row_of_line ed x ∷ at ∷ length (render x) ∷ length x.group ∷ length x.name ∷ length x.params ∷ (at + length (front x)) ∷ kind_of_line ed x ∷ []
    unfolding record_of line_parts_of record_by
    numbers at =
        ap (record_by at (length (render x))) (ap (line_parts_by ed) parsed)
        ∙ ap (λ (n : ℕ). row_of_line ed x ∷ at ∷ length (render x) ∷ length x.group ∷ n ∷ length x.params ∷ (at + length (front x)) ∷ kind_of_line ed x ∷ []) name_length

    tells : (pre rest : List ℕ) → Tells ed (pre ++ (render x ++ (13 ∷ 10 ∷ rest))) (length pre) x (record_of ed (length pre) (render x))
    tells pre rest =
        let l = render x in
        let t : List ℕ = 13 ∷ 10 ∷ rest in
        let s = name_start (length x.group) in
        let f = length (front x) in
        record {
          numbers = numbers (length pre);
          line = inside_first pre l t (length l) (omega arith) ∙ take_all (length l) l (omega arith);
          end = ap (take 2) (inside_end pre l t);
          group = inside_first pre l t (length x.group) group_length ∙ placed.group;
          name =
              inside pre l t s (length x.name) (omega (arith, name_length, within.name, within.params, within.value))
              ∙ ap (λ (n : ℕ). take n (drop s l)) (sym name_length) ∙ placed.name;
          value =
              inside pre l t f (length l - f) (omega (arith, within.value))
              ∙ take_all (length l - f) (drop f l) (omega (arith, length-drop f l)) ∙ placed.value;
        }

  -- lines in a copy from `pre` on
  records_from_lem : (xs : List Line) (pre rest copy : List ℕ) → Each Readable xs → copy ≡ pre ++ (ended (map render xs) ++ rest)
      → Records ed copy (length pre) xs (records_from ed (length pre) (map render xs))
  unfolding ended records_from Each
  records_from_lem [] pre rest copy r e = none
  records_from_lem (x ∷ xs) pre rest copy r e =
      let others = ended (map render xs) in
      let here : copy ≡ pre ++ (render x ++ (13 ∷ 10 ∷ (others ++ rest))) = e ∙ ap (λ (l : List ℕ). pre ++ l) (append_assoc (render x) (13 ∷ 10 ∷ others) rest) in
      let line : List ℕ = render x ++ (13 ∷ 10 ∷ []) in
      let past : List ℕ = pre ++ line in
      let n : length past ≡ length pre + length (render x) + 2 = omega (arith, length-append pre line, length-append (render x) (13 ∷ 10 ∷ [])) in
      let there : copy ≡ past ++ (others ++ rest) =
      here ∙ sym (append_assoc pre line (others ++ rest) ∙ ap (λ (l : List ℕ). pre ++ l) (append_assoc (render x) (13 ∷ 10 ∷ []) (others ++ rest))) in
      let first : Tells ed copy (length pre) x (record_of ed (length pre) (render x)) = rw here (tells x r.0.formed pre (others ++ rest)) in
      more first
      (subst (λ (w : ℕ). Records ed copy w xs (records_from ed w (map render xs))) n (records_from_lem xs past rest copy r.1 there))

  -- the copy is the lines in order, each ended by CR LF
  pub copy_law : (i : List ℕ) (k n : ℕ) (h : InputIn ed i k n) → copy_of i ≡ ended (map render h.lines)
  unfolding copy_of
  copy_law i k n h = ap ended (lines_law ed i k n h)

  -- and the records tell of them, whatever stands after the copy
  pub records_law : (i : List ℕ) (k n : ℕ) (h : InputIn ed i k n) (rest : List ℕ) → Records ed (copy_of i ++ rest) 0 h.lines (records_in ed i)
  unfolding records_in
  records_law i k n h rest =
      rw (lines_law ed i k n h) (records_from_lem h.lines [] rest (copy_of i ++ rest) h.readable (ap (λ (c : List ℕ). c ++ rest) (copy_law i k n h)))

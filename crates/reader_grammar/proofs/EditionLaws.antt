-- What edition one accepts without the names that edition two adds, edition two accepts with the same records. Assumes nothing.
use mathlib.Core.Path.{◌≡◌, refl, sym, ap, ◌∙◌}
use mathlib.Core.Bool.{false}
use mathlib.Core.List.{List, [], ◌∷◌, ◌++◌, map}
use Prim.Native.Nat.{ℕ, ◌+◌, ◌≤◌}
use native.Mathlib.Omega.{arith}
use lib.ListN.{length}
use borrow.Author.Tests.{le-ltb}
use Rattle.utf8.specs.Characters.{allowed, first_bad}
use Rattle.line_folds.specs.Folds.{unfolded}
use Rattle.line_folds.specs.Logical.{raw_lines, logical_lines}
use Rattle.line_parser.specs.Parse.{got}
use Rattle.line_parser.specs.Grammar.{Line, Each, front, render}
use Rattle.line_parser.specs.Rule.{parse_line}
use Rattle.line_parameters.proofs.Law.{line_law}
use Rattle.property_table.specs.declared.Edition.TheVariants.{First, Second}
use Rattle.property_table.specs.Rows.{line_kind, value_name, calscale_name}
use Rattle.value_kinds.specs.Kinds.{value_in}
use Rattle.value_kinds.specs.declared.Fault.TheVariants.{Fits}
use Rattle.value_laws.specs.Words.{Components}
use Rattle.value_laws.proofs.NewLaws.{old_row}
use Rattle.card_state.specs.State.{Card, Step, Next, fresh_card}
use Rattle.card_line.specs.Parts.{param_value, row_of_line, kind_of_line}
use Rattle.card_judge.specs.Judge.{judge_parts, judge_line}
use Rattle.card_judge.proofs.CardLaws.{passed}
use Rattle.reader_walk.specs.Walk.{onward, settled, judge_lines}
use Rattle.reader_walk.proofs.WalkLaws.{onward_next}
use Rattle.reader_records.specs.Records.{record_of, records_from}
use Rattle.reader.specs.Outcome.{judge_in, copy_of, records_in, write_outcome, outcome_by, read_in}
use Rattle.reader.specs.Outcome.{Verdict}
use Rattle.reader.specs.Outcome.{Accepted}
use Rattle.reader.proofs.AcceptLaws.{accepting}
use Rattle.reader_laws.proofs.SameLines.{accepted}
use Rattle.reader_grammar.specs.Values.{OfKind, anything, text, texts, uri, name, address, components, gender, pidmap, date, timestamp, offset}
use Rattle.reader_grammar.specs.Cards.{Readable}
use Rattle.reader_grammar.specs.Inputs.{InputIn}
use Rattle.reader_grammar.specs.Editions.{Old}
use Rattle.reader_grammar.proofs.ValueLaws.{value_fits}
use Rattle.reader_grammar.proofs.Accepted.{accepted_law, lines_law}
use Rattle.reader_grammar.proofs.RecordLaws.{numbers}

-- as many components, where more are allowed
more_components : (lo hi most : ℕ) (v : List ℕ) → hi ≤ most → Components lo hi v → Components lo most v
more_components lo hi most v h (n, g, k, s) = (n, g, omega arith, s)

kind_too : (k : ℕ) (v : List ℕ) → OfKind First k v → OfKind Second k v
kind_too k v anything = anything
kind_too k v (text h) = text h
kind_too k v (texts h) = texts h
kind_too k v (uri h) = uri h
kind_too k v (name h) = name (more_components 5 5 7 v (omega arith) h)
kind_too k v (address h) = address (more_components 7 7 18 v (omega arith) h)
kind_too k v (components h) = components h
kind_too k v (gender h) = gender h
kind_too k v (pidmap h) = pidmap h
kind_too k v (date h) = date h
kind_too k v (timestamp h) = timestamp h
kind_too k v (offset h) = offset h

fits_too : (row k : ℕ) (v : List ℕ) → value_in First row k v ≡ Fits → value_in Second row k v ≡ Fits
fits_too row k v e =
    let f = (value_fits First row k v).0 e in
    (value_fits Second row k v).1
    (record { begin = f.begin; end = f.end; version = f.version; other = λ a b c. kind_too k v (f.other a b c) })

-- a line of an old name has one row and one kind
module _ (x : Line) (old : Old x) where
  row_too : row_of_line Second x ≡ row_of_line First x
  unfolding row_of_line
  row_too = old_row x.name old

  kind_same : kind_of_line Second x ≡ kind_of_line First x
  unfolding kind_of_line
  kind_same = ap (λ (n : ℕ). line_kind n (param_value value_name x) (param_value calscale_name x)) row_too

  line_too : Readable x → (c c' : Card) (p : ℕ) → judge_line First c p (render x) ≡ Next c' → judge_line Second c p (render x) ≡ Next c'
  unfolding judge_line judge_parts
  line_too r c c' p e =
      let w = passed First c c' p (render x) e in
      let parsed : parse_line (render x) ≡ got x (length (front x)) = (line_law (render x) x (length (front x))).1 (r.formed, refl, refl) in
      let same : w.parts ≡ x = cc (w.parsed, parsed) in
      let clean : length (render x) ≤ first_bad (allowed false) (render x) = omega (arith, w.clean) in
      let fits = fits_too (row_of_line First x) (kind_of_line First x) x.value (rw same at w.fits) in
      simp (le-ltb (first_bad (allowed false) (render x)) (length (render x)) clean, parsed, row_too, kind_same, rw same at w.order, rw same at w.unladen, fits)
      (rw same at w.after)

  record_same : Readable x → (w : ℕ) → record_of Second w (render x) ≡ record_of First w (render x)
  record_same r w = numbers Second x r.formed w ∙ rw (row_too, kind_same) refl ∙ sym (numbers First x r.formed w)

lines_too : (xs : List Line) → Each Readable xs → Each Old xs → (ls : List (List ℕ)) → map unfolded ls ≡ map render xs
    → (p : ℕ) (c c' : Card) → judge_lines First ls p c ≡ Next c' → judge_lines Second ls p c ≡ Next c'
unfolding Each judge_lines
lines_too [] r o [] m p c c' e = e
lines_too [] r o (l ∷ ls) m p c c' e = let z : ◌≡◌ {A = ℕ} 0 1 = cc in absurd (omega arith)
lines_too (x ∷ xs) r o [] m p c c' e = let z : ◌≡◌ {A = ℕ} 0 1 = cc in absurd (omega arith)
lines_too (x ∷ xs) r o (l ∷ ls) m p c c' e =
    let h : unfolded l ≡ render x = cc in
    let t : map unfolded ls ≡ map render xs = cc in
    onward_next p l (judge_line First c p (unfolded l)) (judge_lines First ls (p + length l + 2)) c' e
    (λ d j f. ap (λ (s : Step). onward (settled p l s) (judge_lines Second ls (p + length l + 2))) (ap (judge_line Second c p) h ∙ line_too x o.0 r.0 c d p (sym (ap (judge_line First c p) h) ∙ j))
    ∙ lines_too xs r.1 o.1 ls t (p + length l + 2) d c' f)

records_too : (xs : List Line) → Each Readable xs → Each Old xs → (w : ℕ) → records_from Second w (map render xs) ≡ records_from First w (map render xs)
unfolding Each records_from
records_too [] r o w = refl
records_too (x ∷ xs) r o w =
    ap (λ (a : List ℕ). a ++ records_from Second (w + length (render x) + 2) (map render xs)) (record_same x o.0 r.0 w)
    ∙ ap (λ (a : List ℕ). record_of First w (render x) ++ a) (records_too xs r.1 o.1 (w + length (render x) + 2))

module _ (i : List ℕ) (k n : ℕ) (h : InputIn First i k n) (old : Each Old h.lines) where
  judged_first : judge_in First i ≡ Accepted k n
  judged_first = (accepted_law First i k n).1 h

  pub judged_too : judge_in Second i ≡ Accepted k n
  unfolding logical_lines
  judged_too =
      let a = accepting First i k n judged_first in
      accepted Second i k n (record {
        short = a.short;
        some = a.some;
        unlone = a.unlone;
        ends = a.ends;
        last = a.last;
        walked = lines_too h.lines h.readable old (raw_lines i) (lines_law First i k n h) 0 fresh_card a.last a.walked;
        outside = a.outside;
        cards = a.cards;
        lines = a.lines;
      })

  records_same : records_in Second i ≡ records_in First i
  unfolding records_in
  records_same =
      let m = lines_law First i k n h in
      ap (records_from Second 0) m ∙ records_too h.lines h.readable old 0 ∙ sym (ap (records_from First 0) m)

  -- edition two answers as edition one does, and leaves both rooms as it does
  pub read_too : (copy records : List ℕ) → read_in Second i copy records ≡ read_in First i copy records
  unfolding read_in outcome_by
  read_too copy records =
      ap (λ (v : Verdict). outcome_by Second v i copy records) judged_too
      ∙ ap (λ (rs : List ℕ). write_outcome (Accepted k n) (copy_of i) rs copy records) records_same
      ∙ sym (ap (λ (v : Verdict). outcome_by First v i copy records) judged_first)

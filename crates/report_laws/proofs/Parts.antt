-- What one judgement adds, by the grammar: the lines of each property as the grammar counts them. Assumes nothing.
use mathlib.Core.Path.{◌≡◌, refl, sym, ap, ◌∙◌}
use mathlib.Core.Bool.{Bool, true, false}
use mathlib.Core.List.{List, [], ◌∷◌, map}
use Prim.Native.Nat.{ℕ, suc, ◌+◌, ◌≤◌}
use native.Mathlib.Omega.{arith}
use lib.Dec.{eqb, ltb}
use lib.ListN.{length, get_or, drop, get_or-eq_default}
use borrow.Author.Tests.{ltb-true, ltb-false, eq-eqb, ne_eqb}
use Rattle.line_folds.specs.Logical.{logical_lines}
use Rattle.line_parser.specs.Parse.{got}
use Rattle.line_parser.specs.Grammar.{Line, Each, WellFormed, front, render}
use Rattle.line_parser.specs.Rule.{head, params, parse_line}
use Rattle.line_parser.proofs.ParseLaws.{next_inv}
use Rattle.line_parameters.proofs.Law.{line_law}
use Rattle.property_table.specs.Rows.{row_of}
use Rattle.card_line.specs.Parts.{row_of_line}
use Rattle.property_table.proofs.RowLaws.{row_low}
use Rattle.reader.specs.Outcome.{judge_of}
use Rattle.reader.specs.Outcome.{Verdict}
use Rattle.reader.specs.Outcome.{Accepted, Refused}
use Rattle.reader_grammar.specs.Cards.{Readable, counts, count, of_row}
use Rattle.reader_grammar.specs.Inputs.{InputOf}
use Rattle.reader_grammar.specs.Refusals.{RefusedBy}
use Rattle.reader_grammar.proofs.Accepted.{accepted_law, lines_law}
use Rattle.reader_grammar.proofs.Refused.{refused_law}
use Rattle.report_lines.specs.Rows.{row_by, row_of_name, one, lines_with, line_counts}
use Rattle.report_lines.proofs.CountLaws.{counts_length, counts_at}
use Rattle.report_weights.specs.Counts.{Count, uploads, accepted, cards, lines, octets, refused_with, lines_of}
use Rattle.report_weights.specs.Parts.{refused_part, part_by, part}
use Rattle.report_laws.specs.Reports.{AddsAccepted, AddsRefused}
use Rattle.property_table.specs.declared.Edition.TheVariants.{First}

-- the number of a line by its name is that of the line
row_name : (x : Line) → WellFormed x → row_of_name (render x) ≡ row_of_line First x
unfolding parse_line row_of_name row_of_line
row_name x w =
    let l : List ℕ = render x in
    let parsed : parse_line l ≡ got x (length (front x)) = (line_law l x (length (front x))).1 (w, refl, refl) in
    next_inv (head l) _ parsed (λ y n p q. next_inv (params (suc (length (drop n l))) (drop n l)) _ q (λ ps j p₂ q₂.
    let ea : x ≡ record { group = y.group; name = y.name; params = ps; value = drop 1 (drop j (drop n l)) } = cc in
    ap row_by p ∙ ap (λ (z : Line). row_of First z.name) (sym ea)))

one_more : (t : Bool) (n : ℕ) → one t + n ≡ counts t n
one_more true n = omega arith
one_more false n = omega arith

-- the lines with a number, as the grammar counts them
lines_with_lem : (m : ℕ) (xs : List Line) → Each Readable xs → lines_with m (map render xs) ≡ count (of_row First m) xs
unfolding lines_with count Each
lines_with_lem m [] r = refl
lines_with_lem m (x ∷ xs) r =
    ap (λ (k : ℕ). one (eqb k m) + lines_with m (map render xs)) (row_name x r.0.formed)
    ∙ ap (λ (k : ℕ). one (eqb (row_of_line First x) m) + k) (lines_with_lem m xs r.1)
    ∙ one_more (eqb (row_of_line First x) m) (count (of_row First m) xs)

-- no line has a number that is no row's
no_lines : (m : ℕ) (xs : List Line) → 39 ≤ m → count (of_row First m) xs ≡ 0
unfolding count row_of_line
no_lines m [] h = refl
no_lines m (x ∷ xs) h =
    rw (ne_eqb (row_of_line First x) m (λ e. omega (arith, row_low First x.name))) (no_lines m xs h)

-- what is counted of a number that is no row's
pub counts_past : (ls : List (List ℕ)) (m : ℕ) → 39 ≤ m → get_or (line_counts ls) m 0 ≡ 0
counts_past ls m h = get_or-eq_default (line_counts ls) 0 {n = m} (omega (arith, counts_length ls))

lines_of_lem : (m : ℕ) (xs : List Line) (ls : List (List ℕ)) → Each Readable xs → ls ≡ map render xs → get_or (line_counts ls) m 0 ≡ count (of_row First m) xs
lines_of_lem m xs ls r e = by (ltb m 39) refl
  where
    by : (t : Bool) → ltb m 39 ≡ t → get_or (line_counts ls) m 0 ≡ count (of_row First m) xs
    by true q = counts_at ls m (ltb-true m 39 q) ∙ ap (lines_with m) e ∙ lines_with_lem m xs r
    by false q = counts_past ls m (ltb-false m 39 q) ∙ sym (no_lines m xs (ltb-false m 39 q))

-- by the verdict
pub by_verdict : (c : Count) (i : List ℕ) (v : Verdict) → judge_of i ≡ v → part c i ≡ part_by v i c
unfolding part
by_verdict c i v e = ap (λ (u : Verdict). part_by u i c) e

pub accepts : {i : List ℕ} {k n : ℕ} (h : InputOf i k n) → AddsAccepted h
accepts {i} {k} {n} h =
    let e = (accepted_law First i k n).1 h in
    record {
      upload = by_verdict uploads i (Accepted k n) e;
      accept = by_verdict accepted i (Accepted k n) e;
      card = by_verdict cards i (Accepted k n) e;
      line = by_verdict lines i (Accepted k n) e;
      octet = by_verdict octets i (Accepted k n) e;
      property = λ m. by_verdict (lines_of m) i (Accepted k n) e ∙ lines_of_lem m h.lines (logical_lines i) h.readable (lines_law First i k n h);
      refusal = λ m. by_verdict (refused_with m) i (Accepted k n) e;
    }

other_part : (n : ℕ) (c : Count) → (c ≡ uploads → ⊥) → (c ≡ refused_with n → ⊥) → refused_part n c ≡ 0
other_part n uploads h g = absurd (h refl)
other_part n accepted h g = refl
other_part n cards h g = refl
other_part n lines h g = refl
other_part n octets h g = refl
other_part n (refused_with m) h g = ap one (ne_eqb n m (λ e. g (ap refused_with (sym e))))
other_part n (lines_of m) h g = refl

pub refuses : {i : List ℕ} {n p : ℕ} → RefusedBy i n p → AddsRefused i n
refuses {i} {n} {p} b =
    let e = (refused_law First i n p).1 b in
    record {
      upload = by_verdict uploads i (Refused n p) e;
      refusal = by_verdict (refused_with n) i (Refused n p) e ∙ ap one (eq-eqb n n refl);
      other = λ c h g. by_verdict c i (Refused n p) e ∙ other_part n c h g;
    }

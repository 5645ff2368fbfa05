-- One judgement adds at most 16,384 to a count, so that 80 is long in coming. Assumes nothing.
use mathlib.Core.Path.{◌≡◌, refl}
use mathlib.Core.Bool.{Bool, true, false}
use mathlib.Core.List.{List, [], ◌∷◌}
use Prim.Native.Nat.{ℕ, ◌*◌, ◌<◌, ◌≤◌}
use native.Mathlib.Omega.{arith}
use lib.Dec.{eqb, ltb}
use lib.ListN.{length, get_or, length-append}
use borrow.Author.Tests.{ltb-true, ltb-false}
use Rattle.line_folds.specs.Logical.{logical_lines}
use Rattle.line_parser.specs.Grammar.{Line}
use Rattle.reader.specs.Outcome.{judge_of}
use Rattle.reader.specs.Outcome.{Verdict}
use Rattle.reader.specs.Outcome.{Accepted, Refused}
use Rattle.reader.proofs.AcceptLaws.{lines_few, lines_counted}
use Rattle.reader_grammar.specs.Cards.{CardLines, card, Cards, none, more}
use Rattle.reader_grammar.proofs.Accepted.{accepted_law}
use Rattle.report_lines.specs.Rows.{row_of_name, one, lines_with, line_counts}
use Rattle.report_lines.proofs.CountLaws.{counts_at}
use Rattle.report_weights.specs.Counts.{Count, uploads, accepted, cards, lines, octets, refused_with, lines_of}
use Rattle.report_weights.specs.Parts.{refused_part, accepted_part, part}
use Rattle.report.specs.Steps.{fresh_report, take_step}
use Rattle.report.specs.Answer.{Refused as Full}
use Rattle.report_laws.specs.Totals.{total, after, taken}
use Rattle.report_laws.proofs.Parts.{by_verdict, counts_past}
use Rattle.report_laws.proofs.Sums.{logical_length}
use Rattle.report_laws.proofs.Totals.{full}
use Rattle.property_table.specs.declared.Edition.TheVariants.{First}

one_low : (t : Bool) → one t ≤ 1
one_low true = omega arith
one_low false = omega arith

with_low : (m : ℕ) (ls : List (List ℕ)) → lines_with m ls ≤ length ls
unfolding lines_with
with_low m [] = omega arith
with_low m (l ∷ ls) = omega (arith, with_low m ls, one_low (eqb (row_of_name l) m))

counted_low : (m : ℕ) (ls : List (List ℕ)) → get_or (line_counts ls) m 0 ≤ length ls
counted_low m ls = by (ltb m 39) refl
  where
    by : (t : Bool) → ltb m 39 ≡ t → get_or (line_counts ls) m 0 ≤ length ls
    by true e = omega (arith, counts_at ls m (ltb-true m 39 e), with_low m ls)
    by false e = omega (arith, counts_past ls m (ltb-false m 39 e))

-- a card has a line
card_some : {xs : List Line} → CardLines First xs → 1 ≤ length xs
card_some (card b v x e) = omega arith

cards_few : {k : ℕ} {xs : List Line} → Cards First k xs → k ≤ length xs
cards_few none = omega arith
cards_few (more {k = k} {xs = xs} {ys = ys} a b) = omega (arith, card_some a, cards_few b, length-append xs ys)

accepted_low : (k n o : ℕ) (ls : List (List ℕ)) (c : Count) → k ≤ 16384 → n ≤ 16384 → o ≤ 16384 → length ls ≤ 16384
    → accepted_part k n o (line_counts ls) c ≤ 16384
accepted_low k n o ls uploads hk hn ho hl = omega arith
accepted_low k n o ls accepted hk hn ho hl = omega arith
accepted_low k n o ls cards hk hn ho hl = hk
accepted_low k n o ls lines hk hn ho hl = hn
accepted_low k n o ls octets hk hn ho hl = ho
accepted_low k n o ls (refused_with m) hk hn ho hl = omega arith
accepted_low k n o ls (lines_of m) hk hn ho hl = omega (arith, counted_low m ls)

refused_low : (n : ℕ) (c : Count) → refused_part n c ≤ 16384
refused_low n uploads = omega arith
refused_low n accepted = omega arith
refused_low n cards = omega arith
refused_low n lines = omega arith
refused_low n octets = omega arith
refused_low n (refused_with m) = omega (arith, one_low (eqb n m))
refused_low n (lines_of m) = omega arith

part_low : (c : Count) (i : List ℕ) (v : Verdict) → judge_of i ≡ v → part c i ≤ 16384
part_low c i (Refused n p) e = rw (by_verdict c i (Refused n p) e) (refused_low n c)
part_low c i (Accepted k n) e =
    let h = (accepted_law First i k n).0 e in
    let m = lines_counted First i k n e in
    rw (by_verdict c i (Accepted k n) e)
    (accepted_low k n (length i) (logical_lines i) c (omega (arith, cards_few h.cards, h.count, m, lines_few i, h.short)) (omega (arith, m, lines_few i, h.short)) h.short
    (omega (arith, logical_length i, lines_few i, h.short)))

total_low : (c : Count) (is : List (List ℕ)) → total c is ≤ 16384 * length is
unfolding total
total_low c [] = omega arith
total_low c (i ∷ is) = omega (arith, part_low c i (judge_of i) refl, total_low c is)

pub never_low : (is : List (List ℕ)) (i : List ℕ) → length (taken fresh_report is) < 262143 → (take_step (after fresh_report is) i).answer ≡ Full 80 0 → ⊥
never_low is i h e =
    let d = (full is i).0 e in
    omega (arith, d.1, total_low d.0 (taken fresh_report is), part_low d.0 i (judge_of i) refl)

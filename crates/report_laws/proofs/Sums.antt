-- The sums agree: lines with the lines of each property, uploads with the accepted and the refused ones. Assumes nothing.
use mathlib.Core.Path.{◌≡◌, refl, sym, ap, ◌∙◌}
use mathlib.Core.Bool.{Bool, true, false}
use mathlib.Core.List.{List, [], ◌∷◌, map}
use mathlib.Core.Logic.{inl, inr}
use Prim.Native.Nat.{ℕ, zero, suc, ◌+◌, ◌-◌, ◌<◌, ◌≤◌}
use native.Mathlib.Omega.{arith}
use lib.Dec.{eqb}
use lib.ListN.{length}
use borrow.Author.Tests.{eqb-true, eqb-false, ne_eqb}
use Rattle.octets.proofs.Upto.{upto, from}
use Rattle.line_folds.specs.Folds.{unfolded}
use Rattle.line_folds.specs.Logical.{raw_lines, logical_lines}
use Rattle.line_parser.specs.Parse.{Parse, got, bad}
use Rattle.line_parser.specs.Rule.{Head, head}
use Rattle.property_table.proofs.RowLaws.{row_low}
use Rattle.reader.specs.Outcome.{judge_of}
use Rattle.reader.specs.Outcome.{Verdict}
use Rattle.reader.specs.Outcome.{Accepted, Refused}
use Rattle.reader.proofs.AcceptLaws.{lines_counted}
use Rattle.reader_grammar.specs.Refusals.{Judging}
use Rattle.reader_grammar.proofs.Numbers.{refusal_number}
use Rattle.reader_grammar.proofs.Refused.{refused_law}
use Rattle.report_lines.specs.Rows.{row_by, row_of_name, one, lines_with, numbers_from}
use Rattle.report_lines.proofs.CountLaws.{counts_at}
use Rattle.report_weights.specs.Counts.{uploads, accepted, lines, refused_with, lines_of, judging}
use Rattle.report_weights.specs.Parts.{part}
use Rattle.report_laws.specs.Totals.{total, sum_over}
use Rattle.report_laws.proofs.Parts.{by_verdict}
use Rattle.property_table.specs.declared.Edition.TheVariants.{First}

-- ---- sums

sum_none : (xs : List ℕ) → sum_over (λ m. 0) xs ≡ 0
unfolding sum_over
sum_none [] = refl
sum_none (x ∷ xs) = omega (arith, sum_none xs)

sum_both : (f g : ℕ → ℕ) (xs : List ℕ) → sum_over (λ m. f m + g m) xs ≡ sum_over f xs + sum_over g xs
unfolding sum_over
sum_both f g [] = refl
sum_both f g (x ∷ xs) = omega (arith, sum_both f g xs)

sum_same : (f g : ℕ → ℕ) → ((m : ℕ) → f m ≡ g m) → (xs : List ℕ) → sum_over f xs ≡ sum_over g xs
unfolding sum_over
sum_same f g e [] = refl
sum_same f g e (x ∷ xs) = omega (arith, e x, sum_same f g e xs)

sum_below : (f g : ℕ → ℕ) (i n : ℕ) → ((m : ℕ) → m < i + n → f m ≡ g m) → sum_over f (numbers_from i n) ≡ sum_over g (numbers_from i n)
unfolding sum_over numbers_from
sum_below f g i zero e = refl
sum_below f g i (suc n) e = omega (arith, e i (omega arith), sum_below f g (suc i) n (λ m h. e m (omega arith)))

-- one of the numbers from i on is r
none_is : (r i n : ℕ) → r < i → sum_over (λ m. one (eqb r m)) (numbers_from i n) ≡ 0
unfolding sum_over numbers_from
none_is r i zero h = refl
none_is r i (suc n) h = rw (ne_eqb r i (λ e. omega arith)) (omega (arith, none_is r (suc i) n (omega arith)))

one_is : (r i n : ℕ) → i ≤ r → r < i + n → sum_over (λ m. one (eqb r m)) (numbers_from i n) ≡ 1
unfolding sum_over numbers_from
one_is r i zero h g = absurd (omega arith)
one_is r i (suc n) h g = by (eqb r i) refl (λ q. one_is r (suc i) n q (omega arith))
  where
    by : (t : Bool) → eqb r i ≡ t → (suc i ≤ r → sum_over (λ m. one (eqb r m)) (numbers_from (suc i) n) ≡ 1)
        → one t + sum_over (λ m. one (eqb r m)) (numbers_from (suc i) n) ≡ 1
    by true e rest = omega (arith, none_is r (suc i) n (omega (arith, eqb-true r i e)))
    by false e rest = omega (arith, rest (le e))
      where
        le : eqb r i ≡ false → suc i ≤ r
        le e = let d : r ≡ i → ⊥ = eqb-false r i e in omega arith

-- ---- lines

row_below : (l : List ℕ) → row_of_name l < 39
unfolding row_of_name
row_below l = by (head l)
  where
    by : (m : Parse Head) → row_by m < 39
    by (got h k) = row_low First h.name
    by (bad e) = omega arith

lines_sum : (ls : List (List ℕ)) → sum_over (λ m. lines_with m ls) (numbers_from 0 39) ≡ length ls
unfolding lines_with
lines_sum [] = sum_none (numbers_from 0 39)
lines_sum (l ∷ ls) =
    sum_both (λ m. one (eqb (row_of_name l) m)) (λ m. lines_with m ls) (numbers_from 0 39)
    ∙ omega (arith, one_is (row_of_name l) 0 39 (omega arith) (row_below l), lines_sum ls)

map_length : (ls : List (List ℕ)) → length (map unfolded ls) ≡ length ls
map_length [] = refl
map_length (l ∷ ls) = ap suc (map_length ls)

pub logical_length : (i : List ℕ) → length (logical_lines i) ≡ length (raw_lines i)
unfolding logical_lines
logical_length i = map_length (raw_lines i)

one_lines : (i : List ℕ) (v : Verdict) → judge_of i ≡ v → part lines i ≡ sum_over (λ m. part (lines_of m) i) (numbers_from 0 39)
one_lines i (Refused n p) e =
    by_verdict lines i (Refused n p) e
    ∙ sym (sum_same (λ m. part (lines_of m) i) (λ m. 0) (λ m. by_verdict (lines_of m) i (Refused n p) e) (numbers_from 0 39) ∙ sum_none (numbers_from 0 39))
one_lines i (Accepted k n) e =
    let ls = logical_lines i in
    by_verdict lines i (Accepted k n) e ∙ lines_counted First i k n e ∙ sym (logical_length i) ∙ sym (lines_sum ls)
    ∙ sum_below (λ m. lines_with m ls) (λ m. part (lines_of m) i) 0 39
    (λ m h. sym (by_verdict (lines_of m) i (Accepted k n) e ∙ counts_at ls m (omega arith)))

pub all_lines : (is : List (List ℕ)) → total lines is ≡ sum_over (λ m. total (lines_of m) is) (numbers_from 0 39)
unfolding total
all_lines [] = sym (sum_none (numbers_from 0 39))
all_lines (i ∷ is) =
    sym (sum_both (λ m. part (lines_of m) i) (λ m. total (lines_of m) is) (numbers_from 0 39)
    ∙ omega (arith, one_lines i (judge_of i) refl, all_lines is))

-- ---- uploads

low_computed : upto (λ n. sum_over (λ m. one (eqb n m)) judging) 1 5 ≡ upto (λ n. 1) 1 5
unfolding upto sum_over
low_computed = refl

middle_computed : upto (λ n. sum_over (λ m. one (eqb n m)) judging) 7 6 ≡ upto (λ n. 1) 7 6
unfolding upto sum_over
middle_computed = refl

high_computed : upto (λ n. sum_over (λ m. one (eqb n m)) judging) 40 4 ≡ upto (λ n. 1) 40 4
unfolding upto sum_over
high_computed = refl

at : (i n k : ℕ) → upto (λ n. sum_over (λ m. one (eqb n m)) judging) i n ≡ upto (λ n. 1) i n → i ≤ k → k < i + n
    → sum_over (λ m. one (eqb k m)) judging ≡ 1
at i n k e h g =
    let there : i + (k - i) ≡ k = omega arith in
    rw there at (from (λ n. sum_over (λ m. one (eqb n m)) judging) (λ n. 1) n i e (k - i) (omega arith))

one_number : (n : ℕ) → Judging n → sum_over (λ m. one (eqb n m)) judging ≡ 1
one_number n (inl h) = at 1 5 n low_computed h.0 (omega (arith, h.1))
one_number n (inr (inl h)) = at 7 6 n middle_computed h.0 (omega (arith, h.1))
one_number n (inr (inr h)) = at 40 4 n high_computed h.0 (omega (arith, h.1))

one_upload : (i : List ℕ) (v : Verdict) → judge_of i ≡ v → part uploads i ≡ part accepted i + sum_over (λ m. part (refused_with m) i) judging
one_upload i (Refused n p) e =
    omega (
      arith,
      by_verdict uploads i (Refused n p) e,
      by_verdict accepted i (Refused n p) e,
      sum_same (λ m. part (refused_with m) i) (λ m. one (eqb n m)) (λ m. by_verdict (refused_with m) i (Refused n p) e) judging,
      one_number n (refusal_number ((refused_law First i n p).0 e)),
    )
one_upload i (Accepted k n) e =
    omega (
      arith,
      by_verdict uploads i (Accepted k n) e,
      by_verdict accepted i (Accepted k n) e,
      sum_same (λ m. part (refused_with m) i) (λ m. 0) (λ m. by_verdict (refused_with m) i (Accepted k n) e) judging,
      sum_none judging,
    )

pub all_uploads : (is : List (List ℕ)) → total uploads is ≡ total accepted is + sum_over (λ m. total (refused_with m) is) judging
unfolding total sum_over
all_uploads [] = refl
all_uploads (i ∷ is) =
    omega (
      arith,
      sum_both (λ m. part (refused_with m) i) (λ m. total (refused_with m) is) judging,
      one_upload i (judge_of i) refl,
      all_uploads is,
    )

-- Every count that a judgement moves has a place of its own. Assumes nothing.
use mathlib.Core.Path.{◌≡◌, refl, sym, ap, ◌∙◌}
use mathlib.Core.Bool.{Bool, true, false}
use mathlib.Core.List.{List, [], ◌∷◌}
use mathlib.Core.Logic.{inl, inr}
use Prim.Native.Nat.{ℕ, suc, ◌+◌, ◌-◌, ◌<◌, ◌≤◌}
use native.Mathlib.Omega.{arith}
use lib.Dec.{eqb, ltb}
use lib.ListN.{length, get_or}
use borrow.Author.Tests.{ltb-true, ltb-false, eqb-true, ne_eqb}
use Rattle.octets.specs.Pick.{pick}
use Rattle.octets.proofs.Upto.{upto, from, alike}
use Rattle.line_folds.specs.Logical.{logical_lines}
use Rattle.reader.specs.Outcome.{judge_of}
use Rattle.reader.specs.Outcome.{Verdict}
use Rattle.reader.specs.Outcome.{Accepted, Refused}
use Rattle.reader_grammar.specs.Refusals.{Judging}
use Rattle.reader_grammar.proofs.Numbers.{refusal_number}
use Rattle.reader_grammar.proofs.Refused.{refused_law}
use Rattle.report_lines.specs.Rows.{one}
use Rattle.report_weights.specs.Counts.{Count, uploads, accepted, cards, lines, octets, refused_with, lines_of, judging, refusal_at, total_at, count_at}
use Rattle.report_weights.specs.Parts.{part}
use Rattle.report_weights.proofs.PlaceLaws.{at_refusal, at_property}
use Rattle.report_laws.specs.Totals.{position, place_of}
use Rattle.report_laws.proofs.Parts.{by_verdict, counts_past}
use Rattle.property_table.specs.declared.Edition.TheVariants.{First}

-- ---- the place of the count at a place is that place

places_computed : upto (λ p. place_of (count_at p)) 0 59 ≡ upto (λ p. p) 0 59
unfolding upto place_of count_at total_at refusal_at position
places_computed = refl

pub placed : (p : ℕ) → p < 59 → place_of (count_at p) ≡ p
placed p h = alike (λ p. place_of (count_at p)) (λ p. p) 59 places_computed p h

-- ---- the count at the place of a count is that count

found : (n : ℕ) (xs : List ℕ) → position n xs < length xs → get_or xs (position n xs) 0 ≡ n
unfolding position
found n [] h = absurd (omega arith)
found n (x ∷ xs) h = by (eqb n x) refl h (λ q. found n xs q)
  where
    by : (t : Bool) → eqb n x ≡ t → pick t 0 (suc (position n xs)) < suc (length xs) → (position n xs < length xs → get_or xs (position n xs) 0 ≡ n)
        → get_or (x ∷ xs) (pick t 0 (suc (position n xs))) 0 ≡ n
    by true e g rest = sym (eqb-true n x e)
    by false e g rest = rest (omega arith)

refusal_back : (n : ℕ) (t : Bool) → ltb (position n judging) 15 ≡ t → pick t (5 + position n judging) 59 < 59
    → count_at (pick t (5 + position n judging) 59) ≡ refused_with n
unfolding refusal_at
refusal_back n true e h =
    let low : position n judging < 15 = ltb-true (position n judging) 15 e in
    let back : 5 + position n judging - 5 ≡ position n judging = omega arith in
    at_refusal (5 + position n judging) (omega arith) (omega arith)
    ∙ ap refused_with (ap (λ (k : ℕ). get_or judging k 0) back ∙ found n judging low)
refusal_back n false e h = absurd (omega arith)

property_back : (m : ℕ) (t : Bool) → pick t (20 + m) 59 < 59 → count_at (pick t (20 + m) 59) ≡ lines_of m
property_back m true h =
    let back : 20 + m - 20 ≡ m = omega arith in
    at_property (20 + m) (omega arith) ∙ ap lines_of back
property_back m false h = absurd (omega arith)

pub back : (c : Count) → place_of c < 59 → count_at (place_of c) ≡ c
unfolding place_of count_at total_at
back uploads h = refl
back accepted h = refl
back cards h = refl
back lines h = refl
back octets h = refl
back (refused_with n) h = refusal_back n (ltb (position n judging) 15) refl h
back (lines_of m) h = property_back m (ltb m 39) h

-- ---- a judgement refuses with one of the 15 numbers

low_computed : upto (λ n. ltb (position n judging) 15) 1 5 ≡ upto (λ n. true) 1 5
unfolding upto position
low_computed = refl

middle_computed : upto (λ n. ltb (position n judging) 15) 7 6 ≡ upto (λ n. true) 7 6
unfolding upto position
middle_computed = refl

high_computed : upto (λ n. ltb (position n judging) 15) 40 4 ≡ upto (λ n. true) 40 4
unfolding upto position
high_computed = refl

at : (i n k : ℕ) → upto (λ n. ltb (position n judging) 15) i n ≡ upto (λ n. true) i n → i ≤ k → k < i + n → ltb (position k judging) 15 ≡ true
at i n k e h g =
    let there : i + (k - i) ≡ k = omega arith in
    rw there at (from (λ n. ltb (position n judging) 15) (λ n. true) n i e (k - i) (omega arith))

pub judged : {n : ℕ} → Judging n → position n judging < 15
judged {n} (inl h) = ltb-true (position n judging) 15 (at 1 5 n low_computed h.0 (omega (arith, h.1)))
judged {n} (inr (inl h)) = ltb-true (position n judging) 15 (at 7 6 n middle_computed h.0 (omega (arith, h.1)))
judged {n} (inr (inr h)) = ltb-true (position n judging) 15 (at 40 4 n high_computed h.0 (omega (arith, h.1)))

-- ---- no judgement moves a count that has no place

refusal_past : (m : ℕ) → 59 ≤ place_of (refused_with m) → 15 ≤ position m judging
unfolding place_of
refusal_past m h = by (ltb (position m judging) 15) refl h
  where
    by : (t : Bool) → ltb (position m judging) 15 ≡ t → 59 ≤ pick t (5 + position m judging) 59 → 15 ≤ position m judging
    by true e g = absurd (omega (arith, ltb-true (position m judging) 15 e))
    by false e g = ltb-false (position m judging) 15 e

property_past : (m : ℕ) → 59 ≤ place_of (lines_of m) → 39 ≤ m
unfolding place_of
property_past m h = by (ltb m 39) refl h
  where
    by : (t : Bool) → ltb m 39 ≡ t → 59 ≤ pick t (20 + m) 59 → 39 ≤ m
    by true e g = omega (arith, ltb-true m 39 e)
    by false e g = ltb-false m 39 e

refusal_none : (m : ℕ) (i : List ℕ) (v : Verdict) → judge_of i ≡ v → 15 ≤ position m judging → part (refused_with m) i ≡ 0
refusal_none m i (Accepted k n) e h = by_verdict (refused_with m) i (Accepted k n) e
refusal_none m i (Refused n p) e h =
    let low = judged (refusal_number ((refused_law First i n p).0 e)) in
    by_verdict (refused_with m) i (Refused n p) e
    ∙ ap one (ne_eqb n m (λ q. let same = ap (λ (k : ℕ). position k judging) q in omega arith))

property_none : (m : ℕ) (i : List ℕ) (v : Verdict) → judge_of i ≡ v → 39 ≤ m → part (lines_of m) i ≡ 0
property_none m i (Accepted k n) e h = by_verdict (lines_of m) i (Accepted k n) e ∙ counts_past (logical_lines i) m h
property_none m i (Refused n p) e h = by_verdict (lines_of m) i (Refused n p) e

pub no_other : (c : Count) (i : List ℕ) → 59 ≤ place_of c → part c i ≡ 0
unfolding place_of
no_other uploads i h = absurd (omega arith)
no_other accepted i h = absurd (omega arith)
no_other cards i h = absurd (omega arith)
no_other lines i h = absurd (omega arith)
no_other octets i h = absurd (omega arith)
no_other (refused_with m) i h = refusal_none m i (judge_of i) refl (refusal_past m h)
no_other (lines_of m) i h = property_none m i (judge_of i) refl (property_past m h)

-- The places of the reader's refusals: none is past 16,384, so that each fits its half of a word. Assumes nothing.
use mathlib.Core.Path.{◌≡◌, refl}
use mathlib.Core.Bool.{Bool, true, false, not, ◌&&◌}
use mathlib.Core.Option.{Option}
use mathlib.Core.List.{List, [], ◌∷◌}
use Prim.Native.Nat.{ℕ, zero, suc, ◌+◌, ◌-◌, ◌≤◌, min}
use native.Mathlib.Omega.{arith}
use lib.Dec.{eqb, ltb}
use lib.ListN.{length, drop, length-take, length-drop}
use borrow.Author.Tests.{ltb-true, ltb-false}
use Rattle.octets.specs.Pick.{pick}
use Rattle.utf8.specs.Characters.{allowed, first_bad}
use Rattle.line_parser.specs.Parse.{Parse, got, bad}
use Rattle.line_parser.specs.Grammar.{Line}
use Rattle.line_parser.specs.Rule.{parse_line}
use Rattle.line_folds.specs.Folds.{line_length, unfolded}
use Rattle.line_folds.specs.Logical.{lines_by, raw_lines}
use Rattle.line_folds.proofs.PlaceLaws.{place_inside}
use Rattle.value_kinds.specs.Kinds.{value_in}
use Rattle.value_kinds.specs.declared.Fault.{Fault}
use Rattle.value_kinds.specs.declared.Fault.TheVariants.{Fits, Breaks}
use Rattle.card_state.specs.State.{Card, Step, Next, Refused as Halted, Flawed, fresh_card, in_order, second_instance, noted, closed}
use Rattle.card_line.specs.Parts.{row_of_line, kind_of_line, altid_of}
use Rattle.card_judge.specs.Judge.{laden, entered, fitting, judge_parts, judge_parsed, judge_line}
use Rattle.line_breaks.specs.Lone.{first_lone, ends_cr_lf}
use Rattle.reader_walk.specs.Walk.{onward, settled, judge_lines}
use Rattle.reader.specs.Outcome.{verdict_of, judge_in, judge_of}
use Rattle.reader.specs.Outcome.{Verdict}
use Rattle.reader.specs.Outcome.{Accepted, Refused}
use Rattle.property_table.specs.declared.Edition.TheVariants.{First}

-- a refusal of a line is at its start, or names an octet
abbrev At : ℕ → Step → Type 0
At p (Next c) = Unit {0}
At p (Halted n q) = q ≡ p
At p (Flawed n o) = Unit {0}

at_pick : (p : ℕ) (t : Bool) (a b : Step) → At p a → At p b → At p (pick t a b)
at_pick p true a b x y = x
at_pick p false a b x y = y

at_fitting : (p start : ℕ) (f : Fault) (s : Step) → At p s → At p (fitting start f s)
at_fitting p start Fits s x = x
at_fitting p start (Breaks n) s x = tt

at_entered : (c : Card) (p row : ℕ) (altid : Option (List ℕ)) (v : List ℕ) → At p (entered c p row altid v)
unfolding entered closed noted
at_entered c p row altid v =
    at_pick p (eqb row 2) _ _
    (at_pick p c.has_fn _ _ (at_pick p (c.has_member && not c.is_group) _ _ refl tt) refl)
    (at_pick p (second_instance c row altid) _ _ refl tt)

at_parsed : (c : Card) (p : ℕ) (m : Parse Line) → At p (judge_parsed First c p m)
unfolding judge_parts
at_parsed c p (bad e) = refl
at_parsed c p (got x k) =
    at_pick p (in_order c.phase (row_of_line First x)) _ _
    (at_pick p (laden (row_of_line First x) (length x.group) (length x.params)) _ _ refl
    (at_fitting p k (value_in First (row_of_line First x) (kind_of_line First x) x.value) _ (at_entered c p (row_of_line First x) (altid_of x) x.value)))
    refl

at_line : (c : Card) (p : ℕ) (l : List ℕ) → At p (judge_line First c p l)
unfolding judge_line
at_line c p l = at_pick p (ltb (first_bad (allowed false) l) (length l)) _ _ tt (at_parsed c p (parse_line l))

-- the octets of lines with their ends
unfoldable total : List (List ℕ) → ℕ
total [] = 0
total (l ∷ ls) = length l + 2 + total ls

abbrev UpTo : ℕ → Step → Type 0
UpTo q (Next c) = Unit {0}
UpTo q (Halted n p) = p ≤ q
UpTo q (Flawed n o) = o ≤ q

-- the octet lies in the line, or is its end
up_onward : (p q : ℕ) (l : List ℕ) (r : Step) (f : Card → Step) → At p r → p + length l ≤ q → ((c : Card) → UpTo q (f c)) → UpTo q (onward (settled p l r) f)
up_onward p q l (Next c) f a h g = g c
up_onward p q l (Halted n x) f a h g = omega arith
up_onward p q l (Flawed n o) f a h g = omega (arith, place_inside l o)

up_more : (q r : ℕ) (s : Step) → q ≤ r → UpTo q s → UpTo r s
up_more q r (Next c) h u = tt
up_more q r (Halted n p) h u = omega arith
up_more q r (Flawed n o) h u = omega arith

up_lines : (ls : List (List ℕ)) (p : ℕ) (c : Card) → UpTo (p + total ls) (judge_lines First ls p c)
unfolding judge_lines total
up_lines [] p c = tt
up_lines (l ∷ ls) p c =
    up_onward p (p + (length l + 2 + total ls)) l (judge_line First c p (unfolded l)) (judge_lines First ls (p + length l + 2)) (at_line c p (unfolded l)) (omega arith)
    (λ c'. up_more (p + length l + 2 + total ls) (p + (length l + 2 + total ls)) (judge_lines First ls (p + length l + 2) c') (omega arith) (up_lines ls (p + length l + 2) c'))

total_none : (n : ℕ) (l : List ℕ) → length l ≡ 0 → total (lines_by n l) ≡ 0
unfolding lines_by total
total_none zero l e = refl
total_none (suc n) [] e = refl
total_none (suc n) (x ∷ xs) e = absurd (omega arith)

-- k octets of n and an end are taken, and t of the r that are left
taken : (k n r t : ℕ) → r ≡ n - (k + 2) → t ≤ r + 2 → (r ≡ 0 → t ≡ 0) → min k n + 2 + t ≤ n + 2
taken k n zero t e h z = let w = z refl in omega arith
taken k n (suc r) t e h z = omega arith

total_by : (n : ℕ) (l : List ℕ) → total (lines_by n l) ≤ length l + 2
unfolding lines_by total
total_by zero l = omega arith
total_by (suc n) [] = omega arith
total_by (suc n) (x ∷ xs) =
    let k = line_length (x ∷ xs) in
    let rest = drop (k + 2) (x ∷ xs) in
    rw (length-take k (x ∷ xs))
    (taken k (length (x ∷ xs)) (length rest) (total (lines_by n rest)) (length-drop (k + 2) (x ∷ xs)) (total_by n rest) (total_none n rest))

total_raw : (i : List ℕ) → total (raw_lines i) ≤ length i + 2
unfolding raw_lines
total_raw i = total_by (length i) i

verdict_low : (n q : ℕ) (s : Step) → UpTo q s → (k p : ℕ) → verdict_of n s ≡ Refused k p → n ≤ q → p ≤ q
unfolding verdict_of
verdict_low n q (Halted m x) u k p e h = let w : x ≡ p = cc in omega arith
verdict_low n q (Flawed m x) u k p e h = let w : x ≡ p = cc in omega arith
verdict_low n q (Next c) u k p e h = by (eqb c.phase 0) e
  where
    by : (t : Bool) → pick t (Accepted c.cards c.lines) (Refused 9 n) ≡ Refused k p → p ≤ q
    by true e = let z : ◌≡◌ {A = ℕ} 0 1 = cc in absurd (omega arith)
    by false e = let w : n ≡ p = cc in omega arith

-- a choice whose first case refuses at a low place
refused_by : {n p : ℕ} (t : Bool) (m q : ℕ) (v : Verdict) → pick t (Refused m q) v ≡ Refused n p → q ≤ 16386 → (t ≡ false → v ≡ Refused n p → p ≤ 16386) → p ≤ 16386
refused_by {n} {p} true m q v e h f = let w : q ≡ p = cc in omega arith
refused_by false m q v e h f = f refl e

-- 3: the place stands in the input; then 4 and the lines
refused_lone : {n p : ℕ} (i : List ℕ) (v : Verdict) → length i ≤ 16384 → pick (ltb (first_lone i) (length i)) (Refused 3 (first_lone i)) v ≡ Refused n p
    → (v ≡ Refused n p → p ≤ 16386) → p ≤ 16386
refused_lone {n} {p} i v h e f = by (ltb (first_lone i) (length i)) refl e
  where
    by : (t : Bool) → ltb (first_lone i) (length i) ≡ t → pick t (Refused 3 (first_lone i)) v ≡ Refused n p → p ≤ 16386
    by true q e = let w : first_lone i ≡ p = cc in omega (arith, ltb-true (first_lone i) (length i) q)
    by false q e = f e

refused_end : {n p : ℕ} (i : List ℕ) → length i ≤ 16384
    → pick (ends_cr_lf i) (verdict_of (length i) (judge_lines First (raw_lines i) 0 fresh_card)) (Refused 4 (length i)) ≡ Refused n p → p ≤ 16386
refused_end {n} {p} i h e = by (ends_cr_lf i) e
  where
    by : (t : Bool) → pick t (verdict_of (length i) (judge_lines First (raw_lines i) 0 fresh_card)) (Refused 4 (length i)) ≡ Refused n p → p ≤ 16386
    by false e = let w : length i ≡ p = cc in omega arith
    by true e =
        verdict_low (length i) 16386 (judge_lines First (raw_lines i) 0 fresh_card)
        (up_more (0 + total (raw_lines i)) 16386 (judge_lines First (raw_lines i) 0 fresh_card) (omega (arith, total_raw i)) (up_lines (raw_lines i) 0 fresh_card)) n p e (omega arith)

pub place_low : (i : List ℕ) (n p : ℕ) → judge_of i ≡ Refused n p → p ≤ 16386
unfolding judge_in
place_low i n p e =
    refused_by (ltb 16384 (length i)) 1 16384 _ e (omega arith) (λ t₁ q₁.
    let short = ltb-false 16384 (length i) t₁ in
    refused_by (eqb (length i) 0) 2 0 _ q₁ (omega arith) (λ t₂ q₂.
    refused_lone i _ short q₂ (λ q₃. refused_end i short q₃)))

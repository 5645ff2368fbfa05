-- What is printed tells the report: equal texts are those of equal counts. Assumes nothing.
use mathlib.Core.Path.{◌≡◌, refl, sym, ap, ◌∙◌}
use mathlib.Core.Bool.{Bool, true, false, not, ◌&&◌, ◌||◌}
use mathlib.Core.List.{List, [], ◌∷◌, ◌++◌, append_assoc}
use Prim.Native.Nat.{ℕ, zero, suc, ◌+◌, ◌*◌, ◌-◌, ◌/◌, ◌%◌, ◌^◌, ◌<◌, ◌≤◌}
use native.Mathlib.Nat.{pow-suc}
use native.Mathlib.Omega.{arith}
use lib.Dec.{eqb, ltb}
use lib.ListN.{length, get_or, drop, length-append}
use borrow.Author.Tests.{eqb-true, ltb-true, lt-ltb, eq-eqb, ne_eqb}
use Rattle.program_output.specs.Digits.{hex_digit_ascii}
use Rattle.octets.specs.Ascii as ascii
use Rattle.octets.specs.Pick.{pick}
use Rattle.octets.proofs.Bools.{and_both, clash}
use Rattle.program_output.specs.Digits.{decimal_in, decimal}
use Rattle.report_lines.specs.Rows.{numbers_from}
use Rattle.report_weights.specs.Counts.{Count, uploads, accepted, cards, lines, octets, refused_with, lines_of, counts}
use Rattle.report_weights.proofs.PlaceLaws.{counts_length}
use Rattle.report.specs.Text.{name, always, row, has, shown, rows_of, report_text}
use Rattle.report.specs.declared.Report.{Report}
use Rattle.report_laws.specs.Reports.{Values}

-- ---- lists without an octet

unfoldable lacks : ℕ → List ℕ → Bool
lacks s [] = true
lacks s (x ∷ xs) = not (eqb x s) && lacks s xs

first_other : (s x : ℕ) (xs : List ℕ) → lacks s (x ∷ xs) ≡ true → x ≡ s → ⊥
unfolding lacks
first_other s x xs h e =
    let n : not (eqb x s) ≡ true = (and_both (not (eqb x s)) (lacks s xs) h).0 in
    let t : eqb x s ≡ true = eq-eqb x s e in
    let z : not true ≡ true = ap not (sym t) ∙ n in
    clash cc

rest_lacks : (s x : ℕ) (xs : List ℕ) → lacks s (x ∷ xs) ≡ true → lacks s xs ≡ true
unfolding lacks
rest_lacks s x xs h = (and_both (not (eqb x s)) (lacks s xs) h).1

lacks_more : (s : ℕ) (xs ys : List ℕ) → lacks s xs ≡ true → lacks s ys ≡ true → lacks s (xs ++ ys) ≡ true
unfolding lacks
lacks_more s [] ys h g = g
lacks_more s (x ∷ xs) ys h g =
    rw (and_both (not (eqb x s)) (lacks s xs) h).0 (lacks_more s xs ys (and_both (not (eqb x s)) (lacks s xs) h).1 g)

-- two lists without s, each before an s
split : (s : ℕ) (a b x y : List ℕ) → lacks s a ≡ true → lacks s b ≡ true → a ++ (s ∷ x) ≡ b ++ (s ∷ y) → (a ≡ b) × (x ≡ y)
split s [] [] x y h g e = (refl, cc)
split s [] (d ∷ b) x y h g e =
    let q : d ≡ s = cc in
    absurd (first_other s d b g q)
split s (c ∷ a) [] x y h g e =
    let q : c ≡ s = cc in
    absurd (first_other s c a h q)
split s (c ∷ a) (d ∷ b) x y h g e =
    let q : c ≡ d = cc in
    let r : a ++ (s ∷ x) ≡ b ++ (s ∷ y) = cc in
    let t = split s a b x y (rest_lacks s c a h) (rest_lacks s d b g) r in
    (cc (q, t.0), t.1)

-- ---- decimal digits

digit_of : (d : ℕ) → d < 10 → hex_digit_ascii d ≡ 48 + d
digit_of d h = rw (lt-ltb d 10 h)

one_lacks : (s d : ℕ) → s < 48 → d < 10 → lacks s (hex_digit_ascii d ∷ []) ≡ true
unfolding lacks
one_lacks s d h g = rw (digit_of d g, ne_eqb (48 + d) s (λ e. omega arith))

digits_lack : (s k n : ℕ) → s < 48 → lacks s (decimal_in k n) ≡ true
unfolding decimal_in lacks
digits_lack s zero n h = refl
digits_lack s (suc k) n h = by (ltb n 10) refl (digits_lack s k (n / 10) h)
  where
    by : (t : Bool) → ltb n 10 ≡ t → lacks s (decimal_in k (n / 10)) ≡ true → lacks s (pick t (hex_digit_ascii n ∷ []) (decimal_in k (n / 10) ++ (hex_digit_ascii (n % 10) ∷ []))) ≡ true
    by true e rest = one_lacks s n h (ltb-true n 10 e)
    by false e rest = lacks_more s (decimal_in k (n / 10)) (hex_digit_ascii (n % 10) ∷ []) rest (one_lacks s (n % 10) h (omega arith))

decimal_lacks : (s n : ℕ) → s < 48 → lacks s (decimal n) ≡ true
unfolding decimal
decimal_lacks s n h = digits_lack s 20 n h

-- the number that digits stand for, after those of a
unfoldable worth : ℕ → List ℕ → ℕ
worth a [] = a
worth a (x ∷ xs) = worth (10 * a + (x - 48)) xs

worth_last : (a : ℕ) (xs : List ℕ) (x : ℕ) → worth a (xs ++ (x ∷ [])) ≡ 10 * worth a xs + (x - 48)
unfolding worth
worth_last a [] x = refl
worth_last a (y ∷ xs) x = worth_last (10 * a + (y - 48)) xs x

digits_worth : (k n : ℕ) → n < 10 ^ k → worth 0 (decimal_in k n) ≡ n
unfolding decimal_in worth
digits_worth zero n h = omega arith
digits_worth (suc k) n h = by (ltb n 10) refl (digits_worth k (n / 10) (omega (arith, pow-suc 10 k)))
  where
    by : (t : Bool) → ltb n 10 ≡ t → worth 0 (decimal_in k (n / 10)) ≡ n / 10
        → worth 0 (pick t (hex_digit_ascii n ∷ []) (decimal_in k (n / 10) ++ (hex_digit_ascii (n % 10) ∷ []))) ≡ n
    by true e rest = rw (digit_of n (ltb-true n 10 e)) (omega arith)
    by false e rest =
        worth_last 0 (decimal_in k (n / 10)) (hex_digit_ascii (n % 10))
        ∙ rw (rest, digit_of (n % 10) (omega arith)) (omega arith)

-- a number of 32 bits is told by its digits
decimal_tells : (n m : ℕ) → n ≤ 4294967295 → m ≤ 4294967295 → decimal n ≡ decimal m → n ≡ m
unfolding decimal
decimal_tells n m h g e = sym (digits_worth 20 n (omega arith)) ∙ ap (worth 0) e ∙ digits_worth 20 m (omega arith)

-- ---- names

name_lacks : (c : Count) → lacks 32 (name c) ≡ true
unfolding name ascii.octets lacks
name_lacks uploads = refl
name_lacks accepted = refl
name_lacks cards = refl
name_lacks lines = refl
name_lacks octets = refl
name_lacks (refused_with n) = decimal_lacks 32 n (omega arith)
name_lacks (lines_of m) = decimal_lacks 32 m (omega arith)

unfoldable alike : List ℕ → List ℕ → Bool
alike [] [] = true
alike [] (y ∷ ys) = false
alike (x ∷ xs) [] = false
alike (x ∷ xs) (y ∷ ys) = eqb x y && alike xs ys

alike_self : (xs : List ℕ) → alike xs xs ≡ true
unfolding alike
alike_self [] = refl
alike_self (x ∷ xs) = rw (eq-eqb x x refl) (alike_self xs)

-- the name of c is none of the names of ds
unfoldable apart : List ℕ → List Count → Bool
apart n [] = true
apart n (d ∷ ds) = not (alike n (name d)) && apart n ds

-- no two have one name
unfoldable distinct : List Count → Bool
distinct [] = true
distinct (c ∷ cs) = apart (name c) cs && distinct cs

names_computed : distinct counts ≡ true
unfolding distinct apart alike name ascii.octets decimal decimal_in counts numbers_from
names_computed = refl

first_apart : (c d : Count) (ds : List Count) → apart (name c) (d ∷ ds) ≡ true → name c ≡ name d → ⊥
unfolding apart
first_apart c d ds h e =
    let n : not (alike (name c) (name d)) ≡ true = (and_both (not (alike (name c) (name d))) (apart (name c) ds) h).0 in
    let t : alike (name c) (name d) ≡ true = ap (alike (name c)) (sym e) ∙ alike_self (name c) in
    let z : not true ≡ true = ap not (sym t) ∙ n in
    clash cc

-- ---- rows

-- a row and what stands after it
row_then : (c : Count) (n : ℕ) (rest : List ℕ) → row c n ++ rest ≡ name c ++ (32 ∷ (decimal n ++ (10 ∷ rest)))
unfolding row
row_then c n rest = simp append_assoc

-- no row of other counts starts with this name
absent : (c : Count) (cs : List Count) (ms : List ℕ) (y : List ℕ) → apart (name c) cs ≡ true → name c ++ (32 ∷ y) ≡ rows_of cs ms → ⊥
unfolding rows_of shown apart
absent c [] ms y h e = omega (arith, ap length e, length-append (name c) (32 ∷ y))
absent c (d ∷ ds) ms y h e =
    by (has d (get_or ms 0 0)) e (λ q. absent c ds (drop 1 ms) y (later h) q)
  where
    later : apart (name c) (d ∷ ds) ≡ true → apart (name c) ds ≡ true
    later h = (and_both (not (alike (name c) (name d))) (apart (name c) ds) h).1

    by : (t : Bool) → name c ++ (32 ∷ y) ≡ pick t (row d (get_or ms 0 0)) [] ++ rows_of ds (drop 1 ms) → (name c ++ (32 ∷ y) ≡ rows_of ds (drop 1 ms) → ⊥) → ⊥
    by true q rest =
        first_apart c d ds h (split 32 (name c) (name d) y _ (name_lacks c) (name_lacks d) (q ∙ row_then d (get_or ms 0 0) (rows_of ds (drop 1 ms)))).0
    by false q rest = rest q

-- a count without a row is 0
not_has : (c : Count) (n : ℕ) → has c n ≡ false → n ≡ 0
unfolding has
not_has c n h = by (always c) (eqb n 0) refl h
  where
    by : (a b : Bool) → eqb n 0 ≡ b → a || not b ≡ false → n ≡ 0
    by true b e q = clash cc
    by false true e q = eqb-true n 0 e
    by false false e q = clash cc

-- the first count of those left is told, and the rows after it are the same
module _ (c : Count) (cs : List Count) (n m : ℕ) (ns ms : List ℕ) (a : apart (name c) cs ≡ true) (hn : n ≤ 4294967295) (hm : m ≤ 4294967295) where
  first_told : shown c n ++ rows_of cs ns ≡ shown c m ++ rows_of cs ms → (n ≡ m) × (rows_of cs ns ≡ rows_of cs ms)
  unfolding shown
  first_told e = by (has c n) (has c m) refl refl e
    where
      by : (s t : Bool) → has c n ≡ s → has c m ≡ t → pick s (row c n) [] ++ rows_of cs ns ≡ pick t (row c m) [] ++ rows_of cs ms
          → (n ≡ m) × (rows_of cs ns ≡ rows_of cs ms)
      by true true p q f =
          let x : List ℕ = decimal n ++ (10 ∷ rows_of cs ns) in
          let y : List ℕ = decimal m ++ (10 ∷ rows_of cs ms) in
          let u = split 32 (name c) (name c) x y (name_lacks c) (name_lacks c) (sym (row_then c n (rows_of cs ns)) ∙ f ∙ row_then c m (rows_of cs ms)) in
          let v = split 10 (decimal n) (decimal m) (rows_of cs ns) (rows_of cs ms) (decimal_lacks 10 n (omega arith)) (decimal_lacks 10 m (omega arith)) u.1 in
          (decimal_tells n m hn hm v.0, v.1)
      by false false p q f = (not_has c n p ∙ sym (not_has c m q), f)
      by true false p q f = absurd (absent c cs ms (decimal n ++ (10 ∷ rows_of cs ns)) a (sym (row_then c n (rows_of cs ns)) ∙ f))
      by false true p q f = absurd (absent c cs ns (decimal m ++ (10 ∷ rows_of cs ms)) a (sym (row_then c m (rows_of cs ms)) ∙ sym f))

abbrev Low : List ℕ → Type 0
Low ns = (p : ℕ) → get_or ns p 0 ≤ 4294967295

rows_tell : (cs : List Count) (ns ms : List ℕ) → distinct cs ≡ true → length ns ≡ length cs → length ms ≡ length cs → Low ns → Low ms
    → rows_of cs ns ≡ rows_of cs ms → ns ≡ ms
unfolding distinct rows_of
rows_tell [] [] [] d en em ln lm e = refl
rows_tell [] [] (m ∷ ms) d en em ln lm e = absurd (omega arith)
rows_tell [] (n ∷ ns) ms d en em ln lm e = absurd (omega arith)
rows_tell (c ∷ cs) [] ms d en em ln lm e = absurd (omega arith)
rows_tell (c ∷ cs) (n ∷ ns) [] d en em ln lm e = absurd (omega arith)
rows_tell (c ∷ cs) (n ∷ ns) (m ∷ ms) d en em ln lm e =
    let both = and_both (apart (name c) cs) (distinct cs) d in
    let one = first_told c cs n m ns ms both.0 (ln 0) (lm 0) e in
    let rest = rows_tell cs ns ms both.1 (omega arith) (omega arith) (λ p. ln (suc p)) (λ p. lm (suc p)) one.1 in
    cc (one.0, rest)

pub tells : (r s : Report) → Values r → Values s → report_text r ≡ report_text s → r ≡ s
unfolding report_text
tells r s vr vs e =
    let q = rows_tell counts r.counts s.counts names_computed (vr.size ∙ sym counts_length) (vs.size ∙ sym counts_length) vr.each vs.each e in
    ap (λ (cs : List ℕ). record { counts = cs }) q

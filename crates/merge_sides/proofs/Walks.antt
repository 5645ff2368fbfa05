-- Walks over lines, entries and marks by number: one more of those that are left, and none; and the source of a value. Assumes nothing.
use mathlib.Core.Path.{◌≡◌, refl, ap, ◌∙◌}
use mathlib.Core.Bool.{false}
use mathlib.Core.List.{List, [], ◌∷◌}
use Prim.Native.Nat.{ℕ, zero, suc, ◌+◌, ◌-◌, ◌<◌, ◌≤◌}
use native.Mathlib.Numerals.{add-one}
use native.Mathlib.Omega.{arith}
use lib.Dec.{eqb, ltb}
use lib.ListN.{length, get_or, take, drop, length-take, length-drop, drop_of_length-le}
use lib.Seq.{drop-cons}
use lib.Pointwise.{pointwise}
use borrow.Author.Tests.{lt-ltb, le-ltb, eqb-true, eqb-false, ltb-true, ltb-false}
use Rattle.std.specs.Prelude.{Result, Ok, Err}
use Rattle.std.specs.Result.{OkIff, result_unwrap_or}
use Rattle.std.specs.List.{filter, range_with_len, list_any}
use Rattle.numbers.specs.Fields as field
use Rattle.octets.specs.Classes.{run, digit}
use Rattle.octets.specs.Slices.{part}
use Rattle.octets.proofs.Bools.{by}
use Rattle.merge_sources.specs.Row.{none}
use Rattle.merge_sources.specs.declared.Source.{Source}
use Rattle.merge_sources.specs.declared.Row.{Row}
use Rattle.merge_pids.specs.Numbers.{digits}
use Rattle.merge_pids.specs.Marks.{Marked, put_all}
use Rattle.merge_pids.proofs.MarkLaws.{put_append}
use Rattle.merge_sides.specs.Lines.{field_at, same_from, same_octets, count_lines}
use Rattle.merge_sides.specs.Sources.{narrowed, source_in, with_line, with_lines, over_entries}
use Rattle.merge_sides.specs.Marks.{line_marks, marks_from, over_from}

pub left : (n i : ℕ) → i < n → n - i ≡ suc (n - (i + 1))
left n i h = omega arith

pub over : (n i : ℕ) → n ≤ i → n - i ≡ 0
over n i h = omega arith

pub part_at : (c : List ℕ) {a b x y : ℕ} → a ≡ x → b ≡ y → part c a b ≡ part c x y
part_at c e f = rw (e, f)

pub part_short : (c : List ℕ) (a e : ℕ) → length (part c a e) ≤ length c
part_short c a e =
    by (ltb (length c) e)
    (λ p. rw p (omega arith))
    (λ p. by (ltb e a) (λ q. rw (p, q) (omega arith)) (λ q. rw (p, q) (omega (arith, length-take (e - a) (drop a c), length-drop a c))))

pub sum_at : {a b x y : ℕ} → a ≡ x → b ≡ y → a + b ≡ x + y
sum_at e f = omega arith

-- ---- what the library's methods say

-- of two lists, octet by octet
octets_are : (xs ys : List ℕ) (i k : ℕ) → i + k ≡ length xs → i + k ≡ length ys → pointwise eqb (drop i xs) (drop i ys) ≡ same_from xs ys i k
unfolding same_from
octets_are xs ys i zero h g = rw (drop_of_length-le xs {i = i} (omega arith), drop_of_length-le ys {i = i} (omega arith))
octets_are xs ys i (suc k) h g =
    let here : i < length xs = omega arith in
    let there : i < length ys = omega arith in
    let rest = rw add-one at (octets_are xs ys (i + 1) k (omega arith) (omega arith)) in
    rw (drop-cons xs i 0 here, drop-cons ys i 0 there, rest, add-one)
    (by (eqb (get_or xs i 0) (get_or ys i 0)) (λ e. rw e) (λ e. rw e))

lengths_differ : (xs ys : List ℕ) → (length xs ≡ length ys → ⊥) → pointwise eqb xs ys ≡ false
lengths_differ [] [] h = absurd (h refl)
lengths_differ [] (y ∷ ys) h = refl
lengths_differ (x ∷ xs) [] h = refl
lengths_differ (x ∷ xs) (y ∷ ys) h =
    let rest = lengths_differ xs ys (λ e. h (ap suc e)) in
    by (eqb x y) (λ e. rw (e, rest)) (λ e. rw e)

pub octets_compared : (xs ys : List ℕ) → pointwise eqb xs ys ≡ same_octets xs ys
unfolding same_octets
octets_compared xs ys =
    by (eqb (length xs) (length ys))
    (λ e. rw e (octets_are xs ys 0 (length xs) (omega arith) (let n = eqb-true (length xs) (length ys) e in omega arith)))
    (λ e. rw e (lengths_differ xs ys (eqb-false (length xs) (length ys) e)))

-- of the lines from i on that have a property number
module _ (rs : List ℕ) (row : ℕ) where
  pub lines_counted : (i k : ℕ) → length (filter (λ j. eqb (field_at rs j field.property) row) (range_with_len i k)) ≡ count_lines rs row i k
  unfolding count_lines
  lines_counted i zero = refl
  lines_counted i (suc k) =
      by (eqb (field_at rs i field.property) row)
      (λ e. rw e (omega (arith, lines_counted (i + 1) k)))
      (λ e. rw e (omega (arith, lines_counted (i + 1) k)))

-- of numbers and entries over a limit
module _ (xs : List ℕ) where
  pub over_any : (i k : ℕ) → i + k ≤ length xs → list_any (λ x. ltb 65535 x) (take k (drop i xs)) ≡ over_from xs i k
  unfolding over_from
  over_any i zero h = refl
  over_any i (suc k) h =
      let here : i < length xs = omega arith in
      let rest = rw add-one at (over_any (i + 1) k (omega arith)) in
      rw (drop-cons xs i 0 here, rest, add-one) (by (ltb 65535 (get_or xs i 0)) (λ e. rw e) (λ e. rw e))

module _ (es : List Source) where
  pub entries_any : (i k : ℕ) → i + k ≡ length es → list_any (λ (e : Source). ltb 65535 e.number) (drop i es) ≡ over_entries es i k
  unfolding over_entries
  entries_any i zero h = rw (drop_of_length-le es {i = i} (omega arith))
  entries_any i (suc k) h =
      let here : i < length es = omega arith in
      let rest = rw add-one at (entries_any (i + 1) k (omega arith)) in
      rw (drop-cons es i none here, rest, add-one) (by (ltb 65535 (get_or es i none).number) (λ e. rw e) (λ e. rw e))

-- of a number in 32 bits
pub saturated : {E : Type 0} (r : Result ℕ E) (n : ℕ) → OkIff r (n < 4294967296) n → result_unwrap_or r 4294967295 ≡ narrowed n
unfolding narrowed
saturated (Ok v) n h =
    by (ltb 4294967295 n) (λ e. absurd (omega (arith, h.0, ltb-true 4294967295 n e))) (λ e. rw e h.1)
saturated (Err x) n h =
    by (ltb 4294967295 n) (λ e. rw e) (λ e. absurd (h (omega (arith, ltb-false 4294967295 n e))))

-- ---- walks

module _ (r : Row) (c rs : List ℕ) (n i : ℕ) where
  pub lines_turn : i < n → with_lines r c rs i (n - i) ≡ with_lines (with_line r c rs i) c rs (i + 1) (n - (i + 1))
  unfolding with_lines
  lines_turn h = rw (left n i h)

  pub lines_over : n ≤ i → with_lines r c rs i (n - i) ≡ r
  unfolding with_lines
  lines_over h = rw (over n i h)

module _ (st : Marked) (c rs : List ℕ) (n i : ℕ) where
  pub marks_turn : i < n → put_all st (marks_from c rs i (n - i)) ≡ put_all (put_all st (line_marks c rs i)) (marks_from c rs (i + 1) (n - (i + 1)))
  unfolding marks_from
  marks_turn h = ap (put_all st) (rw (left n i h)) ∙ put_append st (line_marks c rs i) (marks_from c rs (i + 1) (n - (i + 1)))

  pub marks_over : n ≤ i → put_all st (marks_from c rs i (n - i)) ≡ st
  unfolding marks_from put_all
  marks_over h = rw (over n i h)

-- the source of the value v, whose digits end at d
module _ (v : List ℕ) (at d num place : ℕ) (is-d : d ≡ run digit v) (is-num : num ≡ digits 0 (take d v)) where
  pub source_short : length v ≤ d → place ≡ narrowed (at + d) → record { number = num; place = place; length = 0 } ≡ source_in v at
  unfolding source_in
  source_short h p = rw (is-num, p, is-d, le-ltb (run digit v) (length v) (omega arith))

  pub source_long : (len : ℕ) → d < length v → place ≡ narrowed (at + d + 1) → len ≡ narrowed (length v - d - 1)
      → record { number = num; place = place; length = len } ≡ source_in v at
  unfolding source_in
  source_long len h p q = rw (is-num, p, q, is-d, lt-ltb (run digit v) (length v) (omega arith))

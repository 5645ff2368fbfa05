-- Laws of the search for a number and of the comparison of two rows. Assumes nothing.
use Prim.Native.Nat.{ℕ, zero, suc, ◌+◌, ◌<◌, ◌≤◌}
use native.Mathlib.Numerals.{add-one}
use mathlib.Core.Path.{◌≡◌, refl, sym, ap, ◌∙◌}
use mathlib.Core.Bool.{Bool, ◌&&◌}
use mathlib.Core.List.{List}
use native.Mathlib.Omega.{arith}
use lib.Dec.{eqb, ltb}
use lib.ListN.{length, get_or, take, drop, drop_of_length-le}
use lib.Seq.{drop-cons}
use lib.Pointwise.{pointwise}
use borrow.Author.Tests.{ltb-true, ltb-false}
use Rattle.std.specs.Prelude.{min}
use Rattle.std.specs.List.{position, position_from}
use Rattle.std.proofs.lemmas.Iterator.Adapters.{position_from-zero}
use Rattle.octets.proofs.Bools.{by}
use Rattle.merge_sources.specs.Row.{none, least, first_in, same_entry, same_entries, same_row}
use Rattle.merge_sources.specs.declared.Row.{Row}
use Rattle.merge_sources.specs.declared.Source.{Source}

-- ---- the entries that are looked at, and the first of a number among them

least_is : (n : ℕ) → least n ≡ min n 16
unfolding least
least_is n =
    by (ltb n 16)
    (λ e. let h : n < 16 = ltb-true n 16 e in rw e (omega arith))
    (λ e. let h : 16 ≤ n = ltb-false n 16 e in rw e (omega arith))

module _ (es : List Source) (number : ℕ) where
  abbrev Has : Source → Bool
  Has e = eqb e.number number

  first_from : (i k : ℕ) → i + k ≤ length es → first_in es i k number ≡ position_from Has i (take k (drop i es))
  unfolding first_in
  first_from i zero h = refl
  first_from i (suc k) h =
      let here : i < length es = omega arith in
      rw (drop-cons es i none here, first_from (i + 1) k (omega arith), add-one)

  pub first_is : (count n : ℕ) → n ≡ min count 16 → length es ≡ 16 → first_in es 0 (least count) number ≡ position Has (take n es)
  first_is count n e h =
      ap (λ (k : ℕ). first_in es 0 k number) (least_is count ∙ sym e) ∙ first_from 0 n (omega arith) ∙ sym (position_from-zero Has (take n es))

-- ---- two rows, entry by entry

module _ (E : Source → Source → Bool) (each : (a b : Source) → E a b ≡ eqb a.number b.number && (eqb a.place b.place && eqb a.length b.length)) where
  entry_is : (a b : Source) → E a b ≡ same_entry a b
  unfolding same_entry
  entry_is a b =
      each a b
      ∙ by (eqb a.number b.number) (λ e. by (eqb a.place b.place) (λ f. rw (e, f)) (λ f. rw (e, f))) (λ e. rw e)

  entries_are : (xs ys : List Source) (i k : ℕ) → i + k ≡ length xs → i + k ≡ length ys → pointwise E (drop i xs) (drop i ys) ≡ same_entries xs ys i k
  unfolding same_entries
  entries_are xs ys i zero h g = rw (drop_of_length-le xs {i = i} (omega arith), drop_of_length-le ys {i = i} (omega arith))
  entries_are xs ys i (suc k) h g =
      let there : i < length xs = omega arith in
      let too : i < length ys = omega arith in
      let rest = rw add-one at (entries_are xs ys (i + 1) k (omega arith) (omega arith)) in
      rw (drop-cons xs i none there, drop-cons ys i none too, entry_is, rest, add-one)
      (by (same_entry (get_or xs i none) (get_or ys i none)) (λ e. rw e) (λ e. rw e))

  pub rows_are : (a b : Row) → length a.entries ≡ 16 → length b.entries ≡ 16 → eqb a.count b.count && pointwise E a.entries b.entries ≡ same_row a b
  unfolding same_row
  rows_are a b h g =
      by (eqb a.count b.count) (λ e. rw e (entries_are a.entries b.entries 0 16 (sym h) (sym g))) (λ e. rw e)

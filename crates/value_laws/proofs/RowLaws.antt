-- Finding a row: a listed row is found exactly by its own name without case, and row 0 by any other. Assumes nothing.
use mathlib.Core.Path.{◌≡◌, refl, sym, ap, subst, ◌∙◌}
use mathlib.Core.Bool.{true, false, false≢true}
use mathlib.Core.List.{List, [], ◌∷◌}
use mathlib.Core.Logic.{◌↔◌}
use Prim.Native.Nat.{ℕ, zero, suc, ◌+◌, ◌-◌, ◌<◌, ◌≤◌}
use native.Mathlib.Omega.{arith}
use lib.Dec.{eqb}
use borrow.Author.Tests.{eq-eqb, eqb-true}
use Rattle.octets.specs.Cases.{lower, same}
use Rattle.octets.specs.Ascii.{octets}
use Rattle.property_table.specs.declared.Edition.{Edition}
use Rattle.property_table.specs.Rows.{rows, newer, all_rows, row_count, row_at, row_of}
use Rattle.octets.proofs.Bools.{by, and_both}
use Rattle.octets.proofs.Upto.{upto, alike}
use Rattle.property_table.proofs.RowLaws.{has_row, count_low, search_from, search_start, search_found, search_next, search_none}

-- two names that a third is the same as are the same
pub same_both : (a b c : List ℕ) → same a b ≡ true → same a c ≡ true → same b c ≡ true
unfolding same
same_both [] [] c e f = f
same_both [] (y ∷ b) c e f = absurd (false≢true e)
same_both (x ∷ a) [] c e f = absurd (false≢true e)
same_both (x ∷ a) (y ∷ b) [] e f = absurd (false≢true f)
same_both (x ∷ a) (y ∷ b) (z ∷ c) e f =
    let g = and_both (eqb (lower x) (lower y)) (same a b) e in
    let h = and_both (eqb (lower x) (lower z)) (same a c) f in
    let k : lower y ≡ lower z = sym (eqb-true (lower x) (lower y) g.0) ∙ eqb-true (lower x) (lower z) h.0 in
    rw (eq-eqb (lower y) (lower z) k) (same_both a b c g.1 h.1)

-- no two rows have the same name
distinct_names : (m n : ℕ) → m < 44 → n < 44 → same (row_at m).name (row_at n).name ≡ eqb m n
unfolding upto row_at rows newer all_rows octets same lower
distinct_names m n g h =
    alike (λ i. same (row_at m).name (row_at i).name) (λ i. eqb m i) 44
    (alike (λ j. upto (λ i. same (row_at j).name (row_at i).name) 0 44) (λ j. upto (λ i. eqb j i) 0 44) 44 refl m g) n h

one_row : (v : List ℕ) (m n : ℕ) → m < 44 → n < 44 → same v (row_at m).name ≡ true → same v (row_at n).name ≡ true → m ≡ n
one_row v m n g h e f = eqb-true m n (sym (distinct_names m n g h) ∙ same_both v (row_at m).name (row_at n).name e f)

module _ (e : Edition) (v : List ℕ) where
  reach : (d m n : ℕ) → m + d ≡ n → n < row_count e → same v (row_at n).name ≡ true → search_from e v m ≡ n
  reach zero m n q h f =
      let here : m ≡ n = omega arith in
      subst (λ (k : ℕ). search_from e v k ≡ n) (sym here) (search_found e v n h f)
  reach (suc d) m n q h f =
      let low : m < row_count e = omega arith in
      let all = count_low e in
      by (same v (row_at m).name)
      (λ g. let z = one_row v m n (omega arith) (omega arith) g f in absurd (omega arith))
      (λ g. search_next e v m low g ∙ reach d (m + 1) n (omega arith) h f)

  -- a row that the search finds from row m on has the name, and is no row before m
  pub named : (d m n : ℕ) → m + d ≡ row_count e → 0 < n → search_from e v m ≡ n → (n < row_count e) × (same v (row_at n).name ≡ true) × (m ≤ n)
  named zero m n q p f =
      let over : m ≡ row_count e = omega arith in
      let none : n ≡ 0 = sym f ∙ ap (search_from e v) over ∙ search_none e v in
      absurd (omega arith)
  named (suc d) m n q p f =
      let low : m < row_count e = omega arith in
      by (same v (row_at m).name)
      (λ g. let here : m ≡ n = sym (search_found e v m low g) ∙ f in (omega arith, subst (λ (k : ℕ). same v (row_at k).name ≡ true) here g, omega arith))
      (λ g. let k = named d (m + 1) n (omega arith) p (sym (search_next e v m low g) ∙ f) in (k.0, k.1, omega (arith, k.2)))

  listed : (n : ℕ) → 0 < n → row_of e v ≡ n → (n < row_count e) × (same v (row_at n).name ≡ true)
  listed n p f = let some = has_row e in let k = named (row_count e - 1) 1 n (omega arith) p (sym (search_start e v) ∙ f) in (k.0, k.1)

  -- a listed row is found exactly by its name without case
  pub found : (n : ℕ) → 0 < n → n < row_count e → (row_of e v ≡ n) ↔ (same v (row_at n).name ≡ true)
  found n p h = (
    λ f. (listed n p f).1,
    λ f. search_start e v ∙ by_distance n p h f,
  )
    where
      by_distance : (n : ℕ) → 0 < n → n < row_count e → same v (row_at n).name ≡ true → search_from e v 1 ≡ n
      by_distance zero p h f = absurd (omega arith)
      by_distance (suc d) p h f = reach d 1 (suc d) (omega arith) h f

  -- row 0 is any other name's
  pub not_found : (row_of e v ≡ 0) ↔ ((n : ℕ) → 0 < n → n < row_count e → same v (row_at n).name ≡ false)
  not_found = (to, from)
    where
      to : row_of e v ≡ 0 → (n : ℕ) → 0 < n → n < row_count e → same v (row_at n).name ≡ false
      to q n p h = by (same v (row_at n).name) (λ f. let z = (found n p h).1 f in absurd (omega (arith, q))) (λ f. f)

      from : ((n : ℕ) → 0 < n → n < row_count e → same v (row_at n).name ≡ false) → row_of e v ≡ 0
      from f = by_row (row_of e v) refl
        where
          by_row : (n : ℕ) → row_of e v ≡ n → n ≡ 0
          by_row zero q = refl
          by_row (suc n) q =
              let k = listed (suc n) (omega arith) q in
              absurd (false≢true (sym (f (suc n) (omega arith) k.0) ∙ k.1))

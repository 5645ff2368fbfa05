-- The names that edition two adds: edition one has no row for them, and for any other name both editions have one row. Assumes nothing.
use mathlib.Core.Path.{◌≡◌, refl, sym, ◌∙◌}
use mathlib.Core.Bool.{true, false}
use mathlib.Core.List.{List, [], ◌∷◌}
use Prim.Native.Nat.{ℕ, suc, ◌<◌}
use native.Mathlib.Omega.{arith}
use lib.Dec.{ltb}
use borrow.Author.Tests.{lt-ltb, ltb-true, ltb-false}
use Rattle.octets.specs.Cases.{same}
use Rattle.octets.proofs.Bools.{by}
use Rattle.property_table.specs.declared.Edition.TheVariants.{First, Second}
use Rattle.property_table.specs.Rows.{Row, rows, newer, all_rows, search, row_of, is_new}
use Rattle.property_table.proofs.RowLaws.{search_from, row_low, second_row}
use Rattle.value_laws.proofs.RowLaws.{named, found}

-- whether a search finds a row does not go by the number that it starts with
any_start : (v : List ℕ) (i j : ℕ) (rs : List Row) → 0 < i → 0 < j → ltb 0 (search v i rs) ≡ ltb 0 (search v j rs)
unfolding search
any_start v i j [] h g = refl
any_start v i j (r ∷ rs) h g =
    by (same v r.name) (λ q. rw (q, lt-ltb 0 i h, lt-ltb 0 j g)) (λ q. rw q (any_start v (suc i) (suc j) rs (omega arith) (omega arith)))

new_there : (v : List ℕ) → search_from Second v 39 ≡ search v 39 newer
unfolding search_from rows newer all_rows
new_there v = refl

none_of : (n : ℕ) → ltb 0 n ≡ false → n ≡ 0
none_of n e = let h = ltb-false 0 n e in omega arith

module _ (v : List ℕ) where
  in_newer : is_new v ≡ ltb 0 (search v 39 newer)
  unfolding is_new
  in_newer = any_start v 1 39 newer (omega arith) (omega arith)

  pub unknown_in_one : is_new v ≡ true → row_of First v ≡ 0
  unknown_in_one e =
      by (ltb 0 (row_of First v))
      (λ q.
      let some = ltb-true 0 (row_of First v) q in
      let low = row_low First v in
      let here = (found Second v (row_of First v) some (omega arith)).1 ((found First v (row_of First v) some low).0 refl) in
      let new = ltb-true 0 (search v 39 newer) (sym in_newer ∙ e) in
      let n = named Second v 5 39 (search v 39 newer) refl new (new_there v) in
      let there = (found Second v (search v 39 newer) new n.0).1 n.1 in
      absurd (omega (arith, here, there, n.2)))
      (λ q. none_of (row_of First v) q)

  pub old_row : is_new v ≡ false → row_of Second v ≡ row_of First v
  old_row e =
      by (ltb 0 (row_of First v))
      (λ q. second_row v ∙ rw q)
      (λ q. second_row v ∙ rw q (none_of (search v 39 newer) (sym in_newer ∙ e) ∙ sym (none_of (row_of First v) q)))

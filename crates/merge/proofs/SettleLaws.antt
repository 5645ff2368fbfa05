-- The refusals of two sides in their order, and the demanded pairs behind them. Assumes nothing.
use mathlib.Core.Path.{◌≡◌, sym, ap, ◌∙◌}
use mathlib.Core.Bool.{Bool, true, false}
use mathlib.Core.List.{List}
use Prim.Native.Nat.{ℕ, ◌/◌}
use lib.ListN.{length, replicate}
use Rattle.octets.specs.Pick.{pick}
use Rattle.octets.proofs.Bools.{by, clash}
use Rattle.merge_sources.specs.Row.{same_row}
use Rattle.merge_sources.specs.declared.Row.{Row}
use Rattle.merge_pids.specs.Marks.{Marked}
use Rattle.merge_partners.specs.Pairs.{First, joined, join_all, first_of, demanded_pairs, pairs_from, same_uids}
use Rattle.merge.specs.Paired.{Pairs, Refused}
use Rattle.merge.specs.Sides.{Side, marks_of, row_in, over_side, is_over, Settled, settled, pairs_of, settled_by, settle_of}

-- what the code holds of a side
pub over_by : (s : Side) (lent own : Row) (m : Marked) → own ≡ row_in s → m ≡ marks_of s → over_side s.cards lent.count own m ≡ is_over s lent
unfolding is_over
over_by s lent own m e f = rw (e, f)

module _ (x y : Side) (a b : Row) (p : List ℕ) where
  pub pairs_by : (m n : Marked) → m ≡ marks_of x → n ≡ marks_of y
      → first_of (join_all (joined true p (replicate 4096 0)) (demanded_pairs x.copy x.records x.lines m.room (m.next / 3) a y.copy y.records y.lines n.room (n.next / 3) b))
      ≡ pairs_of x y a b p
  unfolding pairs_of
  pairs_by m n e f = rw (e, f)

  abbrev Uids : Bool
  Uids = same_uids x.copy x.records x.lines y.copy y.records y.lines

  pub first_over : is_over x a ≡ true → settle_of x y a b p ≡ settled (Refused 71 0) p
  unfolding settle_of
  first_over e = rw e

  module _ (e₁ : is_over x a ≡ false) where
    pub second_over : is_over y b ≡ true → settle_of x y a b p ≡ settled (Refused 71 0) p
    unfolding settle_of
    second_over e = rw (e₁, e)

    module _ (e₂ : is_over y b ≡ false) where
      pub first_row : same_row (row_in x) a ≡ false → settle_of x y a b p ≡ settled (Refused 72 0) p
      unfolding settle_of
      first_row e = rw (e₁, e₂, e)

      module _ (e₃ : same_row (row_in x) a ≡ true) where
        pub second_row : same_row (row_in y) b ≡ false → settle_of x y a b p ≡ settled (Refused 72 0) p
        unfolding settle_of
        second_row e = rw (e₁, e₂, e₃, e)

        module _ (e₄ : same_row (row_in y) b ≡ true) where
          pub no_uids : Uids ≡ false → settle_of x y a b p ≡ settled (Refused 70 0) p
          unfolding settle_of
          no_uids e = rw (e₁, e₂, e₃, e₄, e)

          pub settle_pairs : Uids ≡ true → settle_of x y a b p ≡ settled_by (pairs_of x y a b p)
          unfolding settle_of
          settle_pairs e = rw (e₁, e₂, e₃, e₄, e)

  -- how many pairs are answered
  refused : (n k m : ℕ) (q : List ℕ) → settle_of x y a b p ≡ settled (Refused k m) q → (r : List ℕ) → settled (Pairs n) r ≡ settle_of x y a b p → n ≡ length (pairs_from r 0 4096)
  refused n k m q e r h =
      let z : Pairs n ≡ Refused k m = ap (λ (s : Settled). s.answer) (h ∙ e) in
      clash cc

  paired : (f : First) (n : ℕ) (r : List ℕ) → settled (Pairs n) r ≡ settled_by f → n ≡ length (pairs_from r 0 4096)
  paired f n r h =
      let q : r ≡ f.partners = ap (λ (s : Settled). s.partners) h in
      by f.ok
      (λ e.
      let z : Pairs n ≡ Pairs (length (pairs_from f.partners 0 4096)) =
      ap (λ (s : Settled). s.answer) h ∙ ap (λ (t : Bool). pick t (Pairs (length (pairs_from f.partners 0 4096))) (Refused 70 0)) e in
      let w : n ≡ length (pairs_from f.partners 0 4096) = cc in
      w ∙ ap (λ (l : List ℕ). length (pairs_from l 0 4096)) (sym q))
      (λ e.
      let z : Pairs n ≡ Refused 70 0 = ap (λ (s : Settled). s.answer) h ∙ ap (λ (t : Bool). pick t (Pairs (length (pairs_from f.partners 0 4096))) (Refused 70 0)) e in
      clash cc)

  pub pair_count : (n : ℕ) (r : List ℕ) → settled (Pairs n) r ≡ settle_of x y a b p → n ≡ length (pairs_from r 0 4096)
  pair_count n r h =
      by (is_over x a) (λ e. refused n 71 0 p (first_over e) r h) (λ e₁.
      by (is_over y b) (λ e. refused n 71 0 p (second_over e₁ e) r h) (λ e₂.
      by (same_row (row_in x) a) (λ e₃.
      by (same_row (row_in y) b) (λ e₄.
      by Uids (λ e. paired (pairs_of x y a b p) n r (h ∙ settle_pairs e₁ e₂ e₃ e₄ e)) (λ e. refused n 70 0 p (no_uids e₁ e₂ e₃ e₄ e) r h))
      (λ e. refused n 72 0 p (second_row e₁ e₂ e₃ e) r h)) (λ e. refused n 72 0 p (first_row e₁ e₂ e) r h)))

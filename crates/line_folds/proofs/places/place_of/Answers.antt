-- `line_folds::places::place_of` meets its contract. Assumes nothing.
use mathlib.Core.Path.{◌≡◌, refl, sym, ap, ◌∙◌}
use mathlib.Core.List.{List, ◌∷◌}
use Prim.Native.Nat.{ℕ, zero, suc, ◌+◌, ◌-◌, ◌≤◌}
use native.Mathlib.Omega.{arith}
use lib.ListN.{length, get_or, drop}
use Rattle.line_folds.proofs.FoldLaws.{fold_inside}
use Rattle.line_folds.specs.Places.{kept_from, place_of}
use Rattle.line_folds.proofs.PlaceLaws.{kept_here, kept_past, kept_none}
use Rattle.line_folds.proofs.places.place_of.Goals as goal

pub loop-at-init : goal.loop-at-init
unfolding place_of
loop-at-init c = (omega arith, refl)

pub overflow_add-at : goal.overflow_add-at
overflow_add-at c =
    let inside : c.loop-at.at + 3 ≤ length c.args.s.now = fold_inside c.args.s.now c.loop-at.at (sym c.fold_at-fold.ensures ∙ c.if-fold.true) in
    let h = inside in omega arith

pub loop-at-smaller-then-fold : goal.loop-at-smaller-then-fold
loop-at-smaller-then-fold c =
    let inside : c.loop-at.at + 3 ≤ length c.args.s.now = fold_inside c.args.s.now c.loop-at.at (sym c.fold_at-fold.ensures ∙ c.if-fold.true) in
    let h = inside in omega arith

pub loop-at-preserved-then-fold : goal.loop-at-preserved-then-fold
loop-at-preserved-then-fold c =
    let inside : c.loop-at.at + 3 ≤ length c.args.s.now = fold_inside c.args.s.now c.loop-at.at (sym c.fold_at-fold.ensures ∙ c.if-fold.true) in
    let l = c.loop-at in
    let s = c.args.s.now in
    let n = length s in
    (inside, l.invariant.1 ∙ ap (λ (ps : List ℕ). get_or ps l.left n) (kept_past s l.at inside (sym c.fold_at-fold.ensures ∙ c.if-fold.true)))

pub returns-then-left-eq0 : goal.returns-then-left-eq0
returns-then-left-eq0 c =
    let l = c.loop-at in
    let s = c.args.s.now in
    let n = length s in
    record { value = sym (l.invariant.1 ∙ rw (kept_here s l.at c.loop-at-test.true (sym c.fold_at-fold.ensures ∙ c.if-fold.false), c.if-left-eq0.true)); upper_bound = l.invariant.0 }

past : (k p : ℕ) (ps : List ℕ) (n : ℕ) → (k ≡ 0 → ⊥) → get_or (p ∷ ps) k n ≡ get_or ps (k - 1) n
past zero p ps n h = absurd (h refl)
past (suc k) p ps n h = let e : suc k - 1 ≡ k = omega arith in rw e

pub loop-at-preserved : goal.loop-at-preserved
loop-at-preserved c =
    let l = c.loop-at in
    let s = c.args.s.now in
    let n = length s in (
      omega arith,
      l.invariant.1 ∙ ap (λ (ps : List ℕ). get_or ps l.left n) (kept_here s l.at c.loop-at-test.true (sym c.fold_at-fold.ensures ∙ c.if-fold.false))
          ∙ past l.left l.at (kept_from (l.at + 1) (drop (l.at + 1) s) 0) n c.if-left-eq0.false,
    )

pub returns : goal.returns
returns c =
    let l = c.loop-at in
    let s = c.args.s.now in
    record { value = sym (l.invariant.1 ∙ rw (kept_none s l.at c.loop-at-test.false)); upper_bound = omega arith }

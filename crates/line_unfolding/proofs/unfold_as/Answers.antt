-- `line_unfolding::unfold_as` meets its contract. Assumes nothing.
use borrow.Author.Rules.{rules}
use mathlib.Core.Path.{◌≡◌, sym, ap, ◌∙◌}
use mathlib.Core.Bool.{false}
use mathlib.Core.List.{List, [], ◌∷◌, ◌++◌}
use Prim.Native.Nat.{ℕ, ◌≤◌, ◌<◌, ◌+◌, ◌-◌}
use native.Mathlib.Omega.{arith}
use lib.ListN.{length, take, drop, get_or, length-append, length-take, length-drop}
use lib.Seq.{length-take-le}
use Rattle.octets.specs.Scan.{gather}
use Rattle.octets.proofs.Scans.{gather_end}
use Rattle.octets.proofs.Writes.{Written, start, room, finish}
use Rattle.line_folds.specs.Folds.{fold_at, passed, kept, unfolded}
use Rattle.line_folds.proofs.FoldLaws.{not_cr_lem, fold_inside, fold_next, octet_next}
use Rattle.line_unfolding.proofs.RunLaws.{flat_one, flat_join, flat_kept}
use Rattle.line_unfolding.proofs.PutLaws.{put_octet, put_part}
use Rattle.line_unfolding.proofs.unfold_as.Goals as goal

-- at the place i of s, of which the kept octets were written to the first j of d
module _ (s : List ℕ) (i : ℕ) {d₀ d : List ℕ} {j : ℕ} (w : Written (gather passed kept s 0) (gather passed kept (drop i s) 0) d₀ d j)
    (r : length (unfolded s) ≤ length d₀) where
  -- there is room for what is left
  roomy : j + length (gather passed kept (drop i s) 0) ≤ length d
  unfolding unfolded
  roomy = room w r

  -- an octet that starts no fold is written next
  fits : i < length s → fold_at (drop i s) ≡ false → j < length d
  fits lt flat = omega (arith, roomy, ap length (octet_next s i lt flat))

-- the octets up to the next fold, which starts at e
module _ (s : List ℕ) (i e : ℕ) (after : i + 1 ≤ e) (inside : e ≤ length s) where
  abbrev X : List ℕ
  X = take (e - i) (drop i s)

  run : (get_or s i 0 ≡ 13 → ⊥) → ((k : ℕ) → i + 1 ≤ k → k < e → fold_at (drop k s) ≡ false)
      → gather passed kept (drop i s) 0 ≡ X ++ gather passed kept (drop e s) 0
  run h f = flat_kept s i e (omega arith) inside (flat_join s i (i + 1) e (flat_one s i (not_cr_lem s i h)) f)

  run_length : length X ≡ e - i
  run_length = length-take-le (e - i) (drop i s) (rw (length-drop i s) (omega arith))

  run_fits : {d₀ d : List ℕ} {j : ℕ} → Written (gather passed kept s 0) (gather passed kept (drop i s) 0) d₀ d j
      → length (unfolded s) ≤ length d₀ → (get_or s i 0 ≡ 13 → ⊥) → ((k : ℕ) → i + 1 ≤ k → k < e → fold_at (drop k s) ≡ false)
      → j + (e - i) ≤ length d
  run_fits w r h f =
      omega (arith, roomy s i w r, run_length, ap length (run h f) ∙ length-append X (gather passed kept (drop e s) 0))

pub loop-i-init : goal.loop-i-init
loop-i-init c = (search rules, start _ _)

pub overflow_add-i : goal.overflow_add-i
overflow_add-i c = omega (arith, fold_inside c.args.s.now c.loop-i.i (sym c.fold_at-fold.ensures ∙ c.if-fold.true))

pub loop-i-smaller-then-fold : goal.loop-i-smaller-then-fold
loop-i-smaller-then-fold c = omega (arith, fold_inside c.args.s.now c.loop-i.i (sym c.fold_at-fold.ensures ∙ c.if-fold.true))

pub loop-i-preserved-then-fold : goal.loop-i-preserved-then-fold
loop-i-preserved-then-fold c =
    let s = c.args.s.now in
    let l = c.loop-i in
    let e = sym c.fold_at-fold.ensures ∙ c.if-fold.true in
    (fold_inside s l.i e, rw (fold_next s l.i c.loop-i-test.true e) at l.invariant.1)

pub bounds-d-j : goal.bounds-d-j
bounds-d-j c = fits c.args.s.now c.loop-i.i c.loop-i.invariant.1 c.requires c.loop-i-test.true (sym c.fold_at-fold.ensures ∙ c.if-fold.false)

pub overflow_add-j : goal.overflow_add-j
overflow_add-j c = omega (arith, fits c.args.s.now c.loop-i.i c.loop-i.invariant.1 c.requires c.loop-i-test.true (sym c.fold_at-fold.ensures ∙ c.if-fold.false))

pub loop-i-preserved-else-fold : goal.loop-i-preserved-else-fold
loop-i-preserved-else-fold c =
    let s = c.args.s.now in
    let l = c.loop-i in
    let h = c.loop-i-test.true in
    let lone = sym c.fold_at-fold.ensures ∙ c.if-fold.false in
    let e = octet_next s l.i h lone ∙ ap (λ (b : ℕ). (b ∷ []) ++ gather passed kept (drop (l.i + 1) s) 0) c.if-s-i-eq13.true in
    (omega arith, put_octet l.invariant.1 13 _ e (fits s l.i l.invariant.1 c.requires h lone))

pub bounds-d-j-then-met-lt-ONE_BY_ONE : goal.bounds-d-j-then-met-lt-ONE_BY_ONE
bounds-d-j-then-met-lt-ONE_BY_ONE c = fits c.args.s.now c.loop-i.i c.loop-i.invariant.1 c.requires c.loop-i-test.true (not_cr_lem c.args.s.now c.loop-i.i c.if-s-i-eq13.false)

pub overflow_add-j-then-met-lt-ONE_BY_ONE : goal.overflow_add-j-then-met-lt-ONE_BY_ONE
overflow_add-j-then-met-lt-ONE_BY_ONE c =
    omega (arith, fits c.args.s.now c.loop-i.i c.loop-i.invariant.1 c.requires c.loop-i-test.true (not_cr_lem c.args.s.now c.loop-i.i c.if-s-i-eq13.false))

pub loop-i-preserved-then-met-lt-ONE_BY_ONE : goal.loop-i-preserved-then-met-lt-ONE_BY_ONE
loop-i-preserved-then-met-lt-ONE_BY_ONE c =
    let s = c.args.s.now in
    let l = c.loop-i in
    let h = c.loop-i-test.true in
    let f = not_cr_lem s l.i c.if-s-i-eq13.false in
    (omega arith, put_octet l.invariant.1 _ _ (octet_next s l.i h f) (fits s l.i l.invariant.1 c.requires h f))

pub slice_bounds-copy_in-count : goal.slice_bounds-copy_in-count
slice_bounds-copy_in-count c =
    let e = c.skip-e.ensures in
    omega (arith, run_fits c.args.s.now c.loop-i.i _ e.0 e.1 c.loop-i.invariant.1 c.requires c.if-s-i-eq13.false e.2)

pub slice_bounds-copy_in-start : goal.slice_bounds-copy_in-start
slice_bounds-copy_in-start c =
    let e = c.skip-e.ensures in
    omega (arith, run_fits c.args.s.now c.loop-i.i _ e.0 e.1 c.loop-i.invariant.1 c.requires c.if-s-i-eq13.false e.2)

pub slice_bounds-copy_in-end : goal.slice_bounds-copy_in-end
slice_bounds-copy_in-end c =
    let e = c.skip-e.ensures in
    omega (arith, run_fits c.args.s.now c.loop-i.i _ e.0 e.1 c.loop-i.invariant.1 c.requires c.if-s-i-eq13.false e.2)

pub slice_bounds-copy_in-count-else-met-lt-ONE_BY_ONE : goal.slice_bounds-copy_in-count-else-met-lt-ONE_BY_ONE
slice_bounds-copy_in-count-else-met-lt-ONE_BY_ONE c = omega (arith, c.skip-e.ensures.0)

pub slice_bounds-copy_in-start-else-met-lt-ONE_BY_ONE : goal.slice_bounds-copy_in-start-else-met-lt-ONE_BY_ONE
slice_bounds-copy_in-start-else-met-lt-ONE_BY_ONE c = omega (arith, c.skip-e.ensures.0, c.skip-e.ensures.1)

pub slice_bounds-copy_in-end-else-met-lt-ONE_BY_ONE : goal.slice_bounds-copy_in-end-else-met-lt-ONE_BY_ONE
slice_bounds-copy_in-end-else-met-lt-ONE_BY_ONE c = omega (arith, c.skip-e.ensures.0, c.skip-e.ensures.1)

pub copy_in-requires : goal.copy_in-requires
copy_in-requires c =
    let e = c.skip-e.ensures in
    let f = run_fits c.args.s.now c.loop-i.i _ e.0 e.1 c.loop-i.invariant.1 c.requires c.if-s-i-eq13.false e.2 in
    simp (length-take, length-drop) (omega (arith, f))

pub overflow_sub-j : goal.overflow_sub-j
overflow_sub-j c = omega (arith, c.skip-e.ensures.0)

pub overflow_add-j-else-met-lt-ONE_BY_ONE : goal.overflow_add-j-else-met-lt-ONE_BY_ONE
overflow_add-j-else-met-lt-ONE_BY_ONE c =
    let e = c.skip-e.ensures in
    omega (arith, run_fits c.args.s.now c.loop-i.i _ e.0 e.1 c.loop-i.invariant.1 c.requires c.if-s-i-eq13.false e.2)

pub loop-i-smaller : goal.loop-i-smaller
loop-i-smaller c = omega (arith, c.skip-e.ensures.0, c.skip-e.ensures.1)

pub loop-i-preserved : goal.loop-i-preserved
loop-i-preserved c =
    let s = c.args.s.now in
    let i = c.loop-i.i in
    let w = c.loop-i.invariant.1 in
    let e = c.skip-e.ensures in
    let n = c.skip-e.result in
    let f = run_fits s i n e.0 e.1 w c.requires c.if-s-i-eq13.false e.2 in
    let q = run_length s i n e.0 e.1 in
    let room : c.loop-i.j + length (X s i n e.0 e.1) ≤ length c.loop-i.d = rw q f in
    (e.1, rw q at (put_part w (X s i n e.0 e.1) _ _ (run s i n e.0 e.1 c.if-s-i-eq13.false e.2) room c.copy_in.ensures))

pub shape_of-d : goal.shape_of-d
shape_of-d c = c.loop-i.invariant.1.same

pub returns : goal.returns
unfolding unfolded
returns c =
    let l = c.loop-i in
    let none = gather_end passed kept c.args.s.now l.i c.loop-i-test.false in
    finish (rw none at l.invariant.1)

-- `version3_text::renew` meets its contract. Assumes nothing.
use borrow.Author.Rules.{rules}
use mathlib.Core.Path.{◌≡◌, sym, ap, ◌∙◌}
use mathlib.Core.Bool.{Bool}
use mathlib.Core.List.{List, [], ◌∷◌, ◌++◌}
use Prim.Native.Nat.{ℕ, ◌<◌, ◌≤◌, ◌+◌, ◌-◌}
use native.Mathlib.Omega.{arith}
use lib.ListN.{length, take, drop, length-set, length-append, length-take, length-drop}
use lib.Seq.{length-take-le}
use Rattle.octets.proofs.Writes.{Written, start, room, finish}
use Rattle.octets.proofs.PieceLaws.{two_room, put_two, all_written}
use Rattle.line_unfolding.proofs.PutLaws.{put_part}
use Rattle.version3_text.specs.Renewed.{renewed}
use Rattle.version3_text.proofs.RenewLaws.{pair_inside, renewed_pair, renewed_mark, renewed_end}
use Rattle.version3_text.proofs.MarkLaws.{renewed_run}
use Rattle.version3_text.proofs.renew.Goals as goal

-- the octets from i on up to the next mark, t, are written as they stand, and there is room for them
module _ (s : List ℕ) (w : Bool) (i t : ℕ) (after : i < t) (within : t ≤ length s) where
  abbrev X : List ℕ
  X = take (t - i) (drop i s)

  run_length : length X ≡ t - i
  run_length = length-take-le (t - i) (drop i s) (rw (length-drop i s) (omega (arith, after, within)))

  run_fits : {out now : List ℕ} {j : ℕ} → Written (renewed w s) (renewed w (drop i s)) out now j → length (renewed w s) ≤ length out
      → renewed w (drop i s) ≡ X ++ renewed w (drop t s) → j + length X ≤ length now
  run_fits so fits next = omega (arith, room so fits, ap length next ∙ length-append X (renewed w (drop t s)))

pub loop-i-init : goal.loop-i-init
loop-i-init c = (search rules, start (renewed c.args.whole c.args.text.now) c.args.out.now)

pub bounds-out-j : goal.bounds-out-j
bounds-out-j c =
    let pair_room : c.loop-i.j + 2 ≤ length c.loop-i.out = two_room c.loop-i.invariant.1 c.requires _ _ _ (renewed_pair c.args.text.now c.loop-i.i c.loop-i-test.true (sym c.is_pair.ensures ∙ c.if-is_pair.true) c.args.whole) in
    omega (arith, pair_room)

pub overflow_add-i : goal.overflow_add-i
overflow_add-i c =
    let inside : c.loop-i.i + 2 ≤ length c.args.text.now = pair_inside c.args.text.now c.loop-i.i (sym c.is_pair.ensures ∙ c.if-is_pair.true) in
    omega (arith, inside)

pub bounds-text-i : goal.bounds-text-i
bounds-text-i c =
    let inside : c.loop-i.i + 2 ≤ length c.args.text.now = pair_inside c.args.text.now c.loop-i.i (sym c.is_pair.ensures ∙ c.if-is_pair.true) in
    omega (arith, inside)

pub overflow_add-out : goal.overflow_add-out
overflow_add-out c =
    let pair_room : c.loop-i.j + 2 ≤ length c.loop-i.out = two_room c.loop-i.invariant.1 c.requires _ _ _ (renewed_pair c.args.text.now c.loop-i.i c.loop-i-test.true (sym c.is_pair.ensures ∙ c.if-is_pair.true) c.args.whole) in
    omega (arith, pair_room, c.loop-i.invariant.1.same)

pub bounds-out-j-then-is_pair : goal.bounds-out-j-then-is_pair
bounds-out-j-then-is_pair c =
    let pair_room : c.loop-i.j + 2 ≤ length c.loop-i.out = two_room c.loop-i.invariant.1 c.requires _ _ _ (renewed_pair c.args.text.now c.loop-i.i c.loop-i-test.true (sym c.is_pair.ensures ∙ c.if-is_pair.true) c.args.whole) in
    simp length-set (omega (arith, pair_room))

pub overflow_add-j : goal.overflow_add-j
overflow_add-j c =
    let pair_room : c.loop-i.j + 2 ≤ length c.loop-i.out = two_room c.loop-i.invariant.1 c.requires _ _ _ (renewed_pair c.args.text.now c.loop-i.i c.loop-i-test.true (sym c.is_pair.ensures ∙ c.if-is_pair.true) c.args.whole) in
    omega (arith, pair_room, c.loop-i.invariant.1.same)

pub overflow_add-i-then-is_pair : goal.overflow_add-i-then-is_pair
overflow_add-i-then-is_pair c =
    let inside : c.loop-i.i + 2 ≤ length c.args.text.now = pair_inside c.args.text.now c.loop-i.i (sym c.is_pair.ensures ∙ c.if-is_pair.true) in
    omega (arith, inside)

pub loop-i-smaller-then-is_pair : goal.loop-i-smaller-then-is_pair
loop-i-smaller-then-is_pair c =
    let inside : c.loop-i.i + 2 ≤ length c.args.text.now = pair_inside c.args.text.now c.loop-i.i (sym c.is_pair.ensures ∙ c.if-is_pair.true) in
    omega (arith, inside)

pub loop-i-preserved-then-is_pair : goal.loop-i-preserved-then-is_pair
loop-i-preserved-then-is_pair c =
    let inside : c.loop-i.i + 2 ≤ length c.args.text.now = pair_inside c.args.text.now c.loop-i.i (sym c.is_pair.ensures ∙ c.if-is_pair.true) in
    let s = c.args.text.now in
    let l = c.loop-i in
    let e = renewed_pair c.args.text.now c.loop-i.i c.loop-i-test.true (sym c.is_pair.ensures ∙ c.if-is_pair.true) c.args.whole ∙ ap (λ (b : ℕ). (92 ∷ b ∷ []) ++ renewed c.args.whole (drop (l.i + 2) s)) (sym c.make_small.ensures) in
    (inside, put_two l.invariant.1 c.requires (renewed c.args.whole (drop (l.i + 2) s)) 92 c.make_small.result e)

pub bounds-out-j-then-is_marked : goal.bounds-out-j-then-is_marked
bounds-out-j-then-is_marked c =
    let mark_room : c.loop-i.j + 2 ≤ length c.loop-i.out = two_room c.loop-i.invariant.1 c.requires _ _ _ (renewed_mark c.args.text.now c.loop-i.i c.loop-i-test.true (sym c.is_pair.ensures ∙ c.if-is_pair.false) c.args.whole (sym c.is_marked.ensures ∙ c.if-is_marked.true)) in
    omega (arith, mark_room)

pub overflow_add-out-then-is_marked : goal.overflow_add-out-then-is_marked
overflow_add-out-then-is_marked c =
    let mark_room : c.loop-i.j + 2 ≤ length c.loop-i.out = two_room c.loop-i.invariant.1 c.requires _ _ _ (renewed_mark c.args.text.now c.loop-i.i c.loop-i-test.true (sym c.is_pair.ensures ∙ c.if-is_pair.false) c.args.whole (sym c.is_marked.ensures ∙ c.if-is_marked.true)) in
    omega (arith, mark_room, c.loop-i.invariant.1.same)

pub bounds-out-j-then-is_marked-2 : goal.bounds-out-j-then-is_marked-2
bounds-out-j-then-is_marked-2 c =
    let mark_room : c.loop-i.j + 2 ≤ length c.loop-i.out = two_room c.loop-i.invariant.1 c.requires _ _ _ (renewed_mark c.args.text.now c.loop-i.i c.loop-i-test.true (sym c.is_pair.ensures ∙ c.if-is_pair.false) c.args.whole (sym c.is_marked.ensures ∙ c.if-is_marked.true)) in
    simp length-set (omega (arith, mark_room))

pub overflow_add-j-then-is_marked : goal.overflow_add-j-then-is_marked
overflow_add-j-then-is_marked c =
    let mark_room : c.loop-i.j + 2 ≤ length c.loop-i.out = two_room c.loop-i.invariant.1 c.requires _ _ _ (renewed_mark c.args.text.now c.loop-i.i c.loop-i-test.true (sym c.is_pair.ensures ∙ c.if-is_pair.false) c.args.whole (sym c.is_marked.ensures ∙ c.if-is_marked.true)) in
    omega (arith, mark_room, c.loop-i.invariant.1.same)

pub loop-i-preserved-then-is_marked : goal.loop-i-preserved-then-is_marked
loop-i-preserved-then-is_marked c =
    let l = c.loop-i in
    (omega arith, put_two l.invariant.1 c.requires (renewed c.args.whole (drop (l.i + 1) c.args.text.now)) 92 59 (renewed_mark c.args.text.now c.loop-i.i c.loop-i-test.true (sym c.is_pair.ensures ∙ c.if-is_pair.false) c.args.whole (sym c.is_marked.ensures ∙ c.if-is_marked.true)))

pub slice_bounds-copy_in-count : goal.slice_bounds-copy_in-count
slice_bounds-copy_in-count c = omega (arith, run_fits c.args.text.now c.args.whole c.loop-i.i c.next_mark-end.result (omega (arith, c.next_mark-end.ensures.1)) c.next_mark-end.ensures.0 c.loop-i.invariant.1 c.requires (renewed_run c.args.text.now c.loop-i.i c.loop-i-test.true (sym c.is_pair.ensures ∙ c.if-is_pair.false) c.next_mark-end.result c.next_mark-end.ensures.1 c.args.whole (sym c.is_marked.ensures ∙ c.if-is_marked.false)))

pub slice_bounds-copy_in-start : goal.slice_bounds-copy_in-start
slice_bounds-copy_in-start c = omega (arith, run_fits c.args.text.now c.args.whole c.loop-i.i c.next_mark-end.result (omega (arith, c.next_mark-end.ensures.1)) c.next_mark-end.ensures.0 c.loop-i.invariant.1 c.requires (renewed_run c.args.text.now c.loop-i.i c.loop-i-test.true (sym c.is_pair.ensures ∙ c.if-is_pair.false) c.next_mark-end.result c.next_mark-end.ensures.1 c.args.whole (sym c.is_marked.ensures ∙ c.if-is_marked.false)))

pub slice_bounds-copy_in-end : goal.slice_bounds-copy_in-end
slice_bounds-copy_in-end c = omega (arith, run_fits c.args.text.now c.args.whole c.loop-i.i c.next_mark-end.result (omega (arith, c.next_mark-end.ensures.1)) c.next_mark-end.ensures.0 c.loop-i.invariant.1 c.requires (renewed_run c.args.text.now c.loop-i.i c.loop-i-test.true (sym c.is_pair.ensures ∙ c.if-is_pair.false) c.next_mark-end.result c.next_mark-end.ensures.1 c.args.whole (sym c.is_marked.ensures ∙ c.if-is_marked.false)))

pub slice_bounds-copy_in-count-else-is_marked : goal.slice_bounds-copy_in-count-else-is_marked
slice_bounds-copy_in-count-else-is_marked c = omega (arith, c.next_mark-end.ensures.1)

pub slice_bounds-copy_in-start-else-is_marked : goal.slice_bounds-copy_in-start-else-is_marked
slice_bounds-copy_in-start-else-is_marked c = omega (arith, c.next_mark-end.ensures.0, c.next_mark-end.ensures.1)

pub slice_bounds-copy_in-end-else-is_marked : goal.slice_bounds-copy_in-end-else-is_marked
slice_bounds-copy_in-end-else-is_marked c = omega (arith, c.next_mark-end.ensures.0, c.next_mark-end.ensures.1)

pub copy_in-requires : goal.copy_in-requires
copy_in-requires c = rw (run_length c.args.text.now c.args.whole c.loop-i.i c.next_mark-end.result (omega (arith, c.next_mark-end.ensures.1)) c.next_mark-end.ensures.0) (simp (length-take, length-drop) (omega (arith, run_fits c.args.text.now c.args.whole c.loop-i.i c.next_mark-end.result (omega (arith, c.next_mark-end.ensures.1)) c.next_mark-end.ensures.0 c.loop-i.invariant.1 c.requires (renewed_run c.args.text.now c.loop-i.i c.loop-i-test.true (sym c.is_pair.ensures ∙ c.if-is_pair.false) c.next_mark-end.result c.next_mark-end.ensures.1 c.args.whole (sym c.is_marked.ensures ∙ c.if-is_marked.false)), run_length c.args.text.now c.args.whole c.loop-i.i c.next_mark-end.result (omega (arith, c.next_mark-end.ensures.1)) c.next_mark-end.ensures.0)))

pub overflow_sub-j : goal.overflow_sub-j
overflow_sub-j c = omega (arith, c.next_mark-end.ensures.1)

pub overflow_add-j-else-is_marked : goal.overflow_add-j-else-is_marked
overflow_add-j-else-is_marked c = omega (arith, run_fits c.args.text.now c.args.whole c.loop-i.i c.next_mark-end.result (omega (arith, c.next_mark-end.ensures.1)) c.next_mark-end.ensures.0 c.loop-i.invariant.1 c.requires (renewed_run c.args.text.now c.loop-i.i c.loop-i-test.true (sym c.is_pair.ensures ∙ c.if-is_pair.false) c.next_mark-end.result c.next_mark-end.ensures.1 c.args.whole (sym c.is_marked.ensures ∙ c.if-is_marked.false)), run_length c.args.text.now c.args.whole c.loop-i.i c.next_mark-end.result (omega (arith, c.next_mark-end.ensures.1)) c.next_mark-end.ensures.0)

pub loop-i-smaller : goal.loop-i-smaller
loop-i-smaller c = omega (arith, c.next_mark-end.ensures.0, c.next_mark-end.ensures.1)

pub loop-i-preserved : goal.loop-i-preserved
loop-i-preserved c = (c.next_mark-end.ensures.0, rw (run_length c.args.text.now c.args.whole c.loop-i.i c.next_mark-end.result (omega (arith, c.next_mark-end.ensures.1)) c.next_mark-end.ensures.0) at (put_part c.loop-i.invariant.1 (take (c.next_mark-end.result - c.loop-i.i) (drop c.loop-i.i c.args.text.now)) _ _ (renewed_run c.args.text.now c.loop-i.i c.loop-i-test.true (sym c.is_pair.ensures ∙ c.if-is_pair.false) c.next_mark-end.result c.next_mark-end.ensures.1 c.args.whole (sym c.is_marked.ensures ∙ c.if-is_marked.false)) (run_fits c.args.text.now c.args.whole c.loop-i.i c.next_mark-end.result (omega (arith, c.next_mark-end.ensures.1)) c.next_mark-end.ensures.0 c.loop-i.invariant.1 c.requires (renewed_run c.args.text.now c.loop-i.i c.loop-i-test.true (sym c.is_pair.ensures ∙ c.if-is_pair.false) c.next_mark-end.result c.next_mark-end.ensures.1 c.args.whole (sym c.is_marked.ensures ∙ c.if-is_marked.false))) c.copy_in.ensures))

pub shape_of-out : goal.shape_of-out
shape_of-out c = c.loop-i.invariant.1.same

pub returns : goal.returns
returns c =
    let l = c.loop-i in
    let e = renewed_end c.args.text.now l.i c.args.whole c.loop-i-test.false in
    ((finish (rw e at l.invariant.1)).0, all_written l.invariant.1 e)

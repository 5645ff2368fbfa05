-- `watch_lines::judge_lines` meets its contract. Assumes nothing.
use native.Mathlib.Omega.{arith}
use mathlib.Core.Path.{◌≡◌, refl, sym, subst}
use Prim.Native.Nat.{◌+◌, ◌-◌}
use lib.ListN.{length, take, drop, length-drop}
use Rattle.card_state.specs.Kept.{KeptStep}
use Rattle.line_folds.proofs.SpanLaws.{whole, part_length}
use Rattle.watch_lines.specs.Taking.{Took, Within}
use Rattle.watch_lines.proofs.TakingLaws.{Hand, hand_line, hand_start, hand_refused, hand_next, rest_hand, rest_open, within_next, turn_last, turn_next, turn_fine, turn_size, whole_line}
use Rattle.watch_lines.proofs.judge_lines.Goals as goal

pub loop-after-init : goal.loop-after-init
loop-after-init c =
    let a = c.args in
    let p = c.requires in (
      c.requires.from_in_bounds.2,
      (omega arith, omega arith, c.requires.from_in_bounds.0, c.requires.from_in_bounds.0),
      refl,
      whole_line a.line.now c.next_cr-cr.result (length a.line.now) refl c.next_cr-cr.ensures.1,
      c.requires.chunk_value,
      c.requires.within,
      hand_start a.c a.line.now (drop a.from a.chunk.now) a.buffer.now a.start (omega (arith, c.requires.within.used, c.requires.from_in_bounds)),
    )

pub overflow_add-to : goal.overflow_add-to
overflow_add-to c =
    let a = c.args in
    omega (arith, c.loop-after.invariant.2, c.loop-after.invariant.6.place, c.requires.from_in_bounds, length-drop a.from a.chunk.now)

pub overflow_add-to-in-loop-after : goal.overflow_add-to-in-loop-after
overflow_add-to-in-loop-after c =
    let a = c.args in
    omega (arith, c.loop-after.invariant.2, c.loop-after.invariant.5.used, c.loop-after.invariant.6.place, c.requires.from_in_bounds, length-drop a.from a.chunk.now)

pub slice_bounds-other-count : goal.slice_bounds-other-count
slice_bounds-other-count c = omega (arith, c.loop-after.invariant.1)

pub slice_bounds-other-start : goal.slice_bounds-other-start
slice_bounds-other-start c = omega (arith, c.loop-after.invariant.1)

pub slice_bounds-other-end : goal.slice_bounds-other-end
slice_bounds-other-end c = omega (arith, c.loop-after.invariant.1)

pub take_line-j-requires : goal.take_line-j-requires
take_line-j-requires c =
    let a = c.args in
    let l = c.loop-after in
    let z = c.requires in
    let w = l.invariant.5 in
    let h = l.invariant.6.place in
    let n = length-drop a.from a.chunk.now in record {
      tables = z.tables;
      counted = (w.cards, omega (arith, w.lines, h, n, z.from_in_bounds));
      roomy = (record { lies = w.lies; room = omega (arith, w.used, h, n, l.invariant.0, z.from_in_bounds); short = omega (arith, l.invariant.0) }, l.invariant.0);
      other_value = l.invariant.3;
      other_bound = (omega (arith, l.invariant.2), omega (arith, l.invariant.2, w.used, h, n, z.from_in_bounds), omega (arith, h, n, z.from_in_bounds));
    }

pub shape_of-buffer-in_default : goal.shape_of-buffer-in_default
shape_of-buffer-in_default c = omega (arith, c.take_line-j, c.loop-after.invariant.0, c.requires.from_in_bounds)

pub returns-in_default : goal.returns-in_default
returns-in_default c =
    let a = c.args in
    let l = c.loop-after in
    let j = c.take_line-j in
    let k = a.chunk.now in record {
      went = hand_refused a.c a.line.now (drop a.from k) a.buffer.now a.start l.card (hand_line l.first a.line.now k l.at l.end) (drop l.next k) l.buffer l.place l.invariant.6
          j.new.buffer (l.card.used + (l.n + 2)) (omega (arith, l.invariant.2)) j.result c.in_default.not-Ok j.ensures (drop l.next k);
      from_le_at = ((l.invariant.1.0, l.invariant.1.3));
    }

pub line_at-span-requires : goal.line_at-span-requires
line_at-span-requires c = c.loop-after.invariant.1.3

pub overflow_sub-chunk : goal.overflow_sub-chunk
overflow_sub-chunk c = omega (arith, c.line_at-span.ensures.2)

pub shape_of-buffer-then-chunk-span-le2 : goal.shape_of-buffer-then-chunk-span-le2
shape_of-buffer-then-chunk-span-le2 c = omega (arith, c.take_line-j, c.loop-after.invariant.0, c.requires.from_in_bounds)

pub returns-then-chunk-span-le2 : goal.returns-then-chunk-span-le2
returns-then-chunk-span-le2 c =
    let a = c.args in
    let l = c.loop-after in
    let j = c.take_line-j in
    let v = c.line_at-span in
    let k = a.chunk.now in
    let z = c.requires in
    let b = j.new.buffer in
    let s = hand_line l.first a.line.now k l.at l.end in
    let to = l.card.used + (l.n + 2) in
    let d = c.in-Ok.after in
    let e = c.in-Ok.is in
    let t = subst (λ (x : KeptStep). Took l.card s l.buffer b l.place to x) e j.ensures in
    let w = within_next l.card d s l.buffer b l.place to l.invariant.5 t in
    let m = length-drop a.from k in
    let full : length b ≡ 16384 = omega (arith, j, l.invariant.0) in
    let r = hand_next a.c a.line.now (drop a.from k) a.buffer.now a.start l.card s (drop l.next k) l.buffer l.place l.invariant.6 b to (omega (arith, l.invariant.2)) d (omega (arith, full, w.used, l.invariant.6.place, m, c.requires.from_in_bounds)) t in record {
      went = rest_open a.c a.line.now (drop a.from k) a.buffer.now a.start d (drop l.next k) b (l.place + length s + 2) r
          (turn_last k l.next v.result.end l.invariant.1.3 v.ensures.1 v.ensures.2 l.invariant.4 c.if-chunk-span-le2.true) w (omega (arith, m, length-drop l.next k, l.invariant.1));
      from_le_at = ((l.invariant.1.0, l.invariant.1.3));
    }

pub overflow_add-place : goal.overflow_add-place
overflow_add-place c =
    let a = c.args in
    omega (arith, c.loop-after.invariant.2, c.loop-after.invariant.6.place, c.requires.from_in_bounds, length-drop a.from a.chunk.now)

pub overflow_add-place-in-loop-after : goal.overflow_add-place-in-loop-after
overflow_add-place-in-loop-after c =
    let a = c.args in
    omega (arith, c.loop-after.invariant.2, c.loop-after.invariant.6.place, c.requires.from_in_bounds, length-drop a.from a.chunk.now)

pub overflow_sub-n : goal.overflow_sub-n
overflow_sub-n c = omega (arith, c.line_at-span.ensures.1)

pub overflow_add-next : goal.overflow_add-next
overflow_add-next c = omega (arith, c.if-chunk-span-le2.false, c.line_at-span.ensures.2, c.requires.from_in_bounds)

pub loop-after-smaller : goal.loop-after-smaller
loop-after-smaller c = omega (arith, c.line_at-span.ensures.1, c.line_at-span.ensures.2, c.if-chunk-span-le2.false)

pub loop-after-preserved : goal.loop-after-preserved
loop-after-preserved c =
    let a = c.args in
    let l = c.loop-after in
    let j = c.take_line-j in
    let v = c.line_at-span in
    let k = a.chunk.now in
    let z = c.requires in
    let b = j.new.buffer in
    let s = hand_line l.first a.line.now k l.at l.end in
    let to = l.card.used + (l.n + 2) in
    let d = c.in-Ok.after in
    let e = c.in-Ok.is in
    let more = c.if-chunk-span-le2.false in
    let t = subst (λ (x : KeptStep). Took l.card s l.buffer b l.place to x) e j.ensures in
    let w = within_next l.card d s l.buffer b l.place to l.invariant.5 t in
    let m = length-drop a.from k in
    let full : length b ≡ 16384 = omega (arith, j, l.invariant.0) in
    let r = hand_next a.c a.line.now (drop a.from k) a.buffer.now a.start l.card s (drop l.next k) l.buffer l.place l.invariant.6 b to (omega (arith, l.invariant.2)) d (omega (arith, full, w.used, l.invariant.6.place, m, c.requires.from_in_bounds)) t in
    let es = take (v.result.end - l.next) (drop l.next k) in
    let on : l.place + length s + 2 ≡ l.place + (l.n + 2) = omega (arith, l.invariant.2) in (
      full,
      (omega (arith, l.invariant.1, v.ensures.1), omega (arith, v.ensures.1), v.ensures.2, omega (arith, more, v.ensures.2)),
      sym (part_length k l.next v.result.end (omega (arith, more, v.ensures.1)) v.ensures.1 v.ensures.2),
      whole k l.next v.result.cr v.result.end v.ensures.0,
      turn_fine k l.next v.result.end l.invariant.1.3 v.ensures.1 v.ensures.2 l.invariant.4 more,
      subst (Within d) on w,
      subst (Hand a.c a.line.now (drop a.from k) a.buffer.now a.start d es (drop (v.result.end + 2) k) b) on
          (rest_hand a.c a.line.now (drop a.from k) a.buffer.now a.start d (drop l.next k) b (l.place + length s + 2) r es (drop (v.result.end + 2) k)
          (turn_next k l.next v.result.end l.invariant.1.3 v.ensures.1 v.ensures.2 l.invariant.4 more)
          (turn_size k l.next v.result.end l.invariant.1.3 v.ensures.1 v.ensures.2 l.invariant.4 more)),
    )

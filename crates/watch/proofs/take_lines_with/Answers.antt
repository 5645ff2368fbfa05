-- `watch::take_lines_with` meets its contract. Assumes nothing.
use native.Mathlib.Omega.{arith}
use mathlib.Core.Path.{◌≡◌, refl, sym, subst}
use mathlib.Core.List.{List, ◌++◌}
use Prim.Native.Nat.{ℕ, ◌+◌, ◌<◌}
use lib.ListN.{length, drop, length-drop}
use Rattle.desk_pool.specs.Pools.{patch}
use Rattle.watch_arrivals.specs.Arrivals.{lone_from}
use Rattle.watch_arrivals.proofs.ArrivalLaws.{fine_next, next_two_least, rest}
use Rattle.watch.specs.declared.Watch.{Watch}
use Rattle.watch.specs.State.{After}
use Rattle.watch.proofs.ArriveLaws.{after_refused, after_kept}
use Rattle.watch.specs.Outcome.{Comes, lines_came}
use Rattle.watch.proofs.OutcomeLaws.{line_long, comes_refused, comes_kept}
use Rattle.watch.proofs.take_lines_with.Goals as goal

pub judge_chunk-l-requires : goal.judge_chunk-l-requires
judge_chunk-l-requires c =
    let a = c.args in
    let p = c.requires in
    let inside = subst (λ (k : ℕ). k < length a.chunk.now) p.next_value.0 p.next_value.1 in
    let two = next_two_least a.w.tail a.chunk.now inside in record {
      tables = (c.table-t.ensures, c.table-rows.ensures, p.scanner);
      next_in_bounds = (omega (arith, p.next_value.1), omega (arith, p.tail_bound.1), p.sound.1, omega (arith, two, p.tail_bound.0, p.next_value.0));
      within = p.sound.0.card;
      chunk_value = subst (λ (k : ℕ). lone_from 0 (drop k a.chunk.now) ≡ length (drop k a.chunk.now) + 1) (sym p.next_value.0) (fine_next a.w.tail a.chunk.now p.chunk_value inside);
    }

pub returns-in_default : goal.returns-in_default
returns-in_default c =
    let a = c.args in
    let p = c.requires in
    let g = c.judge_chunk-l in
    let b = g.new.buffer in
    let two = next_two_least a.w.tail a.chunk.now (subst (λ (k : ℕ). k < length a.chunk.now) p.next_value.0 p.next_value.1) in record {
      by_index = λ i l h e. subst (λ (x : Watch). After x b (i ++ a.chunk.now)) (sym c.stopped.ensures)
          (after_refused a.w a.buffer.now i a.chunk.now l h p.tail_bound.1 p.chunk_value a.next p.next_value.0 p.next_value.1 p.sound.1
          g.result.step b g.result.at g.ensures.went g.ensures.next_le_at.0 g.ensures.next_le_at.1 c.in_default.not-Ok _ a.tail refl e);
      comes = (λ e. subst (λ (x : Watch). Comes x b (lines_came a.w a.buffer.now a.chunk.now a.next)) (sym c.stopped.ensures)
          (comes_refused a.w a.buffer.now a.chunk.now a.next p.next_value.0 p.tail_bound.0 p.sound.0.card p.tail_bound.1 p.sound.1 (omega (arith, two, p.tail_bound.0, p.next_value.0)) p.next_value.1 _ a.tail refl e
          g.result.step b g.result.at g.ensures.went c.in_default.not-Ok));
    }

pub append-requires : goal.append-requires
append-requires c =
    let a = c.args in
    let p = c.requires in
    let g = c.judge_chunk-l in
    let two = next_two_least a.w.tail a.chunk.now (subst (λ (k : ℕ). k < length a.chunk.now) p.next_value.0 p.next_value.1) in
    let size = line_long a.w a.buffer.now a.chunk.now a.next p.next_value.0 p.tail_bound.0 p.sound.0.card p.tail_bound.1 p.sound.1 (omega (arith, two, p.tail_bound.0, p.next_value.0)) p.next_value.1 in
    let win = (g.ensures.went.rest c.in-Ok.card c.in-Ok.is).1 in
    rw (rest g.result.at a.chunk.now, length-drop g.result.at a.chunk.now)
    (omega (arith, win.used, size, g.ensures.next_le_at, p.tail_bound.1, p.sound.1, g, length-drop g.result.at a.chunk.now, length-drop a.next a.chunk.now))

pub overflow_add-result : goal.overflow_add-result
overflow_add-result c = omega (arith, c.judge_chunk-l.ensures.next_le_at, c.requires.tail_bound.1)

pub shape_of-buffer : goal.shape_of-buffer
shape_of-buffer c = omega (arith, c.append, c.judge_chunk-l)

pub returns : goal.returns
returns c =
    let a = c.args in
    let p = c.requires in
    let g = c.judge_chunk-l in
    let b = g.new.buffer in
    let two = next_two_least a.w.tail a.chunk.now (subst (λ (k : ℕ). k < length a.chunk.now) p.next_value.0 p.next_value.1) in
    let f = c.in-Ok.card in
    let put = subst (λ (x : List ℕ). c.append.new.buffer ≡ patch b f.used x) (rest g.result.at a.chunk.now) c.append.ensures in
    rw c.no_reason.ensures (record {
      by_index = λ i l h e.
          after_kept a.w a.buffer.now i a.chunk.now l h p.tail_bound.1 p.chunk_value a.next p.next_value.0 p.next_value.1 p.sound.1
          g.result.step b g.result.at g.ensures.went g.ensures.next_le_at.0 g.ensures.next_le_at.1 f c.in-Ok.is a.tail e c.append.new.buffer put;
      comes = (λ e.
          comes_kept a.w a.buffer.now a.chunk.now a.next p.next_value.0 p.tail_bound.0 p.sound.0.card p.tail_bound.1 p.sound.1 (omega (arith, two, p.tail_bound.0, p.next_value.0)) p.next_value.1 _ a.tail refl e
          g.result.step b g.result.at g.ensures.went f c.in-Ok.is g.ensures.next_le_at.0 g.ensures.next_le_at.1 (omega (arith, g, p.sound.1)) c.append.new.buffer put);
    })

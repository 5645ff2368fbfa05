-- `watch::take_octets` meets its contract. Assumes nothing.
use native.Mathlib.Omega.{arith}
use mathlib.Core.Path.{sym, subst}
use mathlib.Core.List.{◌++◌}
use Rattle.watch.specs.declared.Watch.{Watch}
use Rattle.watch.specs.State.{After}
use Rattle.watch.proofs.ArriveLaws.{after_open}
use Rattle.watch.proofs.OutcomeLaws.{octets_lines, octets_open}
use Rattle.watch.proofs.take_octets.Goals as goal

pub returns-then-next-chunk : goal.returns-then-next-chunk
returns-then-next-chunk c = let a = c.args in record { by_index = λ i l h. c.take_lines.ensures.by_index i l h c.tail_after-tail.ensures; comes = (octets_lines a.w a.buffer.now a.chunk.now c.next_line-next.result c.next_line-next.ensures c.if-next-chunk.true c.take_lines.result _ (c.take_lines.ensures.comes c.tail_after-tail.ensures)) }

pub returns : goal.returns
returns c =
    let a = c.args in
    let p = c.requires in record {
      by_index = λ i l h. subst (λ (x : Watch). After x c.go_on.new.buffer (i ++ a.chunk.now)) (sym c.go_on.ensures.value)
          (after_open a.w a.buffer.now i a.chunk.now l h c.requires.tail_bound.1 c.requires.chunk_value (omega (arith, c.if-next-chunk.false, c.next_line-next.ensures)) c.tail_after-tail.result c.tail_after-tail.ensures c.go_on.new.buffer c.go_on.ensures.buffer_after);
      comes = (octets_open a.w a.buffer.now a.chunk.now (omega (arith, c.if-next-chunk.false, c.next_line-next.ensures)) c.requires.sound.0.card c.requires.tail_bound.0 c.requires.tail_bound.1 (omega (arith, c.requires.sound.0.card.used, c.requires.sound.0.counts.short, c.requires.sound.1)) c.tail_after-tail.result c.tail_after-tail.ensures c.go_on.result c.go_on.ensures.value c.go_on.new.buffer c.go_on.ensures.buffer_after);
    }

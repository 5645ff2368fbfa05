-- `watch::arrive` meets its contract. Assumes nothing.
use native.Mathlib.Omega.{arith}
use mathlib.Core.Path.{refl, sym, ap, subst, ◌∙◌}
use mathlib.Core.List.{◌++◌}
use Rattle.watch_arrivals.proofs.ArrivalLaws.{lone_le, lone_least, tail_short}
use Rattle.watch.specs.declared.Watch.{Watch}
use Rattle.watch.specs.State.{After}
use Rattle.watch.proofs.FaultLaws.{stays_over, gets_over, stays_broken, gets_broken, stays_faulty, lives, cleared}
use Rattle.watch.specs.Outcome.{Comes, came, quiet_view}
use Rattle.watch.proofs.OutcomeLaws.{quiet_sound, quiet_comes, chunk_stays, chunk_over, chunk_broken, chunk_breaks, chunk_faulty, chunk_octets, cleared_is, broken_same, faulty_same}
use Rattle.watch.proofs.arrive.Goals as goal

pub returns-then-w-eq-TOO_LONG : goal.returns-then-w-eq-TOO_LONG
returns-then-w-eq-TOO_LONG c = record { by_index = λ i s e. stays_over c.args.w c.args.buffer.now i c.args.chunk.now c.if-w-eq-TOO_LONG.true s e; comes = (chunk_stays c.args.w c.args.buffer.now c.args.chunk.now c.if-w-eq-TOO_LONG.true c.requires.0) }

pub returns-then-before-chunk : goal.returns-then-before-chunk
returns-then-before-chunk c =
    let a = c.args in
    let p = c.requires in record {
      by_index = λ i s e. subst (λ (x : Watch). After x c.clear.new.buffer (i ++ a.chunk.now)) (sym c.too_long.ensures)
          (gets_over a.w a.buffer.now i a.chunk.now c.if-w-eq-TOO_LONG.false s (omega (arith, c.if-before-chunk.true, p.0.counts.short)) c.clear.new.buffer
          (cleared a.w a.buffer.now i c.clear.new.buffer e s (omega (arith, p.0.card.used, p.0.counts.short)) c.clear.ensures));
      comes = (quiet_comes _ _ _ _ _ c.too_long.result c.clear.new.buffer _ (quiet_sound _ _ _ _ _ (omega arith) (omega arith) (λ n. omega arith)) c.too_long.ensures (chunk_over a.w a.buffer.now a.chunk.now c.if-w-eq-TOO_LONG.false (omega (arith, c.if-before-chunk.true, p.0.counts.short)) ∙ ap (came (quiet_view 3 1 16384 16384 0)) (cleared_is a.w a.buffer.now c.clear.new.buffer c.clear.ensures)));
    }

pub returns-then-w-eq-LONE_BREAK : goal.returns-then-w-eq-LONE_BREAK
returns-then-w-eq-LONE_BREAK c =
    let a = c.args in
    let p = c.requires in record {
      by_index = λ i s e. subst (λ (x : Watch). After x a.buffer.now (i ++ a.chunk.now)) (sym c.faulty.ensures)
          (stays_broken a.w a.buffer.now i a.chunk.now c.if-w-eq-LONE_BREAK.true s e _ refl (omega (arith, c.if-before-chunk.false, p.0.counts.short)));
      comes = (quiet_comes _ _ _ _ _ c.faulty.result a.buffer.now _ (quiet_sound _ _ _ _ _ (omega (arith, c.if-before-chunk.false, p.0.counts.short)) (omega arith) (λ n. omega arith)) c.faulty.ensures (chunk_broken a.w a.buffer.now a.chunk.now c.if-w-eq-TOO_LONG.false (omega (arith, c.if-before-chunk.false, p.0.counts.short)) c.if-w-eq-LONE_BREAK.true));
    }

pub overflow_sub-before-then-lone-chunk : goal.overflow_sub-before-then-lone-chunk
overflow_sub-before-then-lone-chunk c = omega (arith, c.first_break-lone.ensures, lone_least c.args.w.tail c.args.chunk.now, c.requires.0.counts.tail)

pub returns-then-lone-chunk : goal.returns-then-lone-chunk
returns-then-lone-chunk c =
    let a = c.args in
    let p = c.requires in
    let f = c.first_break-lone.ensures in record {
      by_index = λ i s e. subst (λ (x : Watch). After x c.clear-then-lone-chunk.new.buffer (i ++ a.chunk.now)) (sym c.faulty-then-lone-chunk.ensures)
          (gets_broken a.w a.buffer.now i a.chunk.now c.if-w-eq-TOO_LONG.false c.if-w-eq-LONE_BREAK.false s _ _ refl (omega (arith, c.if-before-chunk.false, p.0.counts.short)) (omega (arith, f, c.if-lone-chunk.true))
          (omega (arith, f, lone_least a.w.tail a.chunk.now, p.0.counts.tail)) c.clear-then-lone-chunk.new.buffer
          (cleared a.w a.buffer.now i c.clear-then-lone-chunk.new.buffer e s (omega (arith, p.0.card.used, p.0.counts.short)) c.clear-then-lone-chunk.ensures));
      comes = (quiet_comes _ _ _ _ _ c.faulty-then-lone-chunk.result c.clear-then-lone-chunk.new.buffer _ (quiet_sound _ _ _ _ _ (omega (arith, c.if-before-chunk.false, p.0.counts.short)) (omega arith) (λ n. omega arith)) c.faulty-then-lone-chunk.ensures (chunk_breaks a.w a.buffer.now a.chunk.now c.if-w-eq-TOO_LONG.false (omega (arith, c.if-before-chunk.false, p.0.counts.short)) c.if-w-eq-LONE_BREAK.false (omega (arith, f, c.if-lone-chunk.true)) ∙ broken_same a.w a.buffer.now a.chunk.now _ f c.clear-then-lone-chunk.new.buffer c.clear-then-lone-chunk.ensures));
    }

pub returns-then-w-eq-LINE_FAULT : goal.returns-then-w-eq-LINE_FAULT
returns-then-w-eq-LINE_FAULT c =
    let a = c.args in
    let p = c.requires in record {
      by_index = λ i s e. subst (λ (x : Watch). After x a.buffer.now (i ++ a.chunk.now)) (sym c.faulty-then-w-eq-LINE_FAULT.ensures)
          (stays_faulty a.w a.buffer.now i a.chunk.now c.if-w-eq-LINE_FAULT.true s e _ c.tail_after-tail.result refl (omega (arith, c.if-before-chunk.false, p.0.counts.short)) (omega (arith, c.first_break-lone.ensures, c.if-lone-chunk.false)) c.tail_after-tail.ensures);
      comes = (quiet_comes _ _ _ _ _ c.faulty-then-w-eq-LINE_FAULT.result a.buffer.now _ (quiet_sound _ _ _ _ _ (omega (arith, c.if-before-chunk.false, p.0.counts.short)) (omega (arith, c.tail_after-tail.ensures, tail_short a.w.tail a.chunk.now, p.0.counts.tail)) (λ n. absurd (n refl))) c.faulty-then-w-eq-LINE_FAULT.ensures (chunk_faulty a.w a.buffer.now a.chunk.now c.if-w-eq-TOO_LONG.false (omega (arith, c.if-before-chunk.false, p.0.counts.short)) c.if-w-eq-LONE_BREAK.false (omega (arith, c.first_break-lone.ensures, c.if-lone-chunk.false)) c.if-w-eq-LINE_FAULT.true ∙ faulty_same a.w a.buffer.now a.chunk.now c.tail_after-tail.result c.tail_after-tail.ensures));
    }

pub take_octets-requires : goal.take_octets-requires
take_octets-requires c =
    let a = c.args in
    let p = c.requires in
    record { sound = p; tail_bound = (p.0.counts.line c.if-w-eq-LINE_FAULT.false, omega (arith, c.if-before-chunk.false, p.0.counts.short)); chunk_value = omega (arith, c.first_break-lone.ensures, c.if-lone-chunk.false, lone_le a.w.tail a.chunk.now) }

pub returns : goal.returns
returns c =
    let a = c.args in
    let p = c.requires in record { by_index = λ i s e. c.take_octets.ensures.by_index i (lives a.w a.buffer.now i a.chunk.now c.if-w-eq-TOO_LONG.false c.if-w-eq-LONE_BREAK.false c.if-w-eq-LINE_FAULT.false s) e; comes = (subst (Comes c.take_octets.result c.take_octets.new.buffer) (sym (chunk_octets a.w a.buffer.now a.chunk.now c.if-w-eq-TOO_LONG.false (omega (arith, c.if-before-chunk.false, p.0.counts.short)) c.if-w-eq-LONE_BREAK.false (omega (arith, c.first_break-lone.ensures, c.if-lone-chunk.false)) c.if-w-eq-LINE_FAULT.false)) c.take_octets.ensures.comes) }

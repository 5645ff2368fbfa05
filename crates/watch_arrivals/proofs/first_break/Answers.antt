-- `watch_arrivals::first_break` meets its contract. Assumes nothing.
use native.Mathlib.Omega.{arith}
use mathlib.Core.Path.{sym, ◌∙◌}
use Rattle.watch_arrivals.proofs.ArrivalLaws.{lone_other, break_none, break_here, break_lf}
use Rattle.watch_arrivals.proofs.first_break.Goals as goal

pub returns-then-tail-ne-AFTER_CR : goal.returns-then-tail-ne-AFTER_CR
returns-then-tail-ne-AFTER_CR c = c.break_from.ensures ∙ omega (arith, lone_other c.args.tail c.args.chunk.now c.if-tail-ne-AFTER_CR.true)

pub returns-then-chunk-eq0 : goal.returns-then-chunk-eq0
returns-then-chunk-eq0 c = sym (break_none c.args.tail c.args.chunk.now c.if-chunk-eq0.true)

pub returns-then-chunk-ne10 : goal.returns-then-chunk-ne10
returns-then-chunk-ne10 c = sym (break_here c.args.tail c.args.chunk.now c.if-tail-ne-AFTER_CR.false (omega (arith, c.if-chunk-eq0.false)) c.if-chunk-ne10.true)

pub returns : goal.returns
returns c = c.break_from-2.ensures ∙ sym (break_lf c.args.tail c.args.chunk.now c.if-tail-ne-AFTER_CR.false (omega (arith, c.if-chunk-eq0.false)) c.if-chunk-ne10.false)

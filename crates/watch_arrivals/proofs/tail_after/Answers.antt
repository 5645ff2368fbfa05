-- `watch_arrivals::tail_after` meets its contract. Assumes nothing.
use native.Mathlib.Omega.{arith}
use mathlib.Core.Path.{sym}
use Rattle.watch_arrivals.proofs.ArrivalLaws.{tail_none, ends_cr, ends_other, alone_pair, alone_lf, ends_pair, ends_lf}
use Rattle.watch_arrivals.proofs.tail_after.Goals as goal

pub returns-then-n-eq0 : goal.returns-then-n-eq0
returns-then-n-eq0 c = sym (tail_none c.args.tail c.args.chunk.now c.if-n-eq0.true)

pub returns-then-chunk-n-eq13 : goal.returns-then-chunk-n-eq13
returns-then-chunk-n-eq13 c = sym (ends_cr c.args.tail c.args.chunk.now (omega (arith, c.if-n-eq0.false)) c.if-chunk-n-eq13.true)

pub returns-then-chunk-n-ne10 : goal.returns-then-chunk-n-ne10
returns-then-chunk-n-ne10 c = sym (ends_other c.args.tail c.args.chunk.now (omega (arith, c.if-n-eq0.false)) c.if-chunk-n-eq13.false c.if-chunk-n-ne10.true)

pub returns-then-tail-eq-AFTER_CR : goal.returns-then-tail-eq-AFTER_CR
returns-then-tail-eq-AFTER_CR c = sym (alone_pair c.args.tail c.args.chunk.now c.if-n-eq1.true c.if-chunk-n-ne10.false c.if-tail-eq-AFTER_CR.true)

pub returns-then-n-eq1 : goal.returns-then-n-eq1
returns-then-n-eq1 c = sym (alone_lf c.args.tail c.args.chunk.now c.if-n-eq1.true c.if-chunk-n-ne10.false c.if-tail-eq-AFTER_CR.false)

pub returns-then-chunk-n-eq13-2 : goal.returns-then-chunk-n-eq13-2
returns-then-chunk-n-eq13-2 c = sym (ends_pair c.args.tail c.args.chunk.now (omega (arith, c.if-n-eq0.false, c.if-n-eq1.false)) c.if-chunk-n-ne10.false c.if-chunk-n-eq13-2.true)

pub returns : goal.returns
returns c = sym (ends_lf c.args.tail c.args.chunk.now (omega (arith, c.if-n-eq0.false, c.if-n-eq1.false)) c.if-chunk-n-ne10.false c.if-chunk-n-eq13-2.false)

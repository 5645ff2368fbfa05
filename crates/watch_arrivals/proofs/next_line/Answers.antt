-- `watch_arrivals::next_line` meets its contract. Assumes nothing.
use native.Mathlib.Omega.{arith}
use mathlib.Core.Path.{sym, ◌∙◌}
use borrow.Author.Tests.{not-true, not-false}
use Rattle.watch_arrivals.proofs.ArrivalLaws.{lone_other, next_none, next_at, next_on, fine_on, next_short, next_one, next_two, fine_two, next_other}
use Rattle.watch_arrivals.proofs.next_line.Goals as goal

pub returns-then-n-eq0 : goal.returns-then-n-eq0
returns-then-n-eq0 c = sym (next_none c.args.tail c.args.chunk.now c.if-n-eq0.true)

pub returns-then-not-blank : goal.returns-then-not-blank
returns-then-not-blank c = sym (next_at c.args.tail c.args.chunk.now c.if-tail-eq-AFTER_CR_LF.true (omega (arith, c.if-n-eq0.false)) (sym c.is_blank-blank.ensures ∙ not-true c.is_blank-blank.result c.if-not-blank.true-raw))

pub line_after-requires : goal.line_after-requires
line_after-requires c = record { from_in_bounds = omega (arith, c.if-n-eq0.false); chunk_value = fine_on c.args.tail c.args.chunk.now c.if-tail-eq-AFTER_CR_LF.true (omega (arith, c.if-n-eq0.false)) (sym c.is_blank-blank.ensures ∙ not-false c.is_blank-blank.result c.if-not-blank.false-raw) c.requires }

pub returns-then-tail-eq-AFTER_CR_LF : goal.returns-then-tail-eq-AFTER_CR_LF
returns-then-tail-eq-AFTER_CR_LF c = c.line_after.ensures ∙ sym (next_on c.args.tail c.args.chunk.now c.if-tail-eq-AFTER_CR_LF.true (omega (arith, c.if-n-eq0.false)) (sym c.is_blank-blank.ensures ∙ not-false c.is_blank-blank.result c.if-not-blank.false-raw))

pub returns-then-n-lt2 : goal.returns-then-n-lt2
returns-then-n-lt2 c = sym (next_short c.args.tail c.args.chunk.now c.if-tail-eq-AFTER_CR.true c.if-n-lt2.true)

pub returns-then-not-blank-2 : goal.returns-then-not-blank-2
returns-then-not-blank-2 c = sym (next_one c.args.tail c.args.chunk.now c.if-tail-eq-AFTER_CR.true c.if-n-lt2.false c.requires (sym c.is_blank-blank-then-tail-eq-AFTER_CR.ensures ∙ not-true c.is_blank-blank-then-tail-eq-AFTER_CR.result c.if-not-blank-2.true-raw))

pub line_after-requires-then-tail-eq-AFTER_CR : goal.line_after-requires-then-tail-eq-AFTER_CR
line_after-requires-then-tail-eq-AFTER_CR c = record { from_in_bounds = c.if-n-lt2.false; chunk_value = fine_two c.args.tail c.args.chunk.now c.if-tail-eq-AFTER_CR.true c.if-n-lt2.false c.requires (sym c.is_blank-blank-then-tail-eq-AFTER_CR.ensures ∙ not-false c.is_blank-blank-then-tail-eq-AFTER_CR.result c.if-not-blank-2.false-raw) }

pub returns-then-tail-eq-AFTER_CR : goal.returns-then-tail-eq-AFTER_CR
returns-then-tail-eq-AFTER_CR c = c.line_after-then-tail-eq-AFTER_CR.ensures ∙ sym (next_two c.args.tail c.args.chunk.now c.if-tail-eq-AFTER_CR.true c.if-n-lt2.false c.requires (sym c.is_blank-blank-then-tail-eq-AFTER_CR.ensures ∙ not-false c.is_blank-blank-then-tail-eq-AFTER_CR.result c.if-not-blank-2.false-raw))

pub line_after-requires-2 : goal.line_after-requires-2
line_after-requires-2 c = record { from_in_bounds = omega arith; chunk_value = sym (lone_other c.args.tail c.args.chunk.now c.if-tail-eq-AFTER_CR.false) ∙ c.requires }

pub returns : goal.returns
returns c = c.line_after-2.ensures ∙ omega (arith, next_other c.args.tail c.args.chunk.now c.if-tail-eq-AFTER_CR.false c.if-tail-eq-AFTER_CR_LF.false)

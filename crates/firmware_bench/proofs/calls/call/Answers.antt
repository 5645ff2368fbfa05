-- `firmware_bench::calls::call` meets its contract. Assumes nothing.
use mathlib.Core.Path.{ap, ◌∙◌}
use borrow.Author.Tests.{ne_eqb}
use Rattle.firmware_bench.specs.Calls.{verdict_answer, call_step}
use Rattle.firmware_bench.proofs.calls.call.Goals as goal

pub returns-in-0 : goal.returns-in-0
unfolding call_step
returns-in-0 c = rw c.in-0.is c.open.ensures

pub returns-in-1 : goal.returns-in-1
unfolding call_step
returns-in-1 c = rw c.in-1.is c.add.ensures

pub returns-in-2 : goal.returns-in-2
unfolding call_step
returns-in-2 c = rw c.in-2.is c.release.ensures

pub returns-in-3 : goal.returns-in-3
unfolding call_step
returns-in-3 c = rw (c.in-3.is, c.held.ensures)

pub returns-in_default : goal.returns-in_default
unfolding call_step
returns-in_default c =
    let kind = c.args.kind in
    let other = c.in_default.in_default-own.rest in
    simp (
      ne_eqb kind 0 other.0.0.0.1,
      ne_eqb kind 1 other.0.0.1,
      ne_eqb kind 2 other.0.1,
      ne_eqb kind 3 other.1,
      c.verdict_answer.ensures ∙ ap verdict_answer c.judge.ensures,
    )

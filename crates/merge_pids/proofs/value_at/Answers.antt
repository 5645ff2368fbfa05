-- `merge_pids::value_at` meets its contract. Assumes nothing.
use mathlib.Core.Path.{ap, ◌∙◌}
use Prim.Native.Nat.{ℕ, ◌+◌}
use native.Mathlib.Omega.{arith}
use lib.ListN.{drop}
use lib.Seq.{drop-drop}
use Rattle.octets.specs.Classes.{bare, quoted}
use Rattle.octets.proofs.Runs.{run_has}
use Rattle.octets.proofs.Masks.{has_bare, has_quoted}
use Rattle.line_parser.proofs.Steps.{is, isnt}
use Rattle.merge_pids.specs.Marks.{span_at}
use Rattle.merge_pids.proofs.value_at.Goals as goal

pub returns-then-s-at-ne34 : goal.returns-then-s-at-ne34
unfolding span_at
returns-then-s-at-ne34 c =
    let e = c.span-end.ensures.value ∙ ap (λ (k : ℕ). c.args.at + k) (run_has 8 bare has_bare (drop c.args.at c.args.s.now)) in
    record { value = rw (isnt c.args.s.now c.args.at 34 c.if-s-at-ne34.true) (ap (λ (k : ℕ). record { start = c.args.at; end = k; next = k }) e); start_le_end = (omega (arith, c.span-end.ensures.value), c.span-end.ensures.upper_bound, omega (arith, c.span-end.ensures.upper_bound)) }

pub returns : goal.returns
unfolding span_at
returns c =
    let e = c.span-end-2.ensures.value ∙ ap (λ (k : ℕ). c.args.at + 1 + k) (run_has 16 quoted has_quoted (drop (c.args.at + 1) c.args.s.now)) in
    record { value = rw (is c.args.s.now c.args.at 34 c.if-s-at-ne34.false, drop-drop) (ap (λ (k : ℕ). record { start = c.args.at + 1; end = k; next = k + 1 }) e); start_le_end = (omega (arith, c.span-end-2.ensures.value), c.span-end-2.ensures.upper_bound, omega (arith, c.span-end-2.ensures.upper_bound)) }

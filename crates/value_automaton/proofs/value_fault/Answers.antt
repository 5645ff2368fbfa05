-- `value_automaton::value_fault` meets its contract. Assumes nothing.
use mathlib.Core.Path.{ap, ◌∙◌}
use Rattle.value_kinds.specs.Shapes.{Shape, fault_from}
use Rattle.value_kinds.specs.Kinds.{kind_in}
use Rattle.value_automaton.proofs.value_fault.Goals as goal

pub returns-then-does_fit : goal.returns-then-does_fit
returns-then-does_fit c = c.does_fit.ensures c.if-does_fit.true

pub returns : goal.returns
unfolding kind_in
returns c = c.scan.ensures ∙ ap (λ (r : Shape). fault_from r 0 c.args.s.now) c.start-first.ensures.result_value

-- `value_automaton::judge_value` meets its contract. Assumes nothing.
use mathlib.Core.Path.{ap, ◌∙◌}
use Rattle.value_kinds.specs.Shapes.{Shape, fault_from}
use Rattle.value_kinds.specs.Kinds.{value_in}
use Rattle.value_automaton.proofs.judge_value.Goals as goal

pub returns-then-does_satisfy : goal.returns-then-does_satisfy
returns-then-does_satisfy c = c.does_satisfy.ensures c.if-does_satisfy.true

pub returns : goal.returns
unfolding value_in
returns c = c.scan.ensures ∙ ap (λ (r : Shape). fault_from r 0 c.args.s.now) c.first_state-first.ensures.result_value

-- `value_automaton::first_state` meets its contract. Assumes nothing.
use borrow.Author.Tests.{not-true, not-false, ne_eqb}
use mathlib.Core.Path.{sym, ◌∙◌}
use native.Mathlib.Omega.{arith}
use Rattle.value_kinds.specs.Kinds.{line_shape}
use Rattle.value_automaton.specs.States.{states, state_shape}
use Rattle.value_automaton.proofs.FrameLaws.{of_kind_lem, of_frame}
use Rattle.value_automaton.proofs.first_state.Goals as goal

pub returns-then-not-is_framing : goal.returns-then-not-is_framing
returns-then-not-is_framing c =
    let a = c.args in
    record { upper_bound = c.start.ensures.upper_bound; result_value = c.start.ensures.result_value ∙ sym (of_kind_lem a.edition a.row a.kind (sym c.is_framing.ensures ∙ not-true c.is_framing.result c.if-not-is_framing.true-raw)) }

pub returns-then-row-eq-VERSION : goal.returns-then-row-eq-VERSION
unfolding line_shape state_shape states
returns-then-row-eq-VERSION c = record { upper_bound = omega arith; result_value = rw c.if-row-eq-VERSION.true }

pub returns : goal.returns
unfolding state_shape states
returns c =
    let a = c.args in
    let frames = sym c.is_framing.ensures ∙ not-false c.is_framing.result c.if-not-is_framing.false-raw in
    record { upper_bound = omega arith; result_value = sym (of_frame a.edition a.row a.kind frames (ne_eqb a.row 34 c.if-row-eq-VERSION.false)) }

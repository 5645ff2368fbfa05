-- `value_automaton::does_satisfy` meets its contract. Assumes nothing.
use borrow.Author.Tests.{not-true, not-false, ne_eqb}
use mathlib.Core.Path.{sym, ap, ◌∙◌}
use Rattle.value_kinds.specs.Shapes.{Shape, fault_from}
use Rattle.value_kinds.specs.Kinds.{vcard, version, kind_in, line_shape, value_in}
use Rattle.value_automaton.proofs.FrameLaws.{of_kind_lem, of_frame, framed}
use Rattle.value_automaton.proofs.does_satisfy.Goals as goal

pub returns-then-not-is_framing : goal.returns-then-not-is_framing
unfolding value_in kind_in
returns-then-not-is_framing c =
    let a = c.args in
    λ e. c.does_fit.ensures e
    ∙ ap (λ (r : Shape). fault_from r 0 a.s.now) (sym (of_kind_lem a.edition a.row a.kind (sym c.is_framing.ensures ∙ not-true c.is_framing.result c.if-not-is_framing.true-raw)))

pub returns-then-row-eq-VERSION : goal.returns-then-row-eq-VERSION
unfolding line_shape
returns-then-row-eq-VERSION c =
    let a = c.args in
    λ e. framed a.edition a.row a.kind version a.s.now (rw c.if-row-eq-VERSION.true) (c.is_four.ensures e)

pub returns : goal.returns
returns c =
    let a = c.args in
    let frames = sym c.is_framing.ensures ∙ not-false c.is_framing.result c.if-not-is_framing.false-raw in
    λ e. framed a.edition a.row a.kind vcard a.s.now (of_frame a.edition a.row a.kind frames (ne_eqb a.row 34 c.if-row-eq-VERSION.false)) (c.is_vcard.ensures e)

-- `line_parameters::value_span` meets its contract. Assumes nothing.
use Rattle.line_parameters.proofs.FirstSteps.{spanned_none, spanned_bare, spanned_quoted}
use mathlib.Core.Path.{sym}
use Rattle.line_parameters.proofs.value_span.Goals as goal

pub returns-then-s-at : goal.returns-then-s-at
returns-then-s-at c =
    let a = c.args in
    sym (spanned_none a.s.now a.at c.if-s-at.true)

pub returns-then-s-at-ne34 : goal.returns-then-s-at-ne34
returns-then-s-at-ne34 c =
    let a = c.args in
    sym (spanned_bare a.s.now a.at c.span-end.result c.if-s-at-ne34.true c.span-end.ensures.value)

pub returns : goal.returns
returns c =
    let a = c.args in
    sym (spanned_quoted a.s.now a.at c.span-end-2.result c.if-s-at-ne34.false c.span-end-2.ensures.value)

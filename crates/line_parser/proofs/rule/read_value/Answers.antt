-- `line_parser::rule::read_value` meets its contract. Assumes nothing.
use mathlib.Core.Path.{sym}
use native.Mathlib.Omega.{arith}
use Rattle.line_parser.proofs.Steps.{value_none, value_bare, value_open, value_quoted, past}
use Rattle.line_parser.proofs.rule.read_value.Goals as goal

pub returns-then-s-at : goal.returns-then-s-at
returns-then-s-at c =
    let a = c.args in
    sym (value_none a.s.now a.at c.if-s-at.true)

pub returns-then-s-at-ne34 : goal.returns-then-s-at-ne34
returns-then-s-at-ne34 c =
    let a = c.args in
    sym (value_bare a.s.now a.at c.span-end.result c.if-s-at-ne34.true c.span-end.ensures.value)

pub returns-then-s-end : goal.returns-then-s-end
returns-then-s-end c =
    let a = c.args in
    let e = c.span-end-2.result in
    sym (value_open a.s.now a.at e c.if-s-at-ne34.false c.span-end-2.ensures.value
    (past a.s.now e 34 (omega arith) c.if-s-end.true))

pub returns-then-s-end-ne34 : goal.returns-then-s-end-ne34
returns-then-s-end-ne34 c =
    let a = c.args in
    sym (value_open a.s.now a.at c.span-end-2.result c.if-s-at-ne34.false c.span-end-2.ensures.value c.if-s-end-ne34.true)

pub returns : goal.returns
returns c =
    let a = c.args in
    sym (value_quoted a.s.now a.at c.span-end-2.result c.if-s-at-ne34.false c.span-end-2.ensures.value c.if-s-end-ne34.false)

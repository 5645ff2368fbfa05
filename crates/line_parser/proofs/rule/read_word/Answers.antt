-- `line_parser::rule::read_word` meets its contract. Assumes nothing.
use mathlib.Core.Path.{sym}
use Rattle.numbers.specs.Refusals.{number}
use Rattle.line_parser.proofs.Steps.{word_none, word_some}
use Rattle.line_parser.proofs.rule.read_word.Goals as goal

pub returns-then-end-at : goal.returns-then-end-at
returns-then-end-at c =
    let a = c.args in
    sym (word_none a.s.now a.at (number a.fault) c.span-end.result c.span-end.ensures.value c.if-end-at.true)

pub returns : goal.returns
returns c =
    let a = c.args in
    sym (word_some a.s.now a.at (number a.fault) c.span-end.result c.span-end.ensures.value c.if-end-at.false)

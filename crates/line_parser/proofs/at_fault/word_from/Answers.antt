-- `line_parser::at_fault::word_from` meets its contract. Assumes nothing.
use Rattle.line_parser.proofs.FaultSteps.{word_past, word_there}
use Rattle.line_parser.proofs.at_fault.word_from.Goals as goal

pub returns-then-s-start : goal.returns-then-s-start
returns-then-s-start c =
    let a = c.args in
    word_past a.s.now a.is_param a.start c.if-s-start.true

pub returns : goal.returns
returns c =
    let a = c.args in
    word_there a.s.now a.is_param a.start c.span-end.ensures.value

-- `line_parser::at_fault::octet_at` meets its contract. Assumes nothing.
use mathlib.Core.Path.{sym}
use Rattle.line_parser.proofs.Steps.{look}
use Rattle.line_parser.proofs.FaultSteps.{beyond}
use Rattle.line_parser.proofs.at_fault.octet_at.Goals as goal

pub returns-then-s-at : goal.returns-then-s-at
returns-then-s-at c = beyond c.args.s.now c.args.at c.if-s-at.true

pub returns : goal.returns
returns c = sym (look c.args.s.now c.args.at)

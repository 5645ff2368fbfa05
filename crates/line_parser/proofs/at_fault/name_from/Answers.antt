-- `line_parser::at_fault::name_from` meets its contract. Assumes nothing.
use mathlib.Core.Path.{sym, ◌∙◌}
use Rattle.line_parser.proofs.FaultSteps.{name_none, name_plain, name_grouped}
use borrow.Author.Rules.{rules}
use Rattle.line_parser.proofs.at_fault.name_from.Goals as goal

pub returns-then-end-eq0 : goal.returns-then-end-eq0
returns-then-end-eq0 c = name_none c.args.s.now c.span-end.ensures.value c.if-end-eq0.true

pub returns-then-octet_at-ne46 : goal.returns-then-octet_at-ne46
returns-then-octet_at-ne46 c = name_plain c.args.s.now c.span-end.ensures.value c.if-end-eq0.false (λ e. c.if-octet_at-ne46.true (c.octet_at.ensures ∙ e))

pub overflow_add-result : goal.overflow_add-result
overflow_add-result c = let b = c.span-end.ensures.upper_bound in search rules

pub returns : goal.returns
returns c = name_grouped c.args.s.now c.span-end.ensures.value c.if-end-eq0.false (sym c.octet_at.ensures ∙ c.if-octet_at-ne46.false)

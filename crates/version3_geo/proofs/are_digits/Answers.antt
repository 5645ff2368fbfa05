-- `version3_geo::are_digits` meets its contract. Assumes nothing.
use mathlib.Core.Path.{sym, ap, ◌∙◌}
use mathlib.Core.Bool.{not}
use borrow.Author.Tests.{eqb-true, eqb-false}
use Rattle.version3_geo.proofs.GeoLaws.{digits_none, digits_by}
use Rattle.version3_geo.proofs.are_digits.Goals as goal

pub returns-then-not-is_empty : goal.returns-then-not-is_empty
returns-then-not-is_empty c = digits_by c.args.s.now c.digits_end.result (eqb-false _ 0 (sym c.is_empty.ensures ∙ c.if-not-is_empty.true)) c.digits_end.ensures.0

pub returns-else-not-is_empty : goal.returns-else-not-is_empty
returns-else-not-is_empty c = ap not c.if-not-is_empty.false ∙ digits_none c.args.s.now (eqb-true _ 0 (sym c.is_empty.ensures ∙ c.if-not-is_empty.false))

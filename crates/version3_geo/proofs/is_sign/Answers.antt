-- `version3_geo::is_sign` meets its contract. Assumes nothing.
use Rattle.version3_geo.proofs.GeoLaws.{sign_plus, sign_by}
use mathlib.Core.Path.{◌∙◌}
use borrow.Author.Tests.{eq-eqb}
use Rattle.version3_geo.proofs.is_sign.Goals as goal

pub returns-then-b-eq43 : goal.returns-then-b-eq43
returns-then-b-eq43 c = eq-eqb c.args.b 43 c.if-b-eq43.true ∙ sign_plus c.args.b c.if-b-eq43.true

pub returns-else-b-eq43 : goal.returns-else-b-eq43
returns-else-b-eq43 c = sign_by c.args.b c.if-b-eq43.false

-- `version3_geo::has_scheme` meets its contract. Assumes nothing.
use mathlib.Core.Path.{◌∙◌}
use Rattle.version3_geo.proofs.GeoLaws.{scheme_is}
use Rattle.version3_geo.proofs.has_scheme.Goals as goal

pub returns-clause-value : goal.returns-clause-value
returns-clause-value c = c.starts_with.ensures.value ∙ scheme_is c.args.s.now

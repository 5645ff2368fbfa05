-- src/lib.rt:49:9
use mathlib.Core.Path.{ap, ◌∙◌}
use Rattle.version3_text.proofs.PutLaws.{rest_of}
use Rattle.version3_geo.specs.Floats.{digits}
use Rattle.version3_geo.proofs.GeoLaws.{fraction_none, fraction_not, fraction_by}
use Rattle.version3_geo.proofs.is_fraction.Goals as goal

pub returns-then-s-eq0 : goal.returns-then-s-eq0
returns-then-s-eq0 c = fraction_none c.args.s.now c.if-s-eq0.true

-- src/lib.rt:52:9
pub returns-then-s-ne46 : goal.returns-then-s-ne46
returns-then-s-ne46 c = fraction_not c.args.s.now c.if-s-eq0.false c.if-s-ne46.true

-- src/lib.rt:45:1
pub returns : goal.returns
returns c = fraction_by c.args.s.now c.are_digits.result c.if-s-eq0.false c.if-s-ne46.false (c.are_digits.ensures ∙ ap digits (rest_of 1 c.args.s.now))

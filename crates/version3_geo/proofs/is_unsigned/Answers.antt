-- src/lib.rt:61:9
use mathlib.Core.Path.{ap, ◌∙◌}
use Rattle.version3_text.proofs.PutLaws.{rest_of}
use Rattle.version3_geo.specs.Floats.{fraction}
use Rattle.version3_geo.proofs.GeoLaws.{unsigned_not, unsigned_by}
use Rattle.version3_geo.proofs.is_unsigned.Goals as goal

-- src/lib.rt:63:9
pub returns-then-end-eq0 : goal.returns-then-end-eq0
returns-then-end-eq0 c = unsigned_not c.args.s.now c.digits_end-end.result c.digits_end-end.ensures.0 c.if-end-eq0.true

-- src/lib.rt:58:1
pub returns : goal.returns
returns c = unsigned_by c.args.s.now c.is_fraction.result c.digits_end-end.result c.digits_end-end.ensures.0 c.if-end-eq0.false (c.is_fraction.ensures ∙ ap fraction (rest_of c.digits_end-end.result c.args.s.now))

-- src/lib.rt:83:9
use mathlib.Core.Path.{sym, ap, ◌∙◌}
use Rattle.version3_text.proofs.PutLaws.{rest_of}
use Rattle.version3_geo.specs.Floats.{unsigned}
use Rattle.version3_geo.proofs.GeoLaws.{float_none, float_by, nope}
use Rattle.version3_geo.proofs.is_float.Goals as goal

-- src/lib.rt:83:9
pub returns-then-s-eq0 : goal.returns-then-s-eq0
returns-then-s-eq0 c = float_none c.args.s.now c.is_unsigned.result c.if-s-eq0.true c.is_unsigned.ensures

-- src/lib.rt:86:9
pub returns-then-is_sign : goal.returns-then-is_sign
returns-then-is_sign c = float_by c.args.s.now c.is_unsigned-then-is_sign.result c.is_sign.result c.is_sign.ensures (λ e. c.is_unsigned-then-is_sign.ensures ∙ ap unsigned (rest_of 1 c.args.s.now)) (λ e. nope (sym e ∙ c.if-is_sign.true))

-- src/lib.rt:79:1
pub returns : goal.returns
returns c = float_by c.args.s.now c.is_unsigned-2.result c.is_sign.result c.is_sign.ensures (λ e. nope (sym c.if-is_sign.false ∙ e)) (λ e. c.is_unsigned-2.ensures)

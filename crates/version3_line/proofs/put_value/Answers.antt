-- src/lib.rt:119:9
use mathlib.Core.Path.{ap, ◌∙◌}
use native.Mathlib.Omega.{arith}
use lib.ListN.{length}
use Rattle.version3_line.specs.Lines.{text_by}
use Rattle.version3_line.proofs.LineLaws.{value_version, value_geo, value_other, version_length}
use Rattle.version3_line.proofs.put_value.Goals as goal

pub put_version-requires : goal.put_version-requires
put_version-requires c = omega (arith, ap length (value_version c.args.way c.args.row c.args.kind c.args.value.now c.if-row-eq-VERSION.true), version_length c.args.way, c.requires.0)

-- src/lib.rt:119:9
pub returns-then-row-eq-VERSION : goal.returns-then-row-eq-VERSION
returns-then-row-eq-VERSION c = rw (value_version c.args.way c.args.row c.args.kind c.args.value.now c.if-row-eq-VERSION.true) c.put_version.ensures

-- src/lib.rt:122:9
pub put_geo-requires : goal.put_geo-requires
put_geo-requires c = c.requires.1

-- src/lib.rt:122:9
pub returns-then-row-eq-GEO : goal.returns-then-row-eq-GEO
returns-then-row-eq-GEO c = rw (value_geo c.args.way c.args.row c.args.kind c.args.value.now c.if-row-eq-VERSION.false c.if-row-eq-GEO.true) c.put_geo.ensures

-- src/lib.rt:125:24
pub put_filled-requires : goal.put_filled-requires
put_filled-requires c =
    let e = value_other c.args.way c.args.row c.args.kind c.args.value.now c.if-row-eq-VERSION.false c.if-row-eq-GEO.false ∙ ap (λ (w : _). text_by w c.args.kind c.args.value.now) c.in-Inward.is in
    omega (arith, ap length e, c.requires.0)

-- src/lib.rt:126:25
pub put_text-requires : goal.put_text-requires
put_text-requires c =
    let e = value_other c.args.way c.args.row c.args.kind c.args.value.now c.if-row-eq-VERSION.false c.if-row-eq-GEO.false ∙ ap (λ (w : _). text_by w c.args.kind c.args.value.now) c.in-Outward.is in
    omega (arith, ap length e, c.requires.0)

-- src/lib.rt:114:1
pub returns-in-Inward : goal.returns-in-Inward
returns-in-Inward c =
    let e = value_other c.args.way c.args.row c.args.kind c.args.value.now c.if-row-eq-VERSION.false c.if-row-eq-GEO.false ∙ ap (λ (w : _). text_by w c.args.kind c.args.value.now) c.in-Inward.is in
    rw e c.put_filled.ensures

-- src/lib.rt:114:1
pub returns-in-Outward : goal.returns-in-Outward
returns-in-Outward c =
    let e = value_other c.args.way c.args.row c.args.kind c.args.value.now c.if-row-eq-VERSION.false c.if-row-eq-GEO.false ∙ ap (λ (w : _). text_by w c.args.kind c.args.value.now) c.in-Outward.is in
    rw e c.put_text.ensures

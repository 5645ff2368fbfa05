-- src/lib.rt:202:16
use mathlib.Core.Path.{sym, ◌∙◌}
use Rattle.version3_judge.proofs.JudgeLaws.{over_in_geo, over_in, over_out_geo, over_out}
use Rattle.version3_judge.proofs.does_go_over.Goals as goal

-- src/lib.rt:203:17
pub returns-then-row-eq-GEO : goal.returns-then-row-eq-GEO
returns-then-row-eq-GEO c = c.is_old_geo.ensures ∙ sym (over_in_geo c.args.kind c.args.value.now c.args.way c.args.row c.in-Inward.is c.if-row-eq-GEO.true)

-- src/lib.rt:209:17
pub returns-then-row-eq-GEO-2 : goal.returns-then-row-eq-GEO-2
returns-then-row-eq-GEO-2 c = c.is_new.ensures ∙ sym (over_out_geo c.args.kind c.args.value.now c.args.way c.args.row c.in-Outward.is c.if-row-eq-GEO-2.true)

-- src/lib.rt:195:1
pub returns-else-row-eq-GEO : goal.returns-else-row-eq-GEO
returns-else-row-eq-GEO c = c.does_fill.ensures ∙ sym (over_in c.args.kind c.args.value.now c.args.way c.args.row c.in-Inward.is c.if-row-eq-GEO.false)

-- src/lib.rt:195:1
pub returns-else-row-eq-GEO-2 : goal.returns-else-row-eq-GEO-2
returns-else-row-eq-GEO-2 c = over_out c.args.kind c.args.value.now c.args.way c.args.row c.in-Outward.is c.if-row-eq-GEO-2.false

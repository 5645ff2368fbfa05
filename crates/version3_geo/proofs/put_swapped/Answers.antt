-- src/lib.rt:162:5
use mathlib.Core.Path.{ap, ◌∙◌}
use native.Mathlib.Omega.{arith}
use lib.ListN.{length, length-set}
use Rattle.version3_text.proofs.PutLaws.{overlay_length}
use Rattle.version3_geo.proofs.GeoLaws.{swapped_put, swapped_not}
use Rattle.version3_geo.proofs.put_swapped.Goals as goal

-- src/lib.rt:165:9
pub bounds-out-at : goal.bounds-out-at
bounds-out-at c = omega (arith, c.mark_at-at.ensures.1, ap length c.copy_in.ensures ∙ overlay_length c.args.s.now c.args.out.now c.requires, c.requires)

-- src/lib.rt:158:1
pub shape_of-out-then-at-s : goal.shape_of-out-then-at-s
shape_of-out-then-at-s c = simp length-set (ap length c.copy_in.ensures ∙ overlay_length c.args.s.now c.args.out.now c.requires)

-- src/lib.rt:158:1
pub returns-then-at-s : goal.returns-then-at-s
returns-then-at-s c = swapped_put c.args.mark c.args.other c.mark_at-at.result c.args.s.now c.args.out.now c.mark_at-at.ensures.0 _ c.copy_in.ensures c.if-at-s.true

-- src/lib.rt:158:1
pub shape_of-out-else-at-s : goal.shape_of-out-else-at-s
shape_of-out-else-at-s c = ap length c.copy_in.ensures ∙ overlay_length c.args.s.now c.args.out.now c.requires

-- src/lib.rt:158:1
pub returns-else-at-s : goal.returns-else-at-s
returns-else-at-s c = swapped_not c.args.mark c.args.other c.mark_at-at.result c.args.s.now c.args.out.now c.mark_at-at.ensures.0 _ c.copy_in.ensures c.if-at-s.false

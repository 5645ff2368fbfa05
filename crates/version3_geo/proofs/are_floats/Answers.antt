-- src/lib.rt:109:9
use mathlib.Core.Path.{sym, ap, ◌∙◌}
use Prim.Native.Nat.{◌+◌}
use native.Mathlib.Omega.{arith}
use lib.ListN.{length-take}
use borrow.Author.Tests.{not-true, not-false}
use Rattle.version3_text.proofs.PutLaws.{rest_of}
use Rattle.version3_geo.specs.Floats.{float}
use Rattle.version3_geo.proofs.GeoLaws.{floats_none, floats_not, floats_by}
use Rattle.version3_geo.proofs.are_floats.Goals as goal

-- src/lib.rt:111:9
pub returns-then-at-s : goal.returns-then-at-s
returns-then-at-s c = floats_none c.args.mark c.args.s.now c.mark_at-at.result c.mark_at-at.ensures.0 c.if-at-s.true

-- src/lib.rt:113:18
pub slice_bounds-is_float-end : goal.slice_bounds-is_float-end
slice_bounds-is_float-end c = sym (simp length-take (omega (arith, c.mark_at-at.ensures.1)))

-- src/lib.rt:114:9
pub returns-then-not-is_float : goal.returns-then-not-is_float
returns-then-not-is_float c = floats_not c.args.mark c.args.s.now c.mark_at-at.result c.mark_at-at.ensures.0 (omega (arith, c.mark_at-at.ensures.1, c.if-at-s.false)) (sym (not-true _ c.if-not-is_float.true-raw) ∙ c.is_float.ensures)

-- src/lib.rt:116:16
pub overflow_add-next : goal.overflow_add-next
overflow_add-next c = omega (arith, c.mark_at-at.ensures.1, c.if-at-s.false)

-- src/lib.rt:117:14
pub slice_bounds-is_float-count : goal.slice_bounds-is_float-count
slice_bounds-is_float-count c = omega (arith, c.mark_at-at.ensures.1, c.if-at-s.false)

-- src/lib.rt:117:14
pub slice_bounds-is_float-start : goal.slice_bounds-is_float-start
slice_bounds-is_float-start c = omega (arith, c.mark_at-at.ensures.1, c.if-at-s.false)

-- src/lib.rt:106:1
pub returns : goal.returns
returns c = floats_by c.args.mark c.args.s.now c.mark_at-at.result c.mark_at-at.ensures.0 c.is_float-2.result (omega (arith, c.mark_at-at.ensures.1, c.if-at-s.false)) (sym (not-false _ c.if-not-is_float.false-raw) ∙ c.is_float.ensures) (c.is_float-2.ensures ∙ ap float (rest_of (c.mark_at-at.result + 1) c.args.s.now))

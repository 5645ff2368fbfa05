-- src/lib.rt:151:9
use mathlib.Core.Path.{sym, ap, ◌∙◌}
use borrow.Author.Tests.{not-true, not-false}
use Rattle.version3_text.proofs.PutLaws.{rest_of}
use Rattle.version3_geo.specs.Floats.{floats}
use Rattle.version3_geo.proofs.GeoLaws.{new_not, new_by}
use Rattle.version3_geo.proofs.is_new.Goals as goal

-- src/lib.rt:152:9
pub returns-then-not-has_scheme : goal.returns-then-not-has_scheme
returns-then-not-has_scheme c = new_not c.args.s.now (sym (not-true _ c.if-not-has_scheme.true-raw) ∙ c.has_scheme.ensures.value)

-- src/lib.rt:154:16
pub slice_bounds-are_floats-count : goal.slice_bounds-are_floats-count
slice_bounds-are_floats-count c = c.has_scheme.ensures.in_bounds (not-false _ c.if-not-has_scheme.false-raw)

-- src/lib.rt:154:16
pub slice_bounds-are_floats-start : goal.slice_bounds-are_floats-start
slice_bounds-are_floats-start c = c.has_scheme.ensures.in_bounds (not-false _ c.if-not-has_scheme.false-raw)

-- src/lib.rt:148:1
pub returns : goal.returns
returns c = new_by c.args.s.now c.are_floats.result (sym (not-false _ c.if-not-has_scheme.false-raw) ∙ c.has_scheme.ensures.value) (c.are_floats.ensures ∙ ap (floats 44) (rest_of 4 c.args.s.now))

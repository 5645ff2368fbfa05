-- src/lib.rt:184:9
use mathlib.Core.Path.{refl, sym, ap, ◌∙◌}
use mathlib.Core.List.{List}
use Prim.Native.Nat.{ℕ}
use native.Mathlib.Omega.{arith}
use lib.ListN.{length-take, length-drop}
use borrow.Author.Tests.{not-true, not-false}
use Rattle.version3_text.proofs.PutLaws.{rest_of}
use Rattle.octets.specs.Room.{overlay}
use Rattle.version3_geo.specs.Floats.{swapped}
use Rattle.version3_geo.proofs.GeoLaws.{made_old_not, made_old_lem, old_length}
use Rattle.version3_geo.proofs.put_old.Goals as goal

-- src/lib.rt:186:9
pub returns-then-not-has_scheme : goal.returns-then-not-has_scheme
returns-then-not-has_scheme c = rw (made_old_not c.args.s.now (sym (not-true _ c.if-not-has_scheme.true-raw) ∙ c.has_scheme.ensures.value)) (refl, c.copy_in.ensures)

-- src/lib.rt:188:17
pub slice_bounds-put_swapped-count : goal.slice_bounds-put_swapped-count
slice_bounds-put_swapped-count c = c.has_scheme.ensures.in_bounds (not-false _ c.if-not-has_scheme.false-raw)

-- src/lib.rt:188:17
pub slice_bounds-put_swapped-start : goal.slice_bounds-put_swapped-start
slice_bounds-put_swapped-start c = c.has_scheme.ensures.in_bounds (not-false _ c.if-not-has_scheme.false-raw)

-- src/lib.rt:188:5
pub put_swapped-requires : goal.put_swapped-requires
put_swapped-requires c = simp (length-take, length-drop) (omega (arith, c.requires))

-- src/lib.rt:189:5
pub overflow_sub-result : goal.overflow_sub-result
overflow_sub-result c = c.has_scheme.ensures.in_bounds (not-false _ c.if-not-has_scheme.false-raw)

-- src/lib.rt:180:1
pub returns : goal.returns
returns c =
    let s = c.args.s.now in
    rw (made_old_lem s (sym (not-false _ c.if-not-has_scheme.false-raw) ∙ c.has_scheme.ensures.value)) (sym (old_length s), c.put_swapped.ensures ∙ ap (λ (l : List ℕ). overlay (swapped 44 59 l) c.args.out.now) (rest_of 4 s))

-- src/lib.rt:79:9
use mathlib.Core.Path.{ap, ◌∙◌}
use mathlib.Core.List.{List, ◌++◌}
use Prim.Native.Nat.{ℕ}
use native.Mathlib.Omega.{arith}
use lib.ListN.{length, length-take, length-drop}
use Rattle.version3_text.proofs.PutLaws.{overlay_length, two_pieces}
use lib.ListN.{replicate, length-replicate}
use Rattle.version3_line.specs.Lines.{anew_by, lacking, filled_by}
use Rattle.version3_line.proofs.LineLaws.{filled_length}
use Rattle.version3_line.proofs.put_filled.Goals as goal

pub put_text-n-requires : goal.put_text-n-requires
put_text-n-requires c = omega (arith, filled_length c.args.kind c.args.value.now, c.requires)

-- src/lib.rt:81:41
pub slice_bounds-put_semicolons-count : goal.slice_bounds-put_semicolons-count
slice_bounds-put_semicolons-count c =
    let f = filled_length c.args.kind c.args.value.now in
    let r = ap length c.put_text-n.ensures.1 ∙ overlay_length (anew_by c.args.kind c.args.value.now) c.args.d.now (omega (arith, f, c.requires)) in
    omega (arith, f, r, c.put_text-n.ensures.0, c.requires)

-- src/lib.rt:81:41
pub slice_bounds-put_semicolons-start : goal.slice_bounds-put_semicolons-start
slice_bounds-put_semicolons-start c =
    let f = filled_length c.args.kind c.args.value.now in
    let r = ap length c.put_text-n.ensures.1 ∙ overlay_length (anew_by c.args.kind c.args.value.now) c.args.d.now (omega (arith, f, c.requires)) in
    omega (arith, f, r, c.put_text-n.ensures.0, c.requires)

-- src/lib.rt:81:5
pub put_semicolons-requires : goal.put_semicolons-requires
put_semicolons-requires c =
    let f = filled_length c.args.kind c.args.value.now in
    let r = ap length c.put_text-n.ensures.1 ∙ overlay_length (anew_by c.args.kind c.args.value.now) c.args.d.now (omega (arith, f, c.requires)) in
    simp (length-take, length-drop) (omega (arith, f, r, c.put_text-n.ensures.0, c.count_lacking-more.ensures, c.requires))

-- src/lib.rt:82:5
pub overflow_add-result : goal.overflow_add-result
overflow_add-result c = omega (arith, filled_length c.args.kind c.args.value.now, c.put_text-n.ensures.0, c.count_lacking-more.ensures, c.requires)

-- src/lib.rt:75:1
pub shape_of-d : goal.shape_of-d
unfolding filled_by
shape_of-d c =
    let k = c.args.kind in
    let v = c.args.value.now in
    let d = c.args.d.now in
    let f = filled_length k v in
    let z = c.count_lacking-more.ensures in
    let y : List ℕ = replicate (lacking k v) 59 in
    ap length (two_pieces d c.put_text-n.new.d (anew_by k v) y c.put_semicolons.new.out c.put_text-n.result c.put_text-n.ensures.0 c.put_text-n.ensures.1 (omega (arith, f, length-replicate {A = ℕ} (lacking k v) 59, c.requires)) (rw z at c.put_semicolons.ensures)) ∙ overlay_length (anew_by k v ++ y) d c.requires

-- src/lib.rt:75:1
pub returns : goal.returns
unfolding filled_by
returns c =
    let k = c.args.kind in
    let v = c.args.value.now in
    let d = c.args.d.now in
    let f = filled_length k v in
    let z = c.count_lacking-more.ensures in
    let y : List ℕ = replicate (lacking k v) 59 in
    (omega (arith, f, c.put_text-n.ensures.0, z), two_pieces d c.put_text-n.new.d (anew_by k v) y c.put_semicolons.new.out c.put_text-n.result c.put_text-n.ensures.0 c.put_text-n.ensures.1 (omega (arith, f, length-replicate {A = ℕ} (lacking k v) 59, c.requires)) (rw z at c.put_semicolons.ensures))

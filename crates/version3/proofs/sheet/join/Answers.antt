-- `version3::sheet::join` meets its contract. Assumes nothing.
use mathlib.Core.Path.{sym, ap, ◌∙◌}
use mathlib.Core.List.{◌++◌}
use Prim.Native.Nat.{ℕ, ◌+◌}
use native.Mathlib.Omega.{arith}
use lib.ListN.{length, take, drop, length-take, length-drop}
use Rattle.octets.proofs.RoomLaws.{fill_short, fill_fits, over_bound, within_bound}
use Rattle.version3_text.proofs.PutLaws.{overlay_length, two_pieces}
use Rattle.version3.specs.Places.{joined_by}
use Rattle.version3.proofs.PlaceLaws.{first_length, second_length, others_length, both_length, joined_length}
use Rattle.version3.proofs.sheet.join.Goals as goal

pub returns-then-n-gt-OCTETS : goal.returns-then-n-gt-OCTETS
returns-then-n-gt-OCTETS c =
    let a = c.args in
    over_bound (joined_by a.e a.first.now a.second.now a.others.now) a.out.now _ (joined_length a.e a.first.now a.second.now a.others.now c.requires) c.if-n-gt-OCTETS.true

pub returns-then-out-n : goal.returns-then-out-n
returns-then-out-n c =
    let a = c.args in
    let x = joined_by a.e a.first.now a.second.now a.others.now in
    let n = joined_length a.e a.first.now a.second.now a.others.now c.requires in
    fill_short x a.out.now _ n c.if-out-n.true ∙ within_bound x a.out.now _ n c.if-n-gt-OCTETS.false

pub slice_bounds-copy_in-end : goal.slice_bounds-copy_in-end
slice_bounds-copy_in-end c =
    let a = c.args in
    sym (first_length a.e a.first.now a.second.now a.others.now c.requires)

pub copy_in-requires : goal.copy_in-requires
copy_in-requires c =
    let a = c.args in
    rw (first_length a.e a.first.now a.second.now a.others.now c.requires) (omega (arith, c.if-out-n.false))

pub slice_bounds-copy_in-end-3 : goal.slice_bounds-copy_in-end-3
slice_bounds-copy_in-end-3 c =
    let a = c.args in
    sym (second_length a.e a.first.now a.second.now a.others.now c.requires)

pub copy_in-requires-2 : goal.copy_in-requires-2
copy_in-requires-2 c =
    let a = c.args in
    rw (second_length a.e a.first.now a.second.now a.others.now c.requires) (simp (length-take, length-drop) (omega (arith, c.if-out-n.false, c.copy_in)))

pub slice_bounds-copy_in-end-5 : goal.slice_bounds-copy_in-end-5
slice_bounds-copy_in-end-5 c =
    let a = c.args in
    sym (others_length a.e a.first.now a.second.now a.others.now c.requires)

pub copy_in-requires-3 : goal.copy_in-requires-3
copy_in-requires-3 c =
    let a = c.args in
    let h = c.requires in
    let f = take a.e.first a.first.now in
    let g = take a.e.second a.second.now in
    let u = first_length a.e a.first.now a.second.now a.others.now h in
    let v = both_length a.e a.first.now a.second.now a.others.now h in
    let z = second_length a.e a.first.now a.second.now a.others.now h in
    let p = two_pieces a.out.now _ f g _ a.e.first (sym u) c.copy_in.ensures (omega (arith, u, z, c.if-out-n.false)) c.copy_in-2.ensures in
    let k = ap length p ∙ overlay_length (f ++ g) a.out.now (omega (arith, v, c.if-out-n.false)) in
    rw (others_length a.e a.first.now a.second.now a.others.now h) (simp (length-take, length-drop) (omega (arith, c.if-out-n.false, k)))

pub returns : goal.returns
returns c =
    let a = c.args in
    let h = c.requires in
    let f = take a.e.first a.first.now in
    let g = take a.e.second a.second.now in
    let k = take a.e.others a.others.now in
    let x = joined_by a.e a.first.now a.second.now a.others.now in
    let n = joined_length a.e a.first.now a.second.now a.others.now h in
    let u = first_length a.e a.first.now a.second.now a.others.now h in
    let v = both_length a.e a.first.now a.second.now a.others.now h in
    let p = two_pieces a.out.now _ f g _ a.e.first (sym u) c.copy_in.ensures (omega (arith, u, second_length a.e a.first.now a.second.now a.others.now h, c.if-out-n.false)) c.copy_in-2.ensures in
    let q = two_pieces a.out.now _ (f ++ g) k _ (a.e.first + a.e.second) v p (omega (arith, v, others_length a.e a.first.now a.second.now a.others.now h, c.if-out-n.false)) c.copy_in-3.ensures in
    fill_fits x a.out.now _ n c.if-out-n.false _ (q ∙ ap (λ (j : ℕ). x ++ drop j a.out.now) (sym n)) ∙ within_bound x a.out.now _ n c.if-n-gt-OCTETS.false

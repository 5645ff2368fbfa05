-- `program_visible::put_visible` meets its contract. Assumes nothing.
use mathlib.Core.List.{List}
use mathlib.Core.Path.{◌≡◌, refl, sym, ap, ◌∙◌}
use Prim.Native.Nat.{ℕ, ◌+◌, ◌-◌, ◌≤◌}
use native.Mathlib.Omega.{arith}
use lib.ListN.{length, drop, get_or, take}
use Rattle.program_output.specs.Pages.{page, added}
use Rattle.program_visible.specs.Visible.{in_hex, visible}
use Rattle.program_output.proofs.PageLaws.{added_piece}
use Rattle.program_visible.proofs.VisibleLaws.{character_inside, visible_octet, visible_character, visible_end}
use borrow.Author.Rules.{rules}
use Rattle.program_visible.proofs.put_visible.Goals as goal

pub loop-i-init : goal.loop-i-init
loop-i-init c = (refl, omega arith, refl)

pub shown_length-n-requires : goal.shown_length-n-requires
shown_length-n-requires c = record { classes = c.table-t.ensures; i_in_bounds = c.loop-i-test.true }

pub loop-i-preserved-then-n-eq0 : goal.loop-i-preserved-then-n-eq0
loop-i-preserved-then-n-eq0 c =
    let l = c.loop-i in
    let s = c.args.text.now in
    (search rules, omega arith, added_piece (visible (drop l.i s)) (in_hex (get_or s l.i 0)) (visible (drop (l.i + 1) s)) (page l.next l.room) _ (visible_octet s l.i c.shown_length-n.result c.shown_length-n.ensures c.loop-i-test.true c.if-n-eq0.true) c.put_hex-next.ensures ∙ l.invariant.2)

pub overflow_add-end : goal.overflow_add-end
overflow_add-end c =
    let s = c.args.text.now in
    let h : c.loop-i.i + c.shown_length-n.result ≤ length s = character_inside s c.loop-i.i c.shown_length-n.result c.shown_length-n.ensures c.loop-i.invariant.1 in
    omega arith

pub slice_bounds-put_all-end : goal.slice_bounds-put_all-end
slice_bounds-put_all-end c = character_inside c.args.text.now c.loop-i.i c.shown_length-n.result c.shown_length-n.ensures c.loop-i.invariant.1

pub loop-i-smaller : goal.loop-i-smaller
loop-i-smaller c =
    let s = c.args.text.now in
    let h : c.loop-i.i + c.shown_length-n.result ≤ length s = character_inside s c.loop-i.i c.shown_length-n.result c.shown_length-n.ensures c.loop-i.invariant.1 in
    omega arith

pub loop-i-preserved : goal.loop-i-preserved
loop-i-preserved c =
    let l = c.loop-i in
    let s = c.args.text.now in
    let n = c.shown_length-n.result in
    let e : l.i + n - l.i ≡ n = omega arith in
    let h : l.i + n ≤ length s = character_inside s l.i n c.shown_length-n.ensures l.invariant.1 in
    (search rules, h, added_piece (visible (drop l.i s)) (take n (drop l.i s)) (visible (drop (l.i + n) s)) (page l.next l.room) _ (visible_character s l.i n c.shown_length-n.ensures c.loop-i-test.true c.if-n-eq0.false) (rw e at c.put_all-next.ensures) ∙ l.invariant.2)

pub shape_of-room : goal.shape_of-room
shape_of-room c = c.loop-i.invariant.0

pub returns : goal.returns
unfolding added
returns c =
    let l = c.loop-i in
    ap (λ (t : List ℕ). added t (page l.next l.room)) (sym (visible_end c.args.text.now l.i c.loop-i-test.false)) ∙ l.invariant.2

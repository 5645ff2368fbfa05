-- `cabbook_cells::spare` meets its contract. Assumes nothing.
use mathlib.Core.Path.{◌≡◌, refl, ap, ◌∙◌}
use Prim.Native.Nat.{◌+◌}
use native.Mathlib.Omega.{arith}
use lib.ListN.{length, drop, length-append}
use Rattle.cabbook_cells.specs.Cells.{blank, blanks}
use Rattle.cabbook_cells.proofs.CellLaws.{step_of, step_inside, step_some, blanks_step, blanks_end}
use Rattle.cabbook_cells.proofs.spare.Goals as goal

pub loop-i-init : goal.loop-i-init
loop-i-init c = (omega arith, refl)

pub shown_length-n-requires : goal.shown_length-n-requires
shown_length-n-requires c = record { classes = c.table-t.ensures; i_in_bounds = c.loop-i-test.true }

pub cells_at-requires : goal.cells_at-requires
cells_at-requires c = (c.loop-i-test.true, c.shown_length-n.ensures)

pub overflow_add-i : goal.overflow_add-i
overflow_add-i c = omega (arith, step_inside c.args.text.now c.loop-i.i c.shown_length-n.result c.loop-i-test.true c.shown_length-n.ensures)

pub loop-i-smaller : goal.loop-i-smaller
loop-i-smaller c = omega (arith, step_inside c.args.text.now c.loop-i.i c.shown_length-n.result c.loop-i-test.true c.shown_length-n.ensures, step_some c.shown_length-n.result)

pub loop-i-preserved : goal.loop-i-preserved
loop-i-preserved c =
    let l = c.loop-i in
    let s = c.args.text.now in
    let n = c.shown_length-n in
    let e : length (blanks (drop l.i s)) ≡ length (blank (drop l.i s)) + length (blanks (drop (l.i + step_of n.result) s)) =
    ap length (blanks_step s l.i n.result c.loop-i-test.true n.ensures) ∙ length-append (blank (drop l.i s)) (blanks (drop (l.i + step_of n.result) s)) in
    (rw c.step_of-i.ensures (step_inside c.args.text.now c.loop-i.i c.shown_length-n.result c.loop-i-test.true c.shown_length-n.ensures), rw c.step_of-i.ensures (omega (arith, e, l.invariant.1, c.saturating_sub-left.ensures, c.cells_at.ensures)))

pub returns : goal.returns
returns c =
    let l = c.loop-i in
    omega (arith, rw (blanks_end c.args.text.now l.i c.loop-i-test.false) at l.invariant.1)

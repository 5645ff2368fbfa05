-- `cabbook_cells::put_blanks` meets its contract. Assumes nothing.
use mathlib.Core.Path.{refl, sym, ap, ◌∙◌}
use mathlib.Core.List.{List}
use Prim.Native.Nat.{ℕ, ◌+◌}
use native.Mathlib.Omega.{arith}
use lib.ListN.{drop}
use borrow.Author.Rules.{rules}
use Rattle.program_output.specs.Pages.{page, added}
use Rattle.program_output.proofs.PageLaws.{added_piece}
use Rattle.cabbook_cells.specs.Cells.{blank, blanks}
use Rattle.cabbook_cells.proofs.CellLaws.{step_of, step_inside, step_some, blanks_step, blanks_end}
use Rattle.cabbook_cells.proofs.put_blanks.Goals as goal

pub loop-i-init : goal.loop-i-init
loop-i-init c = (refl, omega arith, refl)

pub shown_length-n-requires : goal.shown_length-n-requires
shown_length-n-requires c = record { classes = c.table-t.ensures; i_in_bounds = c.loop-i-test.true }

pub put_blank-next-requires : goal.put_blank-next-requires
put_blank-next-requires c = (c.loop-i-test.true, c.shown_length-n.ensures)

pub overflow_add-i : goal.overflow_add-i
overflow_add-i c = omega (arith, step_inside c.args.text.now c.loop-i.i c.shown_length-n.result c.loop-i-test.true c.shown_length-n.ensures)

pub loop-i-smaller : goal.loop-i-smaller
loop-i-smaller c = omega (arith, step_inside c.args.text.now c.loop-i.i c.shown_length-n.result c.loop-i-test.true c.shown_length-n.ensures, step_some c.shown_length-n.result)

pub loop-i-preserved : goal.loop-i-preserved
loop-i-preserved c =
    let l = c.loop-i in
    let a = c.args in
    let t = a.text.now in
    (search rules, rw c.step_of-i.ensures (step_inside t l.i c.shown_length-n.result c.loop-i-test.true c.shown_length-n.ensures), rw c.step_of-i.ensures (added_piece (blanks (drop l.i t)) (blank (drop l.i t)) (blanks (drop (l.i + step_of c.shown_length-n.result) t)) (page l.next l.room) _ (blanks_step t l.i c.shown_length-n.result c.loop-i-test.true c.shown_length-n.ensures) c.put_blank-next.ensures ∙ l.invariant.2))

pub shape_of-room : goal.shape_of-room
shape_of-room c = c.loop-i.invariant.0

pub returns : goal.returns
unfolding added
returns c =
    let l = c.loop-i in
    ap (λ (t : List ℕ). added t (page l.next l.room)) (sym (blanks_end c.args.text.now l.i c.loop-i-test.false)) ∙ l.invariant.2

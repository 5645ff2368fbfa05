-- `label_marks::units::first_bad` meets its contract. Assumes nothing.
use borrow.Author.Rules.{rules}
use mathlib.Core.Path.{sym, ◌∙◌}
use native.Mathlib.Nat.{zero-add}
use native.Mathlib.Omega.{arith}
use Rattle.octets.specs.Classes.{quoted}
use Rattle.utf8.proofs.Chars.{unit_inside, bad_stop, bad_step, bad_end}
use Rattle.label_marks.proofs.units.first_bad.Goals as goal

pub loop-i-init : goal.loop-i-init
loop-i-init c = (search rules, sym (zero-add _))

pub unit_length-n-requires : goal.unit_length-n-requires
unit_length-n-requires c = record { classes = c.table-t.ensures; i_in_bounds = search rules }

pub returns-then-n-eq0 : goal.returns-then-n-eq0
returns-then-n-eq0 c =
    let s = c.args.s.now in
    sym (c.loop-i.invariant.1 ∙ bad_stop quoted s c.loop-i.i (sym c.unit_length-n.ensures ∙ c.if-n-eq0.true))

pub overflow_add-i : goal.overflow_add-i
overflow_add-i c = omega (arith, unit_inside quoted c.args.s.now c.loop-i.i _ c.unit_length-n.ensures c.loop-i.invariant.0)

pub loop-i-smaller : goal.loop-i-smaller
loop-i-smaller c = omega (arith, unit_inside quoted c.args.s.now c.loop-i.i _ c.unit_length-n.ensures c.loop-i.invariant.0)

pub loop-i-preserved : goal.loop-i-preserved
loop-i-preserved c =
    let s = c.args.s.now in
    let u = c.unit_length-n in (
      unit_inside quoted s c.loop-i.i u.result u.ensures c.loop-i.invariant.0,
      c.loop-i.invariant.1 ∙ bad_step quoted s c.loop-i.i u.result u.ensures c.if-n-eq0.false c.loop-i.invariant.0,
    )

pub returns : goal.returns
returns c = sym (c.loop-i.invariant.1 ∙ bad_end quoted c.args.s.now c.loop-i.i c.loop-i-test.false)

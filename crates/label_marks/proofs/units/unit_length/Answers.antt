-- `label_marks::units::unit_length` meets its contract. Assumes nothing.
use mathlib.Core.Path.{◌≡◌, sym, ◌∙◌}
use mathlib.Core.Bool.{true}
use Prim.Native.Nat.{◌<◌}
use native.Mathlib.Omega.{arith}
use lib.ListN.{get_or}
use Rattle.octets.specs.Classes.{has, quoted_mask}
use Rattle.octets.proofs.Runs.{has_not, has_yes}
use Rattle.utf8.proofs.Chars.{ascii}
use Rattle.label_marks.proofs.UnitLaws.{unit_no, unit_yes}
use Rattle.label_marks.proofs.units.unit_length.Goals as goal

pub overflow_cast-b : goal.overflow_cast-b
overflow_cast-b c = omega (arith, c.type_inv.s c.args.i)

pub bounds-t-b : goal.bounds-t-b
bounds-t-b c = omega (arith, c.type_inv.s c.args.i)

pub returns-then-t-b-eq0 : goal.returns-then-t-b-eq0
returns-then-t-b-eq0 c =
    let a = c.args in
    sym
    (unit_no a.s.now a.i
    (has_not a.t.now 16 (get_or a.s.now a.i 0) c.requires.classes (omega (arith, c.type_inv.s a.i)) c.if-t-b-eq0.true))

pub returns-then-b-lt128 : goal.returns-then-b-lt128
returns-then-b-lt128 c =
    let yes : has quoted_mask (get_or c.args.s.now c.args.i 0) ≡ true = let a = c.args in
    has_yes a.t.now 16 (get_or a.s.now a.i 0) c.requires.classes
    (omega (arith, c.type_inv.s a.i)) c.if-t-b-eq0.false in
    let a = c.args in
    let b : get_or a.s.now a.i 0 < 128 = omega arith in
    sym (unit_yes a.s.now a.i yes ∙ ascii a.s.now a.i c.requires.i_in_bounds b)

pub returns : goal.returns
returns c =
    let yes : has quoted_mask (get_or c.args.s.now c.args.i 0) ≡ true = let a = c.args in
    has_yes a.t.now 16 (get_or a.s.now a.i 0) c.requires.classes
    (omega (arith, c.type_inv.s a.i)) c.if-t-b-eq0.false in
    let a = c.args in
    c.char_length.ensures ∙ sym (unit_yes a.s.now a.i yes)

-- `utf8_screening::units::unit_length` meets its contract. Assumes nothing.
use mathlib.Core.Path.{◌≡◌, sym, ◌∙◌}
use mathlib.Core.Bool.{true, false}
use Prim.Native.Nat.{◌<◌}
use native.Mathlib.Omega.{arith}
use lib.ListN.{get_or}
use Rattle.octets.specs.Classes.{has, value_mask}
use Rattle.octets.proofs.Runs.{has_not, has_yes}
use Rattle.utf8.proofs.Chars.{ascii, unit_not, unit_no_lf, unit_lf, unit_yes}
use Rattle.utf8_screening.proofs.units.unit_length.Goals.{else-lf-via-then-lf+else-b-eq10, else-lf-via-else-lf}
use Rattle.utf8_screening.proofs.units.unit_length.Goals as goal

pub returns-then-b-eq10 : goal.returns-then-b-eq10
returns-then-b-eq10 c =
    let a = c.args in
    let no : has value_mask (get_or a.s.now a.i 0) ≡ false = has_not a.t.now 32 (get_or a.s.now a.i 0) c.requires.classes (omega (arith, c.type_inv.s a.i)) c.if-t-b-eq0.true in
    let b : get_or a.s.now a.i 0 < 128 = omega arith in
    rw c.if-lf.true (sym (unit_lf a.s.now a.i no c.if-b-eq10.true ∙ ascii a.s.now a.i c.requires.i_in_bounds b))

pub returns-else-lf : goal.returns-else-lf
returns-else-lf c =
    let a = c.args in
    let no : has value_mask (get_or a.s.now a.i 0) ≡ false = has_not a.t.now 32 (get_or a.s.now a.i 0) c.requires.classes (omega (arith, c.type_inv.s a.i)) c.if-t-b-eq0.true in
    elim c.else-lf.branch [
      | else-lf-via-then-lf+else-b-eq10 w ↦ sym (unit_not a.s.now a.i a.lf no w.if-b-eq10.false)
      | else-lf-via-else-lf w ↦ rw w.if-lf.false (sym (unit_no_lf a.s.now a.i no))
    ]

pub returns-then-b-lt128 : goal.returns-then-b-lt128
returns-then-b-lt128 c =
    let a = c.args in
    let yes : has value_mask (get_or a.s.now a.i 0) ≡ true = has_yes a.t.now 32 (get_or a.s.now a.i 0) c.requires.classes (omega (arith, c.type_inv.s a.i)) c.if-t-b-eq0.false in
    sym (unit_yes a.s.now a.i a.lf yes ∙ ascii a.s.now a.i c.requires.i_in_bounds c.if-b-lt128.true)

pub returns : goal.returns
returns c =
    let a = c.args in
    let yes : has value_mask (get_or a.s.now a.i 0) ≡ true = has_yes a.t.now 32 (get_or a.s.now a.i 0) c.requires.classes (omega (arith, c.type_inv.s a.i)) c.if-t-b-eq0.false in
    c.char_length.ensures ∙ sym (unit_yes a.s.now a.i a.lf yes)

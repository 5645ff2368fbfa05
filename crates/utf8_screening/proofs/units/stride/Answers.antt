-- `utf8_screening::units::stride` meets its contract. Assumes nothing.
use mathlib.Core.Path.{sym, ◌∙◌}
use native.Mathlib.Omega.{arith}
use Rattle.utf8_screening.specs.Plain.{block}
use Rattle.utf8_screening.proofs.PlainLaws.{plain_stride, unit_stride}
use Rattle.utf8_screening.proofs.units.stride.Goals as goal

pub returns-then-is_plain_block : goal.returns-then-is_plain_block
returns-then-is_plain_block c =
    let a = c.args in
    plain_stride a.lf a.s.now a.i block (omega arith) (omega arith) (sym c.is_plain_block.ensures ∙ c.if-is_plain_block.true)

pub returns : goal.returns
returns c =
    let a = c.args in
    unit_stride a.lf a.s.now a.i c.unit_length.result c.requires.i_in_bounds c.unit_length.ensures

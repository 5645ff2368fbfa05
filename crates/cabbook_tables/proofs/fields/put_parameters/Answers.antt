-- `cabbook_tables::fields::put_parameters` meets its contract. Assumes nothing.
use mathlib.Core.Path.{◌∙◌}
use native.Mathlib.Omega.{arith}
use borrow.Author.Tests.{lt-ltb, le-ltb}
use Rattle.label_carets.specs.Decoded.{decoded}
use Rattle.label_carets.specs.declared.Rule.TheVariants.{Rfc6868}
use Rattle.label_carets.proofs.PairLaws.{decoded_short}
use Rattle.cabbook_rows.proofs.PartLaws.{part_front}
use Rattle.cabbook_tables.specs.Fields.{meanings}
use Rattle.cabbook_tables.proofs.fields.put_parameters.Goals as goal

pub returns-then-parameters-gt-OCTETS : goal.returns-then-parameters-gt-OCTETS
unfolding meanings
returns-then-parameters-gt-OCTETS c = rw (lt-ltb _ _ c.if-parameters-gt-OCTETS.true) c.put_column.ensures

pub write-n-requires : goal.write-n-requires
write-n-requires c = omega (arith, decoded_short Rfc6868 c.args.parameters.now)

pub returns : goal.returns
unfolding meanings
returns c =
    let w = c.write-n in
    let s = c.args.parameters.now in
    rw (le-ltb _ _ c.if-parameters-gt-OCTETS.false, ← c.part.ensures ∙ part_front (decoded Rfc6868 s) _ _ w.result w.ensures.value w.ensures.out_after) c.put_column-2.ensures

-- `label::encode_same` meets its contract. Assumes nothing.
use mathlib.Core.Path.{refl, ◌∙◌}
use Rattle.octets.specs.Room.{fill_bounded}
use Rattle.label_carets.specs.Encoded.{encoded}
use Rattle.label_carets.specs.declared.Rule.TheVariants.{Rfc6350}
use Rattle.octets.specs.Classes.{run}
use Rattle.label.specs.Outcomes.{writable}
use Rattle.label.proofs.OutcomeLaws.{found, not_found, not_said, said, old_fill}
use Rattle.label.proofs.encode_same.Goals as goal

pub returns-in-Some : goal.returns-in-Some
returns-in-Some c =
    let a = c.args in
    let f = found a.value.now c.in-Some.ensures in
    not_said a.value.now a.out.now (fill_bounded (encoded Rfc6350 a.value.now) a.out.now) c.in-Some.first f.0 f.1

pub returns : goal.returns
returns c =
    let a = c.args in
    c.put.ensures
    ∙ old_fill a.value.now a.out.now c.requires
    ∙ said a.value.now a.out.now (fill_bounded (encoded Rfc6350 a.value.now) a.out.now) (run writable a.value.now) refl (not_found a.value.now c.in_default.ensures)

-- `utf8_screening::units::first_bad` meets its contract. Assumes nothing.
use mathlib.Core.Path.{sym, ◌∙◌}
use Rattle.utf8_screening.proofs.PlainLaws.{plain_all}
use Rattle.utf8_screening.proofs.units.first_bad.Goals as goal

pub returns-then-all_plain : goal.returns-then-all_plain
returns-then-all_plain c =
    let a = c.args in
    sym (plain_all a.lf a.s.now (sym c.all_plain.ensures ∙ c.if-all_plain.true))

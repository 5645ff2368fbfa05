-- `utf8_screening::texts::first_bad` meets its contract. Assumes nothing.
use mathlib.Core.Path.{sym, ◌∙◌}
use native.Mathlib.Omega.{arith}
use Rattle.utf8.specs.Characters.{allowed}
use Rattle.utf8.proofs.Chars.{bad_end}
use Rattle.utf8_screening.proofs.texts.first_bad.Goals as goal

pub returns-then-reach-s : goal.returns-then-reach-s
returns-then-reach-s c =
    let a = c.args in
    sym c.if-reach-s.true ∙ sym (c.reach.ensures.goes a.lf ∙ bad_end (allowed a.lf) a.s.now c.reach.result (omega arith))

-- `version3::conclude` meets its contract. Assumes nothing.
use mathlib.Core.Path.{◌≡◌, ap, ◌∙◌}
use mathlib.Core.Logic.{◌⊎◌, inl, inr}
use mathlib.Core.Bool.{false}
use Rattle.version3_judge.specs.declared.Phase.{Phase}
use Rattle.version3_judge.specs.declared.Phase.TheVariants.{BeforeBegin, Inside}
use Rattle.version3_judge.specs.Judge.{ended}
use Rattle.version3.proofs.OutcomeLaws.{conclude_open, conclude_done}
use Rattle.version3.proofs.conclude.Goals as goal

not_ended : (p : Phase) → (p ≡ BeforeBegin) ⊎ (p ≡ Inside) → ended p ≡ false
not_ended p (inl e) = ap ended e
not_ended p (inr e) = ap ended e

pub returns-in-Ended : goal.returns-in-Ended
returns-in-Ended c = c.write_card.ensures ∙ conclude_done c.args.way c.args.last c.args.input.now c.args.out.now (ap ended c.in-Ended.is)

pub returns-in-BeforeBegin : goal.returns-in-BeforeBegin
returns-in-BeforeBegin c = conclude_open c.args.way c.args.last c.args.input.now c.args.out.now (not_ended c.args.last.phase c.in-BeforeBegin.is)

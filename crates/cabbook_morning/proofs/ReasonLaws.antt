-- Refusal 20 is of one reason alone. Assumes nothing.
use mathlib.Core.Path.{◌≡◌}
use Rattle.numbers.specs.Refusals.{number}
use Rattle.numbers.specs.declared.refusal.Reason.{Reason}
use Rattle.numbers.specs.declared.refusal.Reason.TheVariants.{NoFreeSlot}
use Rattle.numbers.proofs.Reasons.{same_reason}

pub no_free_slot : (r : Reason) → number r ≡ 20 → r ≡ NoFreeSlot
no_free_slot r e = same_reason r NoFreeSlot e

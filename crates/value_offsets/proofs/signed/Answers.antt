-- `value_offsets::signed` meets its contract. Assumes nothing.
use mathlib.Core.Path.{◌∙◌}
use lib.IntN.{pos, ◌-ℤ◌}
use mir.Syntax.{w32}
use mir.Val.{to_z}
use mir.ValLaws.{to_z-of_z}
use Rattle.value_offsets.specs.Minutes.{signed}
use Rattle.value_offsets.proofs.SignedLaws.{here, less, less_fits}
use Rattle.value_offsets.proofs.signed.Goals as goal

pub overflow_sub-result : goal.overflow_sub-result
overflow_sub-result c = less_fits c.args.n c.requires

pub returns-then-behind : goal.returns-then-behind
unfolding signed
returns-then-behind c =
    let n = c.args.n in
    rw c.if-behind.true (to_z-of_z w32 (pos 0 -ℤ to_z w32 n) (less_fits n c.requires) ∙ less n c.requires)

pub returns : goal.returns
unfolding signed
returns c = rw c.if-behind.false (here c.args.n c.requires)

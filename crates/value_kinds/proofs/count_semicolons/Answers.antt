-- `value_kinds::count_semicolons` meets its contract. Assumes nothing.
use borrow.Author.Rules.{rules}
use mathlib.Core.Path.{◌≡◌, refl, sym, ◌∙◌}
use mathlib.Core.Bool.{Bool, true, false}
use Prim.Native.Nat.{◌≤◌}
use native.Mathlib.Nat.{zero-add}
use native.Mathlib.Omega.{arith}
use lib.Dec.{eqb}
use lib.ListN.{get_or}
use mir.Val.{bool_byte}
use Rattle.octets.specs.Classes.{bit}
use Rattle.value_kinds.specs.Octets.{semicolon, holds}
use Rattle.octets.proofs.CountLaws.{count_step, count_end}
use Rattle.value_kinds.proofs.count_semicolons.Goals as goal

small : (t : Bool) → bool_byte t ≤ 1
small true = omega arith
small false = omega arith

as_bit : (t : Bool) → bool_byte t ≡ bit t 1
as_bit true = refl
as_bit false = refl

pub loop-x-init : goal.loop-x-init
loop-x-init c = (search rules, search rules, sym (zero-add _))

pub overflow_add-n : goal.overflow_add-n
overflow_add-n c = omega (arith, small (eqb (get_or c.args.s.now c.loop-x.x-index 0) 59))

pub loop-x-preserved : goal.loop-x-preserved
unfolding holds
loop-x-preserved c =
    let s = c.args.s.now in
    let t = eqb (get_or s c.loop-x.x-index 0) 59 in
    let one = small t in (
      omega arith,
      omega arith,
      c.loop-x.invariant.2 ∙ count_step (holds semicolon) s c.loop-x.x-index c.loop-x-test.true c.loop-x.n (bool_byte t) (as_bit t),
    )

pub returns : goal.returns
returns c = sym (c.loop-x.invariant.2 ∙ count_end (holds semicolon) c.args.s.now c.loop-x.x-index c.loop-x-test.false c.loop-x.n)

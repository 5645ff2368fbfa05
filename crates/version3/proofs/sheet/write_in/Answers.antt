-- `version3::sheet::write_in` meets its contract. Assumes nothing.
use mathlib.Core.Path.{refl, ap, ◌∙◌}
use mathlib.Core.List.{List}
use Prim.Native.Nat.{ℕ}
use native.Mathlib.Omega.{arith}
use Rattle.octets.specs.Room.{fill_bounded}
use Rattle.version3.proofs.PlaceLaws.{joined_card, narrowed}
use Rattle.version3.proofs.sheet.write_in.Goals as goal

pub join-requires : goal.join-requires
join-requires c =
    let r = rw c.in_ok-e.was at c.place_card.ensures in
    r.within

pub returns : goal.returns
returns c = c.join.ensures ∙ ap (λ (x : List ℕ). fill_bounded x c.args.out.now) (joined_card c.args.way c.args.s.now _ _ _ _ (rw c.in_ok-e.was at c.place_card.ensures))

pub returns-in_err-e : goal.returns-in_err-e
returns-in_err-e c =
    let k = narrowed (rw c.in_err-e.was at c.place_card.ensures) (omega (arith, c.place_card)) (omega (arith, c.place_card)) (omega (arith, c.place_card)) in
    rw c.from_residual.ensures (refl, k)

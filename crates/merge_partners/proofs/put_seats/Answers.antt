-- `merge_partners::put_seats` meets its contract. Assumes nothing.
use mathlib.Core.Path.{◌≡◌, refl, sym, ap, ◌∙◌}
use mathlib.Core.List.{List}
use Prim.Native.Nat.{ℕ, ◌-◌, ◌+◌}
use native.Mathlib.Nat.{sub-zero}
use lib.ListN.{set}
use Rattle.merge_partners.specs.Keys.{sets_from}
use Rattle.merge_partners.specs.Heads.{seat_of, seat_at}
use Rattle.merge_partners.proofs.WalkLaws.{sets_turn, sets_over}
use Rattle.merge_partners.proofs.put_seats.Goals as goal

pub loop-k-init : goal.loop-k-init
loop-k-init c = (refl, ap (sets_from (seat_at c.args.marks.now) c.args.seats.now 0) (sym (sub-zero c.args.n)))

pub loop-k-preserved : goal.loop-k-preserved
unfolding seat_at
loop-k-preserved c =
    let f = seat_at c.args.marks.now in
    let e : c.put_number.new.xs ≡ set c.loop-k.seats c.loop-k.k (f c.loop-k.k) = c.put_number.ensures ∙ ap (set c.loop-k.seats c.loop-k.k) (c.seat_of.ensures ∙ ap seat_of c.number_of.ensures) in
    (c.put_number.auto.xs ∙ c.loop-k.invariant.0, c.loop-k.invariant.1 ∙ sets_turn f c.loop-k.seats c.args.n c.loop-k.k c.loop-k-test.true ∙ ap (λ (xs : List ℕ). sets_from f xs (c.loop-k.k + 1) (c.args.n - (c.loop-k.k + 1))) (sym e))

pub shape_of-seats : goal.shape_of-seats
shape_of-seats c = c.loop-k.invariant.0

pub returns : goal.returns
returns c = sym (c.loop-k.invariant.1 ∙ sets_over (seat_at c.args.marks.now) c.loop-k.seats c.args.n c.loop-k.k c.loop-k-test.false)

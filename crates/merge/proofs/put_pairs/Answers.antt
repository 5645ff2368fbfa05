-- `merge::put_pairs` meets its contract. Assumes nothing.
use mathlib.Core.Path.{◌≡◌, refl, sym, ap, ◌∙◌}
use mathlib.Core.List.{◌++◌}
use Prim.Native.Nat.{ℕ, ◌-◌, ◌+◌, ◌≤◌}
use native.Mathlib.Nat.{zero-add}
use native.Mathlib.Omega.{arith}
use lib.ListN.{length, drop}
use Rattle.merge_pids.specs.Marks.{Marked, marked}
use Rattle.merge_partners.specs.Pairs.{pairs_from}
use Rattle.merge.specs.Plans.{flatten, put_partners}
use Rattle.merge.proofs.WriteLaws.{partners_turn, partners_over, partners_put}
use Rattle.merge.proofs.put_pairs.Goals as goal

pub loop-i-init : goal.loop-i-init
loop-i-init c = (refl, refl)

pub put_partner-at-requires : goal.put_partner-at-requires
put_partner-at-requires c = c.loop-i-test.true

pub loop-i-preserved : goal.loop-i-preserved
loop-i-preserved c = (c.put_partner-at.auto.out ∙ c.loop-i.invariant.0, c.loop-i.invariant.1 ∙ partners_turn (marked c.loop-i.at c.loop-i.out) c.args.p.now 4096 c.loop-i.i c.loop-i-test.true ∙ ap (λ (s : Marked). put_partners s c.args.p.now (c.loop-i.i + 1) (4096 - (c.loop-i.i + 1))) (sym c.put_partner-at.ensures))

pub shape_of-out : goal.shape_of-out
shape_of-out c = c.loop-i.invariant.0

pub returns : goal.returns
returns c =
    let fits : 0 + length (flatten (pairs_from c.args.p.now 0 4096)) ≤ length c.args.out.now = omega (arith, c.requires) in
    let z : 0 + length (flatten (pairs_from c.args.p.now 0 4096)) ≡ length (flatten (pairs_from c.args.p.now 0 4096)) = zero-add (length (flatten (pairs_from c.args.p.now 0 4096))) in
    ap (λ (s : Marked). s.room) (sym (c.loop-i.invariant.1 ∙ partners_over (marked c.loop-i.at c.loop-i.out) c.args.p.now 4096 c.loop-i.i c.loop-i-test.false))
    ∙ partners_put c.args.p.now 4096 0 0 c.args.out.now fits
    ∙ ap (λ (n : ℕ). flatten (pairs_from c.args.p.now 0 4096) ++ drop n c.args.out.now) z

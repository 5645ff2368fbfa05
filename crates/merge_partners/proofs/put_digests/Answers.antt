-- `merge_partners::put_digests` meets its contract. Assumes nothing.
use mathlib.Core.Path.{◌≡◌, refl, sym, ap, ◌∙◌}
use mathlib.Core.List.{List}
use Prim.Native.Nat.{ℕ, ◌-◌, ◌+◌}
use native.Mathlib.Nat.{sub-zero}
use lib.ListN.{set}
use Rattle.merge_partners.specs.Keys.{sets_from}
use Rattle.merge_partners.specs.Heads.{digest_of}
use Rattle.merge_partners.proofs.WalkLaws.{sets_turn, sets_over}
use Rattle.merge_partners.proofs.put_digests.Goals as goal

pub loop-i-init : goal.loop-i-init
loop-i-init c = (refl, ap (sets_from (digest_of c.args.side.now.copy.now c.args.side.now.records.now) c.args.digests.now 0) (sym (sub-zero c.args.n)))

pub loop-i-preserved : goal.loop-i-preserved
loop-i-preserved c =
    let f = digest_of c.args.side.now.copy.now c.args.side.now.records.now in
    let e : c.put_number.new.xs ≡ set c.loop-i.digests c.loop-i.i (f c.loop-i.i) = c.put_number.ensures ∙ ap (set c.loop-i.digests c.loop-i.i) c.digest_of.ensures in
    (c.put_number.auto.xs ∙ c.loop-i.invariant.0, c.loop-i.invariant.1 ∙ sets_turn f c.loop-i.digests c.args.n c.loop-i.i c.loop-i-test.true ∙ ap (λ (xs : List ℕ). sets_from f xs (c.loop-i.i + 1) (c.args.n - (c.loop-i.i + 1))) (sym e))

pub shape_of-digests : goal.shape_of-digests
shape_of-digests c = c.loop-i.invariant.0

pub returns : goal.returns
returns c = sym (c.loop-i.invariant.1 ∙ sets_over (digest_of c.args.side.now.copy.now c.args.side.now.records.now) c.loop-i.digests c.args.n c.loop-i.i c.loop-i-test.false)

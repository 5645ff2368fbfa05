-- `merge_partners::put_keys` meets its contract. Assumes nothing.
use mathlib.Core.Path.{◌≡◌, refl, sym, ap, ◌∙◌}
use mathlib.Core.List.{List}
use Prim.Native.Nat.{ℕ, ◌-◌, ◌+◌}
use native.Mathlib.Nat.{sub-zero}
use lib.ListN.{set}
use Rattle.merge_partners.specs.Keys.{sets_from, key_at}
use Rattle.merge_partners.proofs.WalkLaws.{sets_turn, sets_over}
use Rattle.merge_partners.proofs.put_keys.Goals as goal

pub loop-k-init : goal.loop-k-init
loop-k-init c = (refl, ap (sets_from (key_at c.args.marks.now c.args.own c.args.classes.now) c.args.keys.now 0) (sym (sub-zero c.args.n)))

pub loop-k-preserved : goal.loop-k-preserved
loop-k-preserved c =
    let f = key_at c.args.marks.now c.args.own c.args.classes.now in
    let e : c.put_number.new.xs ≡ set c.loop-k.keys c.loop-k.k (f c.loop-k.k) = c.put_number.ensures ∙ ap (set c.loop-k.keys c.loop-k.k) c.key_at.ensures in
    (c.put_number.auto.xs ∙ c.loop-k.invariant.0, c.loop-k.invariant.1 ∙ sets_turn f c.loop-k.keys c.args.n c.loop-k.k c.loop-k-test.true ∙ ap (λ (xs : List ℕ). sets_from f xs (c.loop-k.k + 1) (c.args.n - (c.loop-k.k + 1))) (sym e))

pub shape_of-keys : goal.shape_of-keys
shape_of-keys c = c.loop-k.invariant.0

pub returns : goal.returns
returns c = sym (c.loop-k.invariant.1 ∙ sets_over (key_at c.args.marks.now c.args.own c.args.classes.now) c.loop-k.keys c.args.n c.loop-k.k c.loop-k-test.false)

-- `merge_partners::classes_of` meets its contract. Assumes nothing.
use mathlib.Core.Path.{◌≡◌, refl, sym, ap, ◌∙◌}
use Prim.Native.Nat.{ℕ, ◌-◌, ◌+◌}
use lib.ListN.{set}
use Rattle.merge_partners.specs.Keys.{sets_from, class_of, class_at, classes_of}
use Rattle.merge_partners.proofs.WalkLaws.{sets_turn, sets_over}
use Rattle.merge_partners.proofs.classes_of.Goals as goal

pub loop-i-init : goal.loop-i-init
unfolding classes_of
loop-i-init c = (refl)

pub loop-i-preserved : goal.loop-i-preserved
unfolding class_at
loop-i-preserved c =
    let a = c.args in
    let l = c.loop-i in
    let e : c.class_of.result ≡ class_at a.ca.now a.a a.c.now a.own l.i = c.class_of.ensures.value ∙ ap (class_of a.ca.now a.a) c.uri_of.ensures in
    (l.invariant ∙ sets_turn (class_at a.ca.now a.a a.c.now a.own) l.classes 16 l.i c.loop-i-test.true ∙ ap (λ (v : ℕ). sets_from (class_at a.ca.now a.a a.c.now a.own) (set l.classes l.i v) (l.i + 1) (16 - (l.i + 1))) (sym e))

pub returns : goal.returns
returns c = sym (c.loop-i.invariant ∙ sets_over (class_at c.args.ca.now c.args.a c.args.c.now c.args.own) c.loop-i.classes 16 c.loop-i.i c.loop-i-test.false)

-- `merge_partners::put_tags` meets its contract. Assumes nothing.
use mathlib.Core.Path.{◌≡◌, refl, sym, ap, ◌∙◌}
use mathlib.Core.List.{List}
use Prim.Native.Nat.{ℕ, ◌-◌, ◌+◌}
use native.Mathlib.Nat.{sub-zero}
use lib.ListN.{length, get_or, set}
use Rattle.merge_partners.specs.Keys.{sets_from}
use Rattle.merge_partners.specs.Heads.{head_from, tag_of, tag_at}
use Rattle.merge_partners.proofs.HeadLaws.{known_of}
use Rattle.merge_partners.proofs.WalkLaws.{sets_turn, sets_over}
use Rattle.merge_partners.proofs.put_tags.Goals as goal

pub loop-k-init : goal.loop-k-init
loop-k-init c =
    let a = c.args in
    (refl, ap (sets_from (tag_at a.x.now.copy.now a.x.now.records.now (length a.digests.now) a.y.now.copy.now a.y.now.records.now a.marks.now a.keys.now) a.tags.now 0) (sym (sub-zero (length a.keys.now))), tt)

pub look-headed-requires : goal.look-headed-requires
look-headed-requires c = record { digests = c.requires.digests; known = c.loop-k.invariant.2 }

pub loop-k-preserved : goal.loop-k-preserved
unfolding tag_at
loop-k-preserved c =
    let a = c.args in
    let l = c.loop-k in
    let n = length a.digests.now in
    let f = tag_at a.x.now.copy.now a.x.now.records.now n a.y.now.copy.now a.y.now.records.now a.marks.now a.keys.now in
    let h = c.look-headed.ensures.head_value ∙ ap (λ (j : ℕ). head_from a.x.now.copy.now a.x.now.records.now a.y.now.copy.now a.y.now.records.now j 0 n) (c.wide_number-j.ensures.0 ∙ c.number_of.ensures) in
    let e : c.put_number.new.xs ≡ set l.tags l.k (f l.k) = c.put_number.ensures ∙ ap (set l.tags l.k) (c.tag_of.ensures ∙ ap (λ (m : ℕ). tag_of m (get_or a.keys.now l.k 0)) h) in
    (c.put_number.auto.xs ∙ l.invariant.0, l.invariant.1 ∙ sets_turn f l.tags (length a.keys.now) l.k c.loop-k-test.true ∙ ap (λ (xs : List ℕ). sets_from f xs (l.k + 1) (length a.keys.now - (l.k + 1))) (sym e), known_of a.x.now.copy.now a.x.now.records.now n a.y.now.copy.now a.y.now.records.now c.look-headed.result c.wide_number-j.result c.look-headed.ensures.line_value c.look-headed.ensures.head_value)

pub shape_of-tags : goal.shape_of-tags
shape_of-tags c = c.loop-k.invariant.0

pub returns : goal.returns
returns c =
    let a = c.args in
    sym (c.loop-k.invariant.1 ∙ sets_over (tag_at a.x.now.copy.now a.x.now.records.now (length a.digests.now) a.y.now.copy.now a.y.now.records.now a.marks.now a.keys.now) c.loop-k.tags (length a.keys.now) c.loop-k.k c.loop-k-test.false)

-- `merge_partners::join_hits` meets its contract. Assumes nothing.
use mathlib.Core.Path.{sym, ap, ◌∙◌}
use mathlib.Core.Bool.{true}
use Prim.Native.Nat.{ℕ}
use native.Mathlib.Nat.{sub-zero}
use lib.ListN.{length}
use Rattle.merge_partners.specs.Pairs.{joined, join_all, hit_pairs}
use Rattle.merge_partners.proofs.JoinLaws.{join_on, join_off}
use Rattle.merge_partners.proofs.WalkLaws.{hits_turn, hits_over}
use Rattle.merge_partners.proofs.join_hits.Goals as goal

pub loop-k-init : goal.loop-k-init
loop-k-init c =
    let a = c.args in
    (ap (λ (n : ℕ). join_all (joined true a.p.now a.t.now) (hit_pairs a.x.now.copy.now a.x.now.records.now a.i a.key a.y.now.copy.now a.y.now.records.now a.m.now.numbers.now a.m.now.keys.now 0 n)) (sym (sub-zero (length a.m.now.keys.now))))

pub join_at-requires : goal.join_at-requires
join_at-requires c = record { k_in_bounds = c.loop-k-test.true; sifts = c.requires }

pub returns-then-not-join_at : goal.returns-then-not-join_at
returns-then-not-join_at c =
    let a = c.args in
    let l = c.loop-k in
    let s = joined true l.p l.t in
    sym (l.invariant ∙ ap (join_all s) (hits_turn a.x.now.copy.now a.x.now.records.now a.i a.key a.y.now.copy.now a.y.now.records.now a.m.now.numbers.now a.m.now.keys.now (length a.m.now.keys.now) l.k c.loop-k-test.true) ∙ join_off s _ _ _ _ c.join_at.ensures _ c.if-not-join_at.true)

pub loop-k-preserved : goal.loop-k-preserved
loop-k-preserved c =
    let a = c.args in
    let l = c.loop-k in
    let s = joined true l.p l.t in
    (l.invariant ∙ ap (join_all s) (hits_turn a.x.now.copy.now a.x.now.records.now a.i a.key a.y.now.copy.now a.y.now.records.now a.m.now.numbers.now a.m.now.keys.now (length a.m.now.keys.now) l.k c.loop-k-test.true) ∙ join_on s _ _ _ _ c.join_at.ensures _ c.if-not-join_at.false)

pub returns : goal.returns
unfolding join_all
returns c =
    let a = c.args in
    let l = c.loop-k in
    sym (l.invariant ∙ rw (hits_over a.x.now.copy.now a.x.now.records.now a.i a.key a.y.now.copy.now a.y.now.records.now a.m.now.numbers.now a.m.now.keys.now (length a.m.now.keys.now) l.k c.loop-k-test.false))

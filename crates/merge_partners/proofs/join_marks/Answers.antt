-- `merge_partners::join_marks` meets its contract. Assumes nothing.
use mathlib.Core.Path.{sym, ap, ◌∙◌}
use mathlib.Core.Bool.{true}
use Prim.Native.Nat.{ℕ}
use native.Mathlib.Nat.{sub-zero}
use lib.ListN.{length}
use Rattle.merge_partners.specs.Keys.{number_at}
use Rattle.merge_partners.specs.Heads.{tag_of}
use Rattle.merge_partners.specs.Pairs.{joined, join_all, mark_pairs, shared_pairs}
use Rattle.merge_partners.proofs.HeadLaws.{known_of, tagged_sifts}
use Rattle.merge_partners.proofs.JoinLaws.{join_on, join_off}
use Rattle.merge_partners.proofs.WalkLaws.{shared_turn, shared_over}
use Rattle.merge_partners.proofs.join_marks.Goals as goal

pub loop-k-init : goal.loop-k-init
loop-k-init c =
    let a = c.args in
    (ap (λ (n : ℕ). join_all (joined true a.p.now a.t.now) (shared_pairs a.x.now.copy.now a.x.now.records.now a.firsts.now a.own a.classes.now a.y.now.copy.now a.y.now.records.now a.m.now.numbers.now a.m.now.keys.now 0 n)) (sym (sub-zero a.n)), tt)

pub look-headed-requires : goal.look-headed-requires
look-headed-requires c = record { digests = c.requires.digests; known = c.loop-k.invariant.1 }

pub join_mark-requires : goal.join_mark-requires
join_mark-requires c =
    let a = c.args in
    tagged_sifts a.x.now.copy.now a.x.now.records.now (length a.digests.now) a.y.now.copy.now a.y.now.records.now a.m.now.numbers.now a.m.now.keys.now a.m.now.tags.now a.m.now.seats.now c.requires.tagged c.wide_number-i.result c.key_at-key.result c.tag_of-tag.result (c.tag_of-tag.ensures ∙ ap (λ (h : ℕ). tag_of h c.key_at-key.result) c.look-headed.ensures.head_value)

pub returns-then-not-join_mark : goal.returns-then-not-join_mark
returns-then-not-join_mark c =
    let a = c.args in
    let l = c.loop-k in
    let e = c.join_mark.ensures ∙ ap (λ (i : ℕ). join_all (joined true l.p l.t) (mark_pairs a.x.now.copy.now a.x.now.records.now i c.key_at-key.result a.y.now.copy.now a.y.now.records.now a.m.now.numbers.now a.m.now.keys.now)) (c.wide_number-i.ensures.0 ∙ c.number_of.ensures) ∙ ap (λ (key : ℕ). join_all (joined true l.p l.t) (mark_pairs a.x.now.copy.now a.x.now.records.now (number_at a.firsts.now l.k 0) key a.y.now.copy.now a.y.now.records.now a.m.now.numbers.now a.m.now.keys.now)) c.key_at-key.ensures in
    sym (l.invariant.0 ∙ ap (join_all (joined true l.p l.t)) (shared_turn a.x.now.copy.now a.x.now.records.now a.firsts.now a.own a.classes.now a.y.now.copy.now a.y.now.records.now a.m.now.numbers.now a.m.now.keys.now a.n l.k c.loop-k-test.true) ∙ join_off (joined true l.p l.t) _ _ _ _ e _ c.if-not-join_mark.true)

pub loop-k-preserved : goal.loop-k-preserved
loop-k-preserved c =
    let a = c.args in
    let l = c.loop-k in
    let e = c.join_mark.ensures ∙ ap (λ (i : ℕ). join_all (joined true l.p l.t) (mark_pairs a.x.now.copy.now a.x.now.records.now i c.key_at-key.result a.y.now.copy.now a.y.now.records.now a.m.now.numbers.now a.m.now.keys.now)) (c.wide_number-i.ensures.0 ∙ c.number_of.ensures) ∙ ap (λ (key : ℕ). join_all (joined true l.p l.t) (mark_pairs a.x.now.copy.now a.x.now.records.now (number_at a.firsts.now l.k 0) key a.y.now.copy.now a.y.now.records.now a.m.now.numbers.now a.m.now.keys.now)) c.key_at-key.ensures in
    (l.invariant.0 ∙ ap (join_all (joined true l.p l.t)) (shared_turn a.x.now.copy.now a.x.now.records.now a.firsts.now a.own a.classes.now a.y.now.copy.now a.y.now.records.now a.m.now.numbers.now a.m.now.keys.now a.n l.k c.loop-k-test.true) ∙ join_on (joined true l.p l.t) _ _ _ _ e _ c.if-not-join_mark.false, known_of a.x.now.copy.now a.x.now.records.now (length a.digests.now) a.x.now.copy.now a.x.now.records.now c.look-headed.result c.wide_number-i.result c.look-headed.ensures.line_value c.look-headed.ensures.head_value)

pub returns : goal.returns
unfolding join_all
returns c =
    let a = c.args in
    let l = c.loop-k in
    sym (l.invariant.0 ∙ rw (shared_over a.x.now.copy.now a.x.now.records.now a.firsts.now a.own a.classes.now a.y.now.copy.now a.y.now.records.now a.m.now.numbers.now a.m.now.keys.now a.n l.k c.loop-k-test.false))

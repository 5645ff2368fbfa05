-- `merge_partners::join_all` meets its contract. Assumes nothing.
use mathlib.Core.Path.{◌≡◌, sym, ap, ◌∙◌}
use mathlib.Core.Bool.{true}
use Prim.Native.Nat.{ℕ}
use native.Mathlib.Omega.{arith}
use lib.ListN.{length, take, replicate, length-take, length-replicate}
use Rattle.merge_partners.specs.Pairs.{Joined, joined, join_all, first_of}
use Rattle.merge_partners.proofs.HeadLaws.{digested, tagged}
use Rattle.merge_partners.proofs.JoinLaws.{join_on, join_off}
use Rattle.merge_partners.proofs.WalkLaws.{demanded_by}
use Rattle.merge_partners.proofs.join_all.Goals as goal

pub slice_bounds-put_tags-end : goal.slice_bounds-put_tags-end
slice_bounds-put_tags-end c =
    let k : length c.put_digests.new.digests ≡ 4096 = c.put_digests.auto.digests ∙ length-replicate {A = ℕ} 4096 0 in
    simp length-take (omega (arith, k, c.count_looked-looked.ensures))

pub slice_bounds-put_tags-end-2 : goal.slice_bounds-put_tags-end-2
slice_bounds-put_tags-end-2 c =
    let k : length c.put_keys.new.keys ≡ 4096 = c.put_keys.auto.keys ∙ length-replicate {A = ℕ} 4096 0 in
    simp length-take (omega (arith, k, c.least-n.ensures.upper_bound.1))

pub put_tags-requires : goal.put_tags-requires
put_tags-requires c =
    let n = c.least-n.result in
    let k : length c.put_keys.new.keys ≡ 4096 = c.put_keys.auto.keys ∙ length-replicate {A = ℕ} 4096 0 in
    let e : length (take n c.put_keys.new.keys) ≡ n = length-take n c.put_keys.new.keys ∙ omega (arith, k, c.least-n.ensures.upper_bound.1) in
    record { digests = digested c.args.x.now.copy.now c.args.x.now.records.now c.put_digests.new.digests c.count_looked-looked.result c.put_digests.ensures c.count_looked-looked.ensures; keys_len_bound = omega (arith, e, c.least-n.ensures.upper_bound.1) }

pub slice_bounds-join_marks-end : goal.slice_bounds-join_marks-end
slice_bounds-join_marks-end c =
    let k : length c.put_digests.new.digests ≡ 4096 = c.put_digests.auto.digests ∙ length-replicate {A = ℕ} 4096 0 in
    simp length-take (omega (arith, k, c.count_looked-looked.ensures))

pub join_marks-requires : goal.join_marks-requires
join_marks-requires c =
    let a = c.args in
    let n = c.least-n.result in
    let k : length c.put_keys.new.keys ≡ 4096 = c.put_keys.auto.keys ∙ length-replicate {A = ℕ} 4096 0 in
    let e : length (take n c.put_keys.new.keys) ≡ n = length-take n c.put_keys.new.keys ∙ omega (arith, k, c.least-n.ensures.upper_bound.1) in
    record { digests = digested a.x.now.copy.now a.x.now.records.now c.put_digests.new.digests c.count_looked-looked.result c.put_digests.ensures c.count_looked-looked.ensures; tagged = tagged a.x.now.copy.now a.x.now.records.now (length (take c.count_looked-looked.result c.put_digests.new.digests)) a.y.now.copy.now a.y.now.records.now a.seconds.now (take n c.put_keys.new.keys) c.put_tags.new.tags c.put_seats.new.seats n e c.least-n.ensures.upper_bound.1 c.put_tags.ensures c.put_seats.ensures }

pub returns-then-not-join_marks : goal.returns-then-not-join_marks
returns-then-not-join_marks c =
    let a = c.args in
    let s : Joined = joined true a.p.now (replicate 4096 0) in
    let d = demanded_by a.x.now.copy.now a.x.now.records.now a.x.now.lines a.firsts.now a.ka a.a a.y.now.copy.now a.y.now.records.now a.y.now.lines a.seconds.now a.kb a.b c.classes_of-in_a.result c.classes_of-in_b.result c.put_keys.new.keys c.least-n.result c.classes_of-in_a.ensures c.classes_of-in_b.ensures c.put_keys.ensures c.least-n.ensures.value in
    sym (ap first_of (ap (join_all s) d ∙ join_off s _ _ _ _ c.join_marks.ensures _ c.if-not-join_marks.true))

pub returns : goal.returns
returns c =
    let a = c.args in
    let s : Joined = joined true a.p.now (replicate 4096 0) in
    let d = demanded_by a.x.now.copy.now a.x.now.records.now a.x.now.lines a.firsts.now a.ka a.a a.y.now.copy.now a.y.now.records.now a.y.now.lines a.seconds.now a.kb a.b c.classes_of-in_a.result c.classes_of-in_b.result c.put_keys.new.keys c.least-n.result c.classes_of-in_a.ensures c.classes_of-in_b.ensures c.put_keys.ensures c.least-n.ensures.value in
    ap first_of (c.join_singles.ensures ∙ sym (ap (join_all s) d ∙ join_on s _ _ _ _ c.join_marks.ensures _ c.if-not-join_marks.false))

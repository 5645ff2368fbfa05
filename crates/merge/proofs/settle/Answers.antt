-- `merge::settle` meets its contract. Assumes nothing.
use mathlib.Core.Path.{◌≡◌, sym, ap, ◌∙◌}
use mathlib.Core.Bool.{Bool}
use Prim.Native.Nat.{ℕ}
use lib.ListN.{length-replicate}
use Rattle.merge_sources.specs.Row.{same_row}
use Rattle.merge_sources.specs.declared.Row.{Row}
use Rattle.merge_pids.specs.Marks.{Marked, marked}
use Rattle.merge_partners.specs.Pairs.{joined_first}
use Rattle.merge.specs.Paired.{Pairs}
use Rattle.merge.specs.Sides.{Side, side, marks_of, row_in, is_over, settled, settled_by, pairs_of}
use Rattle.merge.proofs.SettleLaws.{over_by, pairs_by, first_over, second_over, first_row, second_row, no_uids, settle_pairs}
use Rattle.merge.proofs.settle.Goals as goal

pub returns-then-is_over : goal.returns-then-is_over
unfolding marks_of row_in
returns-then-is_over c =
    let a = c.args in
    let x : Side = (side a.x.now.copy.now a.x.now.records.now a.x_cards a.x.now.lines) in
    let y : Side = (side a.y.now.copy.now a.y.now.records.now a.y_cards a.y.now.lines) in
    let ma : Marked = marked c.put_marks-ea.result c.put_marks-ea.new.out in
    let oa : c.is_over.result ≡ is_over x a.a = c.is_over.ensures ∙ over_by x a.a c.own_row-own_a.result ma c.own_row-own_a.ensures c.put_marks-ea.ensures in
    sym (first_over x y a.a a.b a.p.now (sym oa ∙ c.if-is_over.true))

pub returns-then-is_over-2 : goal.returns-then-is_over-2
unfolding marks_of row_in
returns-then-is_over-2 c =
    let a = c.args in
    let x : Side = (side a.x.now.copy.now a.x.now.records.now a.x_cards a.x.now.lines) in
    let y : Side = (side a.y.now.copy.now a.y.now.records.now a.y_cards a.y.now.lines) in
    let ma : Marked = marked c.put_marks-ea.result c.put_marks-ea.new.out in
    let oa : c.is_over.result ≡ is_over x a.a = c.is_over.ensures ∙ over_by x a.a c.own_row-own_a.result ma c.own_row-own_a.ensures c.put_marks-ea.ensures in
    let mb : Marked = marked c.put_marks-eb.result c.put_marks-eb.new.out in
    let ob : c.is_over-2.result ≡ is_over y a.b = c.is_over-2.ensures ∙ over_by y a.b c.own_row-own_b.result mb c.own_row-own_b.ensures c.put_marks-eb.ensures in
    sym (second_over x y a.a a.b a.p.now (sym oa ∙ c.if-is_over.false) (sym ob ∙ c.if-is_over-2.true))

pub returns-then-not-same_row : goal.returns-then-not-same_row
unfolding marks_of row_in
returns-then-not-same_row c =
    let a = c.args in
    let x : Side = (side a.x.now.copy.now a.x.now.records.now a.x_cards a.x.now.lines) in
    let y : Side = (side a.y.now.copy.now a.y.now.records.now a.y_cards a.y.now.lines) in
    let ma : Marked = marked c.put_marks-ea.result c.put_marks-ea.new.out in
    let oa : c.is_over.result ≡ is_over x a.a = c.is_over.ensures ∙ over_by x a.a c.own_row-own_a.result ma c.own_row-own_a.ensures c.put_marks-ea.ensures in
    let mb : Marked = marked c.put_marks-eb.result c.put_marks-eb.new.out in
    let ob : c.is_over-2.result ≡ is_over y a.b = c.is_over-2.ensures ∙ over_by y a.b c.own_row-own_b.result mb c.own_row-own_b.ensures c.put_marks-eb.ensures in
    let sa : c.same_row.result ≡ same_row (row_in x) a.a = c.same_row.ensures ∙ ap (λ (r : Row). same_row r a.a) c.own_row-own_a.ensures in
    sym (first_row x y a.a a.b a.p.now (sym oa ∙ c.if-is_over.false) (sym ob ∙ c.if-is_over-2.false) (sym sa ∙ c.if-not-same_row.true))

pub returns-then-not-same_row-2 : goal.returns-then-not-same_row-2
unfolding marks_of row_in
returns-then-not-same_row-2 c =
    let a = c.args in
    let x : Side = (side a.x.now.copy.now a.x.now.records.now a.x_cards a.x.now.lines) in
    let y : Side = (side a.y.now.copy.now a.y.now.records.now a.y_cards a.y.now.lines) in
    let ma : Marked = marked c.put_marks-ea.result c.put_marks-ea.new.out in
    let oa : c.is_over.result ≡ is_over x a.a = c.is_over.ensures ∙ over_by x a.a c.own_row-own_a.result ma c.own_row-own_a.ensures c.put_marks-ea.ensures in
    let mb : Marked = marked c.put_marks-eb.result c.put_marks-eb.new.out in
    let ob : c.is_over-2.result ≡ is_over y a.b = c.is_over-2.ensures ∙ over_by y a.b c.own_row-own_b.result mb c.own_row-own_b.ensures c.put_marks-eb.ensures in
    let sa : c.same_row.result ≡ same_row (row_in x) a.a = c.same_row.ensures ∙ ap (λ (r : Row). same_row r a.a) c.own_row-own_a.ensures in
    let sb : c.same_row-2.result ≡ same_row (row_in y) a.b = c.same_row-2.ensures ∙ ap (λ (r : Row). same_row r a.b) c.own_row-own_b.ensures in
    sym (second_row x y a.a a.b a.p.now (sym oa ∙ c.if-is_over.false) (sym ob ∙ c.if-is_over-2.false) (sym sa ∙ c.if-not-same_row.false) (sym sb ∙ c.if-not-same_row-2.true))

pub returns-then-not-same_uids : goal.returns-then-not-same_uids
unfolding marks_of row_in
returns-then-not-same_uids c =
    let a = c.args in
    let x : Side = (side a.x.now.copy.now a.x.now.records.now a.x_cards a.x.now.lines) in
    let y : Side = (side a.y.now.copy.now a.y.now.records.now a.y_cards a.y.now.lines) in
    let ma : Marked = marked c.put_marks-ea.result c.put_marks-ea.new.out in
    let oa : c.is_over.result ≡ is_over x a.a = c.is_over.ensures ∙ over_by x a.a c.own_row-own_a.result ma c.own_row-own_a.ensures c.put_marks-ea.ensures in
    let mb : Marked = marked c.put_marks-eb.result c.put_marks-eb.new.out in
    let ob : c.is_over-2.result ≡ is_over y a.b = c.is_over-2.ensures ∙ over_by y a.b c.own_row-own_b.result mb c.own_row-own_b.ensures c.put_marks-eb.ensures in
    let sa : c.same_row.result ≡ same_row (row_in x) a.a = c.same_row.ensures ∙ ap (λ (r : Row). same_row r a.a) c.own_row-own_a.ensures in
    let sb : c.same_row-2.result ≡ same_row (row_in y) a.b = c.same_row-2.ensures ∙ ap (λ (r : Row). same_row r a.b) c.own_row-own_b.ensures in
    sym (no_uids x y a.a a.b a.p.now (sym oa ∙ c.if-is_over.false) (sym ob ∙ c.if-is_over-2.false) (sym sa ∙ c.if-not-same_row.false) (sym sb ∙ c.if-not-same_row-2.false) (sym c.same_uids.ensures ∙ c.if-not-same_uids.true))

pub slice_bounds-join_all-end : goal.slice_bounds-join_all-end
slice_bounds-join_all-end c = sym (c.put_marks-ea.auto.out ∙ length-replicate {A = ℕ} 12288 0)

pub slice_bounds-join_all-end-2 : goal.slice_bounds-join_all-end-2
slice_bounds-join_all-end-2 c = sym (c.put_marks-eb.auto.out ∙ length-replicate {A = ℕ} 12288 0)

pub returns-then-not-join_all : goal.returns-then-not-join_all
unfolding marks_of row_in
returns-then-not-join_all c =
    let a = c.args in
    let x : Side = (side a.x.now.copy.now a.x.now.records.now a.x_cards a.x.now.lines) in
    let y : Side = (side a.y.now.copy.now a.y.now.records.now a.y_cards a.y.now.lines) in
    let ma : Marked = marked c.put_marks-ea.result c.put_marks-ea.new.out in
    let oa : c.is_over.result ≡ is_over x a.a = c.is_over.ensures ∙ over_by x a.a c.own_row-own_a.result ma c.own_row-own_a.ensures c.put_marks-ea.ensures in
    let mb : Marked = marked c.put_marks-eb.result c.put_marks-eb.new.out in
    let ob : c.is_over-2.result ≡ is_over y a.b = c.is_over-2.ensures ∙ over_by y a.b c.own_row-own_b.result mb c.own_row-own_b.ensures c.put_marks-eb.ensures in
    let sa : c.same_row.result ≡ same_row (row_in x) a.a = c.same_row.ensures ∙ ap (λ (r : Row). same_row r a.a) c.own_row-own_a.ensures in
    let sb : c.same_row-2.result ≡ same_row (row_in y) a.b = c.same_row-2.ensures ∙ ap (λ (r : Row). same_row r a.b) c.own_row-own_b.ensures in
    let joining : joined_first c.join_all.result c.join_all.new.p ≡ pairs_of x y a.a a.b a.p.now = c.join_all.ensures ∙ pairs_by x y a.a a.b a.p.now ma mb c.put_marks-ea.ensures c.put_marks-eb.ensures in
    let p = c.join_all.new.p in
    sym (settle_pairs x y a.a a.b a.p.now (sym oa ∙ c.if-is_over.false) (sym ob ∙ c.if-is_over-2.false) (sym sa ∙ c.if-not-same_row.false) (sym sb ∙ c.if-not-same_row-2.false) (sym c.same_uids.ensures ∙ c.if-not-same_uids.false) ∙ ap settled_by (sym joining) ∙ ap (λ (t : Bool). settled_by (joined_first t p)) c.if-not-join_all.true)

pub returns : goal.returns
unfolding marks_of row_in
returns c =
    let a = c.args in
    let x : Side = (side a.x.now.copy.now a.x.now.records.now a.x_cards a.x.now.lines) in
    let y : Side = (side a.y.now.copy.now a.y.now.records.now a.y_cards a.y.now.lines) in
    let ma : Marked = marked c.put_marks-ea.result c.put_marks-ea.new.out in
    let oa : c.is_over.result ≡ is_over x a.a = c.is_over.ensures ∙ over_by x a.a c.own_row-own_a.result ma c.own_row-own_a.ensures c.put_marks-ea.ensures in
    let mb : Marked = marked c.put_marks-eb.result c.put_marks-eb.new.out in
    let ob : c.is_over-2.result ≡ is_over y a.b = c.is_over-2.ensures ∙ over_by y a.b c.own_row-own_b.result mb c.own_row-own_b.ensures c.put_marks-eb.ensures in
    let sa : c.same_row.result ≡ same_row (row_in x) a.a = c.same_row.ensures ∙ ap (λ (r : Row). same_row r a.a) c.own_row-own_a.ensures in
    let sb : c.same_row-2.result ≡ same_row (row_in y) a.b = c.same_row-2.ensures ∙ ap (λ (r : Row). same_row r a.b) c.own_row-own_b.ensures in
    let joining : joined_first c.join_all.result c.join_all.new.p ≡ pairs_of x y a.a a.b a.p.now = c.join_all.ensures ∙ pairs_by x y a.a a.b a.p.now ma mb c.put_marks-ea.ensures c.put_marks-eb.ensures in
    let p = c.join_all.new.p in
    ap (λ (n : ℕ). settled (Pairs n) p) c.count_pairs.ensures.value ∙ sym (settle_pairs x y a.a a.b a.p.now (sym oa ∙ c.if-is_over.false) (sym ob ∙ c.if-is_over-2.false) (sym sa ∙ c.if-not-same_row.false) (sym sb ∙ c.if-not-same_row-2.false) (sym c.same_uids.ensures ∙ c.if-not-same_uids.false) ∙ ap settled_by (sym joining) ∙ ap (λ (t : Bool). settled_by (joined_first t p)) c.if-not-join_all.false)

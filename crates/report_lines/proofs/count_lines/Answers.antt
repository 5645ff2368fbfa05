-- `report_lines::count_lines` meets its contract. Assumes nothing.
use Prim.Native.Nat.{◌-◌}
use native.Mathlib.Omega.{arith}
use lib.ListN.{take, drop, length-replicate, get_or-replicate}
use Rattle.line_folds.proofs.FoldLaws.{unfold_shorter}
use Rattle.line_folds.proofs.SpanLaws.{whole, part_length}
use Rattle.report_lines.proofs.CountLaws.{counted_none, counted_turn, counted_all}
use Rattle.report_lines.proofs.count_lines.Goals as goal

pub loop-at-init : goal.loop-at-init
loop-at-init c = (simp length-replicate, counted_none _ _ (simp length-replicate) (λ m h. get_or-replicate 39 m 0 0 h))

pub row_of_span-row-requires : goal.row_of_span-row-requires
row_of_span-row-requires c =
    let l = c.loop-at in
    let v = c.line_at-span in
    let part = take (v.result.end - l.at) (drop l.at c.args.s.now) in
    let n = part_length c.args.s.now l.at v.result.end c.loop-at-test.true v.ensures.1 v.ensures.2 in
    record {
      classes = c.requires.classes;
      lists = c.requires.lists;
      s_len_bound = omega (arith, n, c.requires.s_len_bound);
      s_in_bounds = omega (arith, unfold_shorter part, n, l.invariant.0, c.requires.s_len_bound);
      s_value = whole c.args.s.now l.at v.result.cr v.result.end v.ensures.0;
    }

pub overflow_add-counts : goal.overflow_add-counts
overflow_add-counts c =
    let l = c.loop-at in
    omega (arith, l.invariant.1.few c.row_of_span-row.result c.row_of_span-row.ensures.value.1, c.loop-at-test.true)

pub loop-at-preserved : goal.loop-at-preserved
loop-at-preserved c =
    let l = c.loop-at in
    let v = c.line_at-span in
    let r = c.row_of_span-row in (
      omega (arith, r, l.invariant.0),
      counted_turn c.args.s.now l.at v.result.end c.loop-at-test.true v.ensures.1 v.ensures.2 l.counts
          r.result r.ensures.value.0 r.ensures.value.1 l.invariant.1,
    )

pub returns : goal.returns
returns c =
    let l = c.loop-at in
    counted_all c.args.s.now l.at l.counts c.loop-at-test.false l.invariant.1

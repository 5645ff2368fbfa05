-- `reader_walk::walk_in` meets its contract. Assumes nothing.
use mathlib.Core.Path.{◌≡◌, refl, sym, ap, subst, ◌∙◌}
use mathlib.Core.List.{List}
use Prim.Native.Nat.{ℕ, ◌+◌, ◌-◌}
use native.Mathlib.Omega.{arith}
use lib.ListN.{length, take, drop}
use Rattle.line_folds.specs.Logical.{raw_lines}
use Rattle.line_folds.proofs.LineLaws.{lines_end}
use Rattle.card_state.specs.State.{Step, fresh_card}
use Rattle.card_state.specs.Kept.{card_of, step_of, Holds}
use Rattle.card_state.proofs.KeptLaws.{none_lie, fresh_card_lem}
use Rattle.card_judge.proofs.CardLaws.{one_more}
use Rattle.reader_walk.specs.Walk.{onward, settled, judge_lines}
use Rattle.line_folds.proofs.SpanLaws.{whole, part_length}
use Rattle.reader_walk.proofs.WalkLaws.{judged, stopped_step}
use Rattle.reader_walk.proofs.walk_in.Goals as goal

pub loop-at-init : goal.loop-at-init
loop-at-init c =
    let f = c.fresh-c in
    rw f.ensures (
      refl,
      omega arith,
      omega arith,
      none_lie,
      omega arith,
      ap (judge_lines c.args.edition (raw_lines c.args.s.now) 0) (sym (fresh_card_lem _)),
    )

pub judge_span-j-requires : goal.judge_span-j-requires
judge_span-j-requires c =
    let a = c.args in
    let l = c.loop-at in
    let v = c.line_at-span in
    let z = c.requires in
    let part = take (v.result.end - l.at) (drop l.at a.s.now) in
    let n = part_length a.s.now l.at v.result.end c.loop-at-test.true v.ensures.1 v.ensures.2 in
    record {
      tables = c.requires.tables;
      counted = (l.invariant.1, omega (arith, l.invariant.2, c.requires.s_len_bound));
      roomy = record { lies = l.invariant.3; room = omega (arith, n, l.invariant.0, l.invariant.4, v.ensures.2, c.requires.s_in_bounds.0); short = omega (arith, l.invariant.0, c.requires.s_in_bounds.1) };
      s_value = whole a.s.now l.at v.result.cr v.result.end v.ensures.0;
    }

pub returns-in_default : goal.returns-in_default
returns-in_default c =
    let j = c.judge_span-j in
    let l = c.loop-at in
    let v = c.line_at-span in
    let a = c.args in
    let line = take (v.result.end - l.at) (drop l.at a.s.now) in
    let turn : judge_lines a.edition (raw_lines a.s.now) 0 fresh_card
    ≡ onward (settled l.at (take (v.result.end - l.at) (drop l.at a.s.now)) (step_of j.new.scratch j.result)) (judge_lines a.edition (raw_lines (drop (v.result.end + 2) a.s.now)) (v.result.end + 2)) =
    l.invariant.5 ∙ judged a.edition a.s.now l.at v.result.end c.loop-at-test.true v.ensures.1 v.ensures.2 (card_of l.c l.scratch) (step_of j.new.scratch j.result) j.ensures.result_after in
    let store = j.new.scratch in
    (store, c.settle.ensures store ∙ sym (turn ∙ stopped_step store _ line _ j.result c.in_default.not-Ok))

pub loop-at-preserved : goal.loop-at-preserved
unfolding step_of card_of Holds
loop-at-preserved c =
    let e = c.in-Ok.is in
    let next = c.in-Ok.next in
    let l = c.loop-at in
    let v = c.line_at-span in
    let a = c.args in
    let j = c.judge_span-j in
    let n = part_length a.s.now l.at v.result.end c.loop-at-test.true v.ensures.1 v.ensures.2 in
    let line = take (v.result.end - l.at) (drop l.at a.s.now) in
    let turn : judge_lines a.edition (raw_lines a.s.now) 0 fresh_card
    ≡ onward (settled l.at (take (v.result.end - l.at) (drop l.at a.s.now)) (step_of j.new.scratch j.result)) (judge_lines a.edition (raw_lines (drop (v.result.end + 2) a.s.now)) (v.result.end + 2)) =
    l.invariant.5 ∙ judged a.edition a.s.now l.at v.result.end c.loop-at-test.true v.ensures.1 v.ensures.2 (card_of l.c l.scratch) (step_of j.new.scratch j.result) j.ensures.result_after in
    let holds = subst (Holds (l.c.used + length (take (v.result.end - l.at) (drop l.at a.s.now)))) e j.ensures.holds.0 in
    let more = one_more a.edition (card_of l.c l.scratch) (card_of next j.new.scratch) l.at _ (sym j.ensures.result_after ∙ ap (step_of j.new.scratch) e) in (
      omega (arith, j, l.invariant.0),
      omega (arith, l.invariant.1, more.0, more.1, more.2),
      omega (arith, v.ensures.1, l.invariant.2, more.0),
      holds.0,
      omega (arith, holds.1, n, l.invariant.4, v.ensures.1),
      turn ∙ ap (λ (r : Step). onward (settled l.at line r) (judge_lines a.edition (raw_lines (drop (v.result.end + 2) a.s.now)) (v.result.end + 2))) (ap (step_of j.new.scratch) e),
    )

pub returns : goal.returns
unfolding judge_lines step_of
returns c =
    let l = c.loop-at in
    (l.scratch, sym (l.invariant.5 ∙ ap (λ (ls : List (List ℕ)). judge_lines c.args.edition ls l.at (card_of l.c l.scratch)) (lines_end c.args.s.now l.at c.loop-at-test.false)))

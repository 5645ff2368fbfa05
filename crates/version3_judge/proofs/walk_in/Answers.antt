-- `version3_judge::walk_in` meets its contract. Assumes nothing.
use mathlib.Core.Path.{refl, sym, ap, ◌∙◌}
use mathlib.Core.List.{List}
use Prim.Native.Nat.{ℕ, ◌-◌}
use native.Mathlib.Omega.{arith}
use lib.ListN.{take, drop}
use Rattle.line_folds.specs.Logical.{raw_lines}
use Rattle.line_folds.proofs.LineLaws.{lines_end}
use Rattle.line_folds.proofs.SpanLaws.{whole, part_length}
use Rattle.version3_judge.specs.Judge.{Next, step, stopped, judge_lines}
use Rattle.version3_judge.proofs.WalkLaws.{judged, stopped_flaw}
use Rattle.version3_judge.proofs.walk_in.Goals as goal

pub loop-at-init : goal.loop-at-init
loop-at-init c = (refl, ap (judge_lines c.args.way (raw_lines c.args.s.now) 0) (sym c.fresh-c.ensures))

pub judge_span-requires : goal.judge_span-requires
judge_span-requires c =
    let a = c.args in
    let l = c.loop-at in
    let v = c.line_at-span in
    let n = part_length a.s.now l.at v.result.end c.loop-at-test.true v.ensures.1 v.ensures.2 in
    record { tables = c.requires.tables; s_in_bounds = (omega (arith, n, l.invariant.0, v.ensures.2, c.requires.s_in_bounds.0), omega (arith, l.invariant.0, c.requires.s_in_bounds.1)); s_value = whole a.s.now l.at v.result.cr v.result.end v.ensures.0 }

pub settle-requires : goal.settle-requires
settle-requires c =
    let a = c.args in
    let l = c.loop-at in
    let v = c.line_at-span in
    let n = part_length a.s.now l.at v.result.end c.loop-at-test.true v.ensures.1 v.ensures.2 in
    omega (arith, n, c.loop-at-test.true, v.ensures.1, v.ensures.2, c.requires.s_in_bounds)

pub returns-in-Err : goal.returns-in-Err
returns-in-Err c =
    let v = c.line_at-span in
    let l = c.loop-at in
    let here = take (v.result.end - l.at) (drop l.at c.args.s.now) in
    c.settle.ensures ∙ sym (l.invariant.1 ∙ judged c.args.way c.args.s.now l.at v.result.end c.loop-at-test.true v.ensures.1 v.ensures.2 l.c (stopped c.in-Err.flaw) (sym (ap step c.in-Err.is) ∙ c.judge_span.ensures) ∙ stopped_flaw l.at here _ c.in-Err.flaw)

pub overflow_add-at : goal.overflow_add-at
overflow_add-at c = omega (arith, c.line_at-span.ensures.2, c.requires.s_in_bounds)

pub loop-at-preserved : goal.loop-at-preserved
loop-at-preserved c =
    let v = c.line_at-span in
    let l = c.loop-at in
    (omega (arith, c.judge_span, l.invariant.0), l.invariant.1 ∙ judged c.args.way c.args.s.now l.at v.result.end c.loop-at-test.true v.ensures.1 v.ensures.2 l.c (Next c.in-Ok.next) (sym (ap step c.in-Ok.is) ∙ c.judge_span.ensures))

pub returns : goal.returns
unfolding judge_lines
returns c =
    let l = c.loop-at in
    sym (l.invariant.1 ∙ ap (λ (ls : List (List ℕ)). judge_lines c.args.way ls l.at l.c) (lines_end c.args.s.now l.at c.loop-at-test.false))

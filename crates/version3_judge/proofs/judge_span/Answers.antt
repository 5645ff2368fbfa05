-- the scratch holds the line unfolded
use mathlib.Core.Path.{◌≡◌, sym, ap, ◌∙◌}
use native.Mathlib.Omega.{arith}
use lib.ListN.{length, take}
use borrow.Author.Tests.{not-true}
use lib.Seq.{take_at}
use Rattle.line_folds.specs.Folds.{unfolded}
use Rattle.line_folds.proofs.FoldLaws.{unfold_shorter}
use Rattle.version3_judge.specs.Judge.{judge_line}
use Rattle.version3_judge.proofs.judge_span.Goals as goal

-- src/lib.rt:419:9
pub judge_line-requires : goal.judge_line-requires
judge_line-requires c = record { tables = c.requires.tables; s_len_bound = omega (arith, c.requires.s_in_bounds.0, c.requires.s_in_bounds.1) }

-- src/lib.rt:419:9
pub returns-then-not-folds : goal.returns-then-not-folds
returns-then-not-folds c = c.judge_line.ensures ∙ ap (judge_line c.args.way c.args.c c.args.at) (sym (c.requires.s_value (not-true _ c.if-not-folds.true-raw)))

-- src/lib.rt:421:9
pub unfold-n-requires : goal.unfold-n-requires
unfold-n-requires c = omega (arith, unfold_shorter c.args.s.now, c.requires.s_in_bounds.0)

-- src/lib.rt:422:37
pub slice_bounds-judge_line-end : goal.slice_bounds-judge_line-end
slice_bounds-judge_line-end c = omega (arith, unfold_shorter c.args.s.now, c.requires.s_in_bounds.0)

-- src/lib.rt:422:37
pub slice_bounds-judge_line-end-2 : goal.slice_bounds-judge_line-end-2
slice_bounds-judge_line-end-2 c =
    let text : take c.unfold-n.result c.unfold-n.new.d ≡ unfolded c.args.s.now = let u = c.unfold-n in
    ap (take u.result) u.ensures.1 ∙ take_at _ _ u.result (sym u.ensures.0) in
    sym (ap length text ∙ sym c.unfold-n.ensures.0)

-- src/lib.rt:422:5
pub judge_line-requires-2 : goal.judge_line-requires-2
judge_line-requires-2 c =
    let text : take c.unfold-n.result c.unfold-n.new.d ≡ unfolded c.args.s.now = let u = c.unfold-n in
    ap (take u.result) u.ensures.1 ∙ take_at _ _ u.result (sym u.ensures.0) in
    record { tables = c.requires.tables; s_len_bound = rw text (omega (arith, unfold_shorter c.args.s.now, c.requires.s_in_bounds.0, c.requires.s_in_bounds.1)) }

-- src/lib.rt:402:1
pub returns : goal.returns
returns c =
    let text : take c.unfold-n.result c.unfold-n.new.d ≡ unfolded c.args.s.now = let u = c.unfold-n in
    ap (take u.result) u.ensures.1 ∙ take_at _ _ u.result (sym u.ensures.0) in
    c.judge_line-2.ensures ∙ ap (judge_line c.args.way c.args.c c.args.at) text

-- `cabbook_cells::ranges::cells_in` meets its contract. Assumes nothing.
use Rattle.std.proofs.Common.{sym, ◌∙◌}
use Rattle.cabbook_cells.proofs.RangeLaws.{range_first, short}
use Rattle.cabbook_cells.proofs.ranges.cells_in.Goals as goal

pub returns-then-is_within : goal.returns-then-is_within
returns-then-is_within c =
    let l = c.loop-left in
    sym (sym l.invariant ∙ range_first l.left.now c.args.code c.in-len3-up.len_at_least ∙ rw (← c.is_within.ensures, c.if-is_within.true))

pub loop-left-preserved : goal.loop-left-preserved
loop-left-preserved c =
    let l = c.loop-left in
    sym (range_first l.left.now c.args.code c.in-len3-up.len_at_least ∙ rw (← c.is_within.ensures, c.if-is_within.false)) ∙ l.invariant

pub returns : goal.returns
returns c =
    let l = c.loop-left in
    sym (sym l.invariant ∙ short l.left.now c.args.code c.in_default.len_below)

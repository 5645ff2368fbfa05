-- `watch_arrivals::break_from` meets its contract. Assumes nothing.
use native.Mathlib.Omega.{arith}
use mathlib.Core.Path.{◌∙◌}
use lib.ListN.{drop, length-drop}
use Rattle.watch_arrivals.proofs.ArrivalLaws.{break_none, break_plain, break_last}
use Rattle.watch_arrivals.proofs.break_from.Goals as goal

pub returns-then-n-from : goal.returns-then-n-from
returns-then-n-from c =
    let a = c.args in
    omega (arith, break_none 0 (drop a.from a.chunk.now) (length-drop a.from a.chunk.now ∙ omega (arith, c.if-n-from.true)), c.if-n-from.true)

pub returns-then-chunk-last-eq13 : goal.returns-then-chunk-last-eq13
returns-then-chunk-last-eq13 c =
    let a = c.args in
    c.lone_within.ensures ∙ break_last a.chunk.now a.from (omega (arith, c.if-n-from.false, c.requires)) c.if-chunk-last-eq13.true

pub returns : goal.returns
returns c =
    let a = c.args in
    c.lone_within-2.ensures ∙ break_plain a.chunk.now a.from (omega (arith, c.if-n-from.false, c.requires)) c.if-chunk-last-eq13.false

-- `cabbook_positions::character_start` meets its contract. Assumes nothing.
use mathlib.Core.Path.{sym, ap, ◌∙◌}
use mathlib.Core.Bool.{not}
use Prim.Native.Nat.{◌<◌}
use native.Mathlib.Omega.{arith}
use lib.ListN.{length}
use borrow.Author.Tests.{not-true, not-false, lt-ltb}
use Rattle.cabbook_positions.specs.Positions.{starts}
use Rattle.cabbook_positions.proofs.PositionLaws.{back_here, back_on, back_end}
use Rattle.cabbook_positions.proofs.character_start.Goals as goal

pub returns-then-not-is_tail : goal.returns-then-not-is_tail
returns-then-not-is_tail c =
    let a = c.args in
    let p = starts a.s.now in
    let l = c.loop-i in
    let h : a.place < length a.s.now = omega arith in
    (rw (lt-ltb a.place (length a.s.now) h) (sym (l.invariant.0 ∙ back_here p l.i (omega arith) (ap not (sym c.is_tail.ensures ∙ not-true _ c.if-not-is_tail.true-raw)))), omega arith)

pub loop-i-preserved : goal.loop-i-preserved
loop-i-preserved c =
    let p = starts c.args.s.now in
    let l = c.loop-i in
    (l.invariant.0 ∙ back_on p l.i (omega arith) (ap not (sym c.is_tail.ensures ∙ not-false _ c.if-not-is_tail.false-raw)), omega arith)

pub returns : goal.returns
returns c =
    let a = c.args in
    let l = c.loop-i in
    let h : a.place < length a.s.now = omega arith in
    (rw (lt-ltb a.place (length a.s.now) h) (sym (l.invariant.0 ∙ back_end (starts a.s.now) l.i (omega arith))), omega arith)

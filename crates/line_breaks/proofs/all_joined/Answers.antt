-- `line_breaks::all_joined` meets its contract. Assumes nothing.
use borrow.Author.Rules.{rules}
use borrow.Author.Tests.{not-true}
use mathlib.Core.Bool.{false≢true}
use Prim.Native.Nat.{◌-◌}
use native.Mathlib.Omega.{arith}
use lib.ListN.{length}
use Rattle.line_breaks.proofs.EndLaws.{joined_on, joined_none}
use Rattle.line_breaks.proofs.all_joined.Goals as goal

pub loop-i-init : goal.loop-i-init
loop-i-init c = (search rules, joined_none c.args.s.now)

pub returns-then-is_split : goal.returns-then-is_split
returns-then-is_split c = λ e. absurd (false≢true e)

pub loop-i-preserved : goal.loop-i-preserved
loop-i-preserved c =
    let s = c.args.s.now in
    (omega arith, joined_on s c.loop-i.i c.loop-i.i 16 (omega arith) c.loop-i.invariant.1 (c.is_split.ensures c.if-is_split.false))

pub returns : goal.returns
returns c =
    let s = c.args.s.now in
    λ e k h. joined_on s (length s - 17) c.loop-i.i 16 (omega arith) c.loop-i.invariant.1 (c.is_split-2.ensures (not-true _ e)) k (omega arith)

-- `version3_text::marks::skip_to_mark` meets its contract. Assumes nothing.
use mathlib.Core.Path.{◌∙◌}
use Prim.Native.Nat.{◌≤◌, ◌+◌}
use native.Mathlib.Omega.{arith}
use lib.ListN.{length}
use Rattle.version3_text.specs.Renewed.{unmarked}
use Rattle.line_folds.proofs.HopLaws.{run_many}
use Rattle.version3_text.proofs.marks.skip_to_mark.Goals as goal

pub returns-then-has_mark : goal.returns-then-has_mark
returns-then-has_mark c = c.loop-i.invariant

pub loop-i-preserved : goal.loop-i-preserved
loop-i-preserved c =
    let s = c.args.s.now in
    let h : c.loop-i.i + 16 ≤ length s = omega arith in
    (h, c.loop-i.invariant.1 ∙ run_many unmarked s c.loop-i.i 16 h (c.has_mark.ensures c.if-has_mark.false))

pub returns : goal.returns
returns c = c.loop-i.invariant

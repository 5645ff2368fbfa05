-- `line_folds::hops::skip_to_cr` meets its contract. Assumes nothing.
use mathlib.Core.Path.{◌∙◌}
use Prim.Native.Nat.{◌≤◌, ◌+◌}
use native.Mathlib.Omega.{arith}
use lib.ListN.{length, get_or}
use Rattle.line_folds.specs.Folds.{not_cr}
use Rattle.line_folds.proofs.HopLaws.{no_cr, run_many}
use Rattle.line_folds.proofs.hops.skip_to_cr.Goals as goal

pub returns-then-has_cr : goal.returns-then-has_cr
returns-then-has_cr c = c.loop-i.invariant

pub loop-i-preserved : goal.loop-i-preserved
loop-i-preserved c =
    let s = c.args.s.now in
    let h : c.loop-i.i + 16 ≤ length s = omega arith in
    (h, c.loop-i.invariant.1 ∙ run_many not_cr s c.loop-i.i 16 h (λ k q. no_cr (get_or s (c.loop-i.i + k) 0) (c.has_cr.ensures c.if-has_cr.false k q)))

pub returns : goal.returns
returns c = c.loop-i.invariant

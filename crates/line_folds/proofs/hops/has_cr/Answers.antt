-- `line_folds::hops::has_cr` meets its contract. Assumes nothing.
use borrow.Author.Rules.{rules}
use mathlib.Core.Path.{◌≡◌}
use Prim.Native.Nat.{ℕ, ◌+◌}
use native.Mathlib.Omega.{arith}
use lib.ListN.{get_or}
use borrow.Author.Count.{below_none, below_more}
use borrow.Author.Tests.{not-false, eqb-true}
use Rattle.octets.proofs.BitLaws.{or_zero_left}
use Rattle.line_folds.proofs.HopLaws.{unmarked}
use Rattle.line_folds.proofs.hops.has_cr.Goals as goal

pub loop-k-init : goal.loop-k-init
loop-k-init c = (search rules, λ z. below_none _)

pub loop-k-preserved : goal.loop-k-preserved
loop-k-preserved c =
    let a = c.args in
    (omega arith, λ z. below_more (λ (m : ℕ). get_or a.s.now (a.i + m) 0 ≡ 13 → ⊥) c.loop-k.k (c.loop-k.invariant.1 (or_zero_left c.loop-k.hit _ z)) (unmarked c.loop-k.hit (get_or a.s.now (a.i + c.loop-k.k) 0) z))

pub returns : goal.returns
returns c = λ e m h. c.loop-k.invariant.1 (eqb-true c.loop-k.hit 0 (not-false _ e)) m (omega arith)

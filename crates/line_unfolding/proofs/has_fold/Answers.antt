-- `line_unfolding::has_fold` meets its contract. Assumes nothing.
use borrow.Author.Rules.{rules}
use mathlib.Core.Path.{◌≡◌}
use mathlib.Core.Bool.{false}
use Prim.Native.Nat.{ℕ, ◌+◌}
use native.Mathlib.Omega.{arith}
use lib.ListN.{drop}
use borrow.Author.Count.{below_none, below_more}
use borrow.Author.Tests.{not-false, eqb-true}
use Rattle.octets.proofs.BitLaws.{or_zero_left}
use Rattle.line_folds.specs.Folds.{fold_at}
use Rattle.line_unfolding.proofs.RunLaws.{unmarked}
use Rattle.line_unfolding.proofs.has_fold.Goals as goal

pub loop-k-init : goal.loop-k-init
loop-k-init c = (search rules, λ z. below_none _)

pub loop-k-preserved : goal.loop-k-preserved
loop-k-preserved c =
    let a = c.args in
    (omega arith, λ z. below_more (λ (m : ℕ). fold_at (drop (a.i + m) a.s.now) ≡ false) c.loop-k.k (c.loop-k.invariant.1 (or_zero_left c.loop-k.hit _ z)) (unmarked a.s.now (a.i + c.loop-k.k) c.loop-k.hit z))

pub returns : goal.returns
returns c = λ e m h. c.loop-k.invariant.1 (eqb-true c.loop-k.hit 0 (not-false _ e)) m (omega arith)

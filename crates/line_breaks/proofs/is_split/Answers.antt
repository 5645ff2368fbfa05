-- `line_breaks::is_split` meets its contract. Assumes nothing.
use borrow.Author.Rules.{rules}
use mathlib.Core.Path.{◌≡◌, sym, ◌∙◌}
use mathlib.Core.Bool.{false}
use Prim.Native.Nat.{ℕ, ◌+◌}
use native.Mathlib.Omega.{arith}
use borrow.Author.Count.{below_none, below_more}
use borrow.Author.Tests.{not-false, eqb-true}
use Rattle.octets.proofs.BitLaws.{or_zero_left, or_zero_right, bit_no}
use Rattle.line_breaks.specs.Lone.{split_at}
use Rattle.line_breaks.proofs.is_split.Goals as goal

pub loop-k-init : goal.loop-k-init
loop-k-init c = (search rules, λ z. below_none _)

pub loop-k-preserved : goal.loop-k-preserved
unfolding split_at
loop-k-preserved c =
    let a = c.args in (
      omega arith,
      λ z. below_more (λ (m : ℕ). split_at a.s.now (a.i + m) ≡ false) c.loop-k.k (c.loop-k.invariant.1 (or_zero_left c.loop-k.bad _ z))
          (bit_no _ (sym c.split_bit-bad.ensures ∙ or_zero_right c.loop-k.bad _ z)),
    )

pub returns : goal.returns
returns c = λ e m h. c.loop-k.invariant.1 (eqb-true c.loop-k.bad 0 (not-false _ e)) m (omega arith)

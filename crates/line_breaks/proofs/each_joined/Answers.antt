-- `line_breaks::each_joined` meets its contract. Assumes nothing.
use mathlib.Core.Path.{◌≡◌, sym, ◌∙◌}
use mathlib.Core.Bool.{false, false≢true}
use Prim.Native.Nat.{ℕ}
use native.Mathlib.Omega.{arith}
use borrow.Author.Count.{below_none, below_more}
use Rattle.octets.proofs.BitLaws.{bit_no}
use Rattle.line_breaks.specs.Lone.{split_at}
use Rattle.line_breaks.proofs.each_joined.Goals as goal

pub loop-i-init : goal.loop-i-init
loop-i-init c = below_none _

pub returns-then-split_bit-ne0 : goal.returns-then-split_bit-ne0
returns-then-split_bit-ne0 c = λ e. absurd (false≢true e)

pub loop-i-preserved : goal.loop-i-preserved
unfolding split_at
loop-i-preserved c =
    let s = c.args.s.now in
    let none : c.split_bit.result ≡ 0 = omega arith in
    below_more (λ (m : ℕ). split_at s m ≡ false) c.loop-i.i c.loop-i.invariant (bit_no _ (sym c.split_bit.ensures ∙ none))

pub returns : goal.returns
returns c = λ e k h. c.loop-i.invariant k (omega arith)

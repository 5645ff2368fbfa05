use native.Mathlib.Omega.{arith}
use Rattle.numbers.proofs.Listed.{unlisted}
use Rattle.numbers.proofs.refusal.Reason.of.Goals as goal

-- src/refusal.rt:193:18
pub invariant_of-result : goal.invariant_of-result
invariant_of-result c = record {
  unlisted = unlisted c.args.n
      (λ a b. omega (arith, c.in_default))
      (λ a b. omega (arith, c.in_default))
      (λ a b. omega (arith, c.in_default))
      (λ a b. omega (arith, c.in_default))
      (λ a b. omega (arith, c.in_default))
      (λ a b. omega (arith, c.in_default))
      (λ a b. omega (arith, c.in_default))
      (λ a b. omega (arith, c.in_default))
      (λ a b. omega (arith, c.in_default));
}

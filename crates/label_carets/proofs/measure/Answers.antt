-- `label_carets::measure` meets its contract. Assumes nothing.
use borrow.Author.Rules.{rules}
use mathlib.Core.Path.{◌≡◌, sym, ap, ◌∙◌}
use mathlib.Core.Bool.{true}
use native.Mathlib.Nat.{zero-add}
use native.Mathlib.Omega.{arith}
use lib.ListN.{length, drop}
use Rattle.label_carets.specs.Decoded.{pair_at}
use Rattle.label_carets.specs.declared.Rule.TheVariants.{Rfc6868}
use Rattle.label_carets.proofs.PairLaws.{pair_inside, decoded_pair, decoded_octet, decoded_end}
use Rattle.label_carets.proofs.measure.Goals as goal

pub loop-i-init : goal.loop-i-init
loop-i-init c = (search rules, search rules, sym (zero-add _))

pub overflow_add-i : goal.overflow_add-i
overflow_add-i c =
    let paired : pair_at Rfc6868 (drop c.loop-i.i c.args.label.now) ≡ true = sym c.pair_at.ensures ∙ c.if-pair_at.true in
    omega (arith, pair_inside c.args.label.now c.loop-i.i paired)

pub loop-i-smaller-then-pair_at : goal.loop-i-smaller-then-pair_at
loop-i-smaller-then-pair_at c =
    let paired : pair_at Rfc6868 (drop c.loop-i.i c.args.label.now) ≡ true = sym c.pair_at.ensures ∙ c.if-pair_at.true in
    omega (arith, pair_inside c.args.label.now c.loop-i.i paired)

pub loop-i-preserved-then-pair_at : goal.loop-i-preserved-then-pair_at
loop-i-preserved-then-pair_at c =
    let paired : pair_at Rfc6868 (drop c.loop-i.i c.args.label.now) ≡ true = sym c.pair_at.ensures ∙ c.if-pair_at.true in
    let s = c.args.label.now in
    (pair_inside s c.loop-i.i paired, omega arith, omega (arith, c.loop-i.invariant.2, ap length (decoded_pair s c.loop-i.i c.loop-i-test.true paired)))

pub loop-i-preserved : goal.loop-i-preserved
loop-i-preserved c =
    let s = c.args.label.now in
    let e = sym c.pair_at.ensures ∙ c.if-pair_at.false in
    (omega arith, omega arith, omega (arith, c.loop-i.invariant.2, ap length (decoded_octet s c.loop-i.i c.loop-i-test.true e)))

pub returns : goal.returns
returns c = omega (arith, c.loop-i.invariant.2, ap length (decoded_end c.args.label.now c.loop-i.i c.loop-i-test.false))

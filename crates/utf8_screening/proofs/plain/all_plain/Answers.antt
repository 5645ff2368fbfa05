-- `utf8_screening::plain::all_plain` meets its contract. Assumes nothing.
use borrow.Author.Rules.{rules}
use borrow.Author.Tests.{not-true, not-false}
use mathlib.Core.Path.{refl, sym, ◌∙◌}
use Prim.Native.Nat.{◌-◌}
use native.Mathlib.Omega.{arith}
use lib.ListN.{length}
use Rattle.utf8_screening.specs.Plain.{block}
use Rattle.utf8_screening.proofs.PlainLaws.{plain_pass, plain_fail, plain_last}
use Rattle.utf8_screening.proofs.plain.all_plain.Goals as goal

pub loop-i-init : goal.loop-i-init
loop-i-init c = (search rules, refl)

pub returns-then-not-is_plain_block : goal.returns-then-not-is_plain_block
returns-then-not-is_plain_block c =
    let s = c.args.s.now in
    sym (c.loop-i.invariant.1 ∙ plain_fail s c.loop-i.i block (sym c.is_plain_block.ensures ∙ not-true _ c.if-not-is_plain_block.true-raw))

pub loop-i-preserved : goal.loop-i-preserved
loop-i-preserved c =
    let s = c.args.s.now in
    (omega arith, c.loop-i.invariant.1 ∙ plain_pass s c.loop-i.i block (sym c.is_plain_block.ensures ∙ not-false _ c.if-not-is_plain_block.false-raw))

pub returns : goal.returns
returns c =
    let s = c.args.s.now in
    c.is_plain_block-2.ensures
    ∙ plain_last s (length s - block) block c.loop-i.i (omega arith) (omega arith) c.loop-i.invariant.1

-- `console_parts::end_of` meets its contract. Assumes nothing.
use mathlib.Core.Path.{◌≡◌, refl}
use borrow.Author.Rules.{rules}
use native.Mathlib.Omega.{arith}
use Rattle.console_parts.specs.Parts.{end_of}
use Rattle.console_parts.proofs.PartLaws.{end_next}
use Rattle.console_parts.proofs.end_of.Goals as goal

pub loop-init : goal.loop-init
unfolding end_of
loop-init c = (refl, omega arith)

pub part_end-end-requires : goal.part_end-end-requires
part_end-end-requires c = (search rules, c.loop.invariant.1)

pub loop-preserved : goal.loop-preserved
loop-preserved c = (end_next c.args.s.now c.loop.counter c.loop.end c.part_end-end.result c.loop.invariant.0 c.part_end-end.ensures.0, c.part_end-end.ensures.1)

pub returns : goal.returns
returns c =
    let e : c.loop.counter ≡ c.args.k = omega arith in
    (rw (← e) c.loop.invariant.0, c.loop.invariant.1)

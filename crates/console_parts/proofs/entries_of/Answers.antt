-- `console_parts::entries_of` meets its contract. Assumes nothing.
use mathlib.Core.Path.{◌≡◌, refl, ap, ◌∙◌}
use native.Mathlib.Omega.{arith}
use Rattle.console_parts.specs.Parts.{sources_up_to}
use Rattle.console_parts.proofs.PartLaws.{sources_next}
use Rattle.console_parts.proofs.entries_of.Goals as goal

pub loop-i-init : goal.loop-i-init
unfolding sources_up_to
loop-i-init c = refl

pub loop-i-preserved : goal.loop-i-preserved
loop-i-preserved c = sources_next c.args.s.now c.loop-i.a c.loop-i.i c.source_at.result c.loop-i.invariant c.source_at.ensures

pub returns : goal.returns
returns c =
    let e : c.loop-i.i ≡ 17 = omega arith in
    c.loop-i.invariant ∙ ap (sources_up_to c.args.s.now) e

-- `text_unescaping::measure` meets its contract. Assumes nothing.
use mathlib.Core.Path.{sym, ◌∙◌}
use Prim.Native.Nat.{◌-◌}
use lib.ListN.{length}
use native.Mathlib.Omega.{arith}
use Rattle.text_unescaping.proofs.MeasureLaws.{at_end}
use Rattle.text_unescaping.proofs.PairLaws.{settled_sound}
use Rattle.text_unescaping.proofs.measure.Goals as goal

pub returns-then-all_settled : goal.returns-then-all_settled
returns-then-all_settled c =
    let s = c.args.text.now in
    let w = settled_sound s (sym c.all_settled.ensures ∙ c.if-all_settled.true) in
    at_end s (length s - c.backslashes.result) w.0 (omega (arith, w.1, c.backslashes.ensures.0))

-- `firmware::judge` meets its contract. Assumes nothing.
use mathlib.Core.Path.{sym, ap, ◌∙◌}
use native.Mathlib.Omega.{arith}
use Rattle.numbers.specs.Refusals.{number}
use Rattle.reader.specs.Outcome.{verdict}
use Rattle.firmware.proofs.Places.{place_low}
use Rattle.firmware.proofs.judge.Goals as goal

pub pack_refusal-requires : goal.pack_refusal-requires
pack_refusal-requires c = omega (arith, place_low c.args.input.now (number c.in-Err.r.0) c.in-Err.r.1 (sym c.judge.ensures ∙ ap verdict c.in-Err.is))

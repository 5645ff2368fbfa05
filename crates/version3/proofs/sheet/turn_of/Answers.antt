-- `version3::sheet::turn_of` meets its contract. Assumes nothing.
use native.Mathlib.Omega.{arith}
use Rattle.version3.proofs.CardLaws.{turn_first, turn_second, turn_other}
use Rattle.version3.proofs.sheet.turn_of.Goals as goal

pub returns-in-1 : goal.returns-in-1
returns-in-1 c = turn_first c.args.row c.in-1.is

pub returns-in-34 : goal.returns-in-34
returns-in-34 c = turn_second c.args.row (λ e. omega (arith, c.in-34.is, e)) c.in-34.is

pub returns-in_default : goal.returns-in_default
returns-in_default c = turn_other c.args.row (λ e. omega arith) (λ e. omega arith)

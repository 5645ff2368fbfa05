-- `cabbook_positions::line_number` meets its contract. Assumes nothing.
use Rattle.std.proofs.Common.{rules, arith, ◌≡◌, count_by}
use Rattle.cabbook_positions.specs.Positions.{is_lf}
use Rattle.cabbook_positions.proofs.PositionLaws.{count_is}
use Rattle.cabbook_positions.proofs.line_number.Goals as goal

pub returns : goal.returns
returns c =
    let e : c.count.result ≡ count_by is_lf c.args.before.now = search rules in
    omega (arith, e, count_is is_lf c.args.before.now)

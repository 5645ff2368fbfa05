-- `cabbook_positions::characters` meets its contract. Assumes nothing.
use Rattle.std.proofs.Common.{rules, arith, ◌≡◌, count_by}
use Rattle.cabbook_positions.specs.Positions.{is_first}
use Rattle.cabbook_positions.proofs.PositionLaws.{count_is}
use Rattle.cabbook_positions.proofs.characters.Goals as goal

pub returns : goal.returns
returns c =
    let e : c.count.result ≡ count_by is_first c.args.s.now = search rules in
    omega (arith, e, count_is is_first c.args.s.now)

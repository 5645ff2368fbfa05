-- `console_requests::read_row` meets its contract. Assumes nothing.
use mathlib.Core.Path.{◌∙◌}
use Rattle.std.specs.Prelude.{Some, None}
use Rattle.program_numbers.specs.Hex.{taken}
use Rattle.console_requests.specs.Names.{listed}
use Rattle.console_requests.proofs.RequestLaws.{octets_not, octets_read, read_with}
use Rattle.console_requests.proofs.read_row.Goals as goal

pub returns-in_err-count : goal.returns-in_err-count
returns-in_err-count c =
    let a = c.args in
    rw c.from_residual-in_err-count.ensures
    (read_with (listed a.row) a.line.now a.out.now c.from-numbers.result c.from-numbers.ensures _ _ _ (taken None c.octets_of.new.out) c.in_ok-first.ensures c.in_ok-second.ensures c.in_ok-third.ensures
    (c.in_err-count.ensures ∙ octets_read a.row.3 c.if-octets.true _ _ a.out.now c.word.ensures))

pub returns-in_ok-count : goal.returns-in_ok-count
returns-in_ok-count c =
    let a = c.args in
    read_with (listed a.row) a.line.now a.out.now c.from-numbers.result c.from-numbers.ensures _ _ _ (taken (Some c.in_ok-count.count) c.octets_of.new.out) c.in_ok-first.ensures c.in_ok-second.ensures c.in_ok-third.ensures
    (c.in_ok-count.ensures ∙ octets_read a.row.3 c.if-octets.true _ _ a.out.now c.word.ensures)

pub returns-else-octets : goal.returns-else-octets
returns-else-octets c =
    let a = c.args in
    read_with (listed a.row) a.line.now a.out.now c.from-numbers.result c.from-numbers.ensures _ _ _ (taken (Some 0) a.out.now) c.in_ok-first.ensures c.in_ok-second.ensures c.in_ok-third.ensures
    (octets_not a.row.3 c.if-octets.false _ a.out.now)

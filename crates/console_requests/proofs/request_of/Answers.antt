-- `console_requests::request_of` meets its contract. Assumes nothing.
use mathlib.Core.Path.{sym, ◌∙◌}
use Rattle.std.specs.Prelude.{Some, None}
use Rattle.console_requests.specs.Names.{listed}
use Rattle.console_requests.proofs.RequestLaws.{of_row}
use Rattle.console_requests.proofs.request_of.Goals as goal

pub returns-in_err-row : goal.returns-in_err-row
returns-in_err-row c =
    let a = c.args in
    rw c.from_residual.ensures (sym (of_row a.line.now a.out.now _ c.spaces.result None c.word.ensures c.spaces.ensures c.in_err-row.ensures))

pub returns : goal.returns
returns c =
    let a = c.args in
    c.read_row.ensures ∙ sym (of_row a.line.now a.out.now _ c.spaces.result (Some (listed c.in_ok-row.row)) c.word.ensures c.spaces.ensures c.in_ok-row.ensures)

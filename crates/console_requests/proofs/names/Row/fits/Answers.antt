-- `console_requests::names::Row::fits` meets its contract. Assumes nothing.
use mathlib.Core.Path.{◌∙◌}
use Rattle.console_requests.proofs.NameLaws.{fits_not, fits_name}
use Rattle.console_requests.proofs.RequestLaws.{pointwise_alike, byte_bit}
use Rattle.console_requests.proofs.names.Row.fits.Goals as goal

pub returns-then-from-after : goal.returns-then-from-after
returns-then-from-after c =
    let a = c.args in
    fits_name a.word.now a.after a.self c.from.result c.from-2.result c.from.ensures (c.from-2.ensures ∙ byte_bit a.self.3) c.if-from-after.true c.eq.result (c.eq.ensures ∙ pointwise_alike a.self.1.now a.word.now)

pub returns-else-from-after : goal.returns-else-from-after
returns-else-from-after c =
    let a = c.args in
    fits_not a.word.now a.after a.self c.from.result c.from-2.result c.from.ensures (c.from-2.ensures ∙ byte_bit a.self.3) c.if-from-after.false

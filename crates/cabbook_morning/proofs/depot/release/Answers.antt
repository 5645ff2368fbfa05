-- `cabbook_morning::depot::release` meets its contract. Assumes nothing.
use mathlib.Core.Path.{ap}
use Rattle.desk.specs.Steps.{Turned}
use Rattle.cabbook_morning.proofs.depot.release.Goals as goal

pub returns : goal.returns
returns c = record { value = rw (c.no_upload.ensures, c.before-2.ensures, ap (λ (t : Turned). t.desk) c.release-t.ensures); pool_after = ap (λ (t : Turned). t.pool) c.release-t.ensures }

-- `console_requests::names::first_of` meets its contract. Assumes nothing.
use mathlib.Core.Path.{◌≡◌}
use mathlib.Core.List.{map}
use lib.ListN.{drop}
use Rattle.console_requests.specs.Names.{listed, search}
use Rattle.console_requests.proofs.names.first_of.Given as goal

abbrev pub invariant-loop-row : goal.invariant-loop-row
invariant-loop-row l = search l.word l.after (map listed l.rows) ≡ search l.word l.after (map listed (drop l.row-index l.rows))

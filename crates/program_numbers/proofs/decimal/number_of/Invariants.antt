-- `program_numbers::decimal::number_of` meets its contract. Assumes nothing.
use mathlib.Core.Path.{◌≡◌}
use Prim.Native.Nat.{◌≤◌}
use lib.ListN.{drop}
use Rattle.numbers.specs.Limits as limit
use Rattle.program_numbers.specs.Decimal.{number_from, number_of}
use Rattle.program_numbers.proofs.decimal.number_of.Given as goal

abbrev pub invariant-loop-octet : goal.invariant-loop-octet
invariant-loop-octet l = (l.n ≤ limit.largest64) × (number_of l.word ≡ number_from l.n (drop l.octet-index l.word))

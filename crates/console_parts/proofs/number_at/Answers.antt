-- `console_parts::number_at` meets its contract. Assumes nothing.
use native.Mathlib.Omega.{arith}
use Rattle.console_parts.specs.Parts.{number_at}
use Rattle.console_parts.proofs.number_at.Goals as goal

pub returns : goal.returns
unfolding number_at
returns c = rw (c.from_be_bytes.ensures, c.octet_at.ensures, c.octet_at-2.ensures, c.octet_at-3.ensures, c.octet_at-4.ensures) (omega arith)

-- `reader_records::write_records` meets its contract. Assumes nothing.
use Prim.Native.Nat.{◌-◌}
use lib.ListN.{length, drop}
use Rattle.octets.proofs.Writes.{Written}
use Rattle.line_folds.specs.Logical.{raw_lines}
use Rattle.reader_records.specs.Records.{records_from}
use Rattle.reader_records.proofs.write_records.Given as goal

abbrev pub invariant-loop-at : goal.invariant-loop-at
invariant-loop-at l = Written (records_from l.edition 0 (raw_lines l.s)) (records_from l.edition l.at (raw_lines (drop l.at l.s))) l.initial.out l.out l.k

abbrev pub decreases-loop-at : goal.decreases-loop-at
decreases-loop-at l = length l.s - l.at

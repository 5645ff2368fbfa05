-- `merge_sources::row_of` meets its contract: after i turns the row has the first i entries. Assumes nothing.
use Rattle.std.proofs.Common.{◌≡◌, length}
use Rattle.merge_sources.specs.Row.{filled}
use Rattle.merge_sources.proofs.row_of.Given as goal

abbrev pub invariant-loop-i : goal.invariant-loop-i
invariant-loop-i l = l.r ≡ filled (length l.m) l.m l.i

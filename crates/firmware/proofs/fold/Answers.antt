-- `firmware::fold` meets its contract. Assumes nothing.
use Rattle.firmware.proofs.Lows.{low_of, low_fold}
use Rattle.firmware.proofs.fold.Goals as goal

pub pack_written-requires : goal.pack_written-requires
pack_written-requires c = low_of c.fold-w.ensures (low_fold _ _)

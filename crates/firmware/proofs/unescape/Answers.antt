-- `firmware::unescape` meets its contract. Assumes nothing.
use Rattle.firmware.proofs.Lows.{low_of, low_unescape}
use Rattle.firmware.proofs.unescape.Goals as goal

pub pack_written-requires : goal.pack_written-requires
pack_written-requires c = low_of c.unescape-w.ensures (low_unescape _ _)

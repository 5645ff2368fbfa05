-- `watch_buffer::append` meets its contract. Assumes nothing.
use native.Mathlib.Omega.{arith}
use Rattle.desk_pool.proofs.Patches.{put_copied}
use Rattle.watch_buffer.proofs.append.Goals as goal

pub returns : goal.returns
returns c = put_copied c.args.buffer.now c.args.octets.now c.copy_in.new.dst c.args.used (omega arith) c.copy_in.ensures

-- `watch_buffer::clear` meets its contract. Assumes nothing.
use native.Mathlib.Omega.{arith}
use Rattle.watch_buffer.proofs.BufferLaws.{put_cleared}
use Rattle.watch_buffer.proofs.clear.Goals as goal

pub returns : goal.returns
returns c = put_cleared c.args.buffer.now c.zero.new.dst c.args.from c.args.to (omega arith) (omega arith) c.zero.ensures

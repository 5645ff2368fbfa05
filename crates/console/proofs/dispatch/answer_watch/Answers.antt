-- `console::dispatch::answer_watch` meets its contract. Assumes nothing.
use mathlib.Core.Path.{refl, ap}
use Rattle.console_watch.specs.WatchAnswers.{Watching, with_buffer}
use Rattle.console.specs.Dispatch.{WatchTurn}
use Rattle.console.proofs.dispatch.answer_watch.Goals as goal

pub returns-in-Begin : goal.returns-in-Begin
unfolding WatchTurn
returns-in-Begin c = rw c.in-Begin.is c.answer_begin.ensures

pub returns-in-Chunk : goal.returns-in-Chunk
unfolding WatchTurn
returns-in-Chunk c = rw c.in-Chunk.is c.answer_chunk.ensures

pub returns-in-End : goal.returns-in-End
unfolding WatchTurn
returns-in-End c = rw c.in-End.is (c.answer_end.ensures, refl)

pub returns-in-Buffer : goal.returns-in-Buffer
unfolding WatchTurn
returns-in-Buffer c = rw c.in-Buffer.is (ap (λ (x : Watching). with_buffer x c.args.buffer.now) c.answer_buffer.ensures)

pub returns-in-Claim : goal.returns-in-Claim
unfolding WatchTurn
returns-in-Claim c = rw c.in-Claim.is (ap (λ (x : Watching). with_buffer x c.args.buffer.now) c.answer_claim.ensures)

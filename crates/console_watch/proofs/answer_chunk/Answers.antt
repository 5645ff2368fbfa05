-- `console_watch::answer_chunk` meets its contract. Assumes nothing.
use Rattle.console_entries.proofs.RoomLaws.{put_front}
use Rattle.console_watch.proofs.WatchLaws.{lent_part}
use Rattle.console_watch.proofs.answer_chunk.Goals as goal

pub returns : goal.returns
returns c =
    let a = c.args in
    let e = lent_part a.s.size c.lent_length-n.result a.buffer.now c.lent_length-n.ensures.value in
    record {
      left = c.answer_lent.new.lent;
      told = rw e at c.answer_lent.ensures;
      holds = put_front a.buffer.now c.answer_lent.new.lent c.lent_length-n.result c.lent_length-n.ensures.upper_bound.0 c.answer_lent.ensures.chunk.size;
    }

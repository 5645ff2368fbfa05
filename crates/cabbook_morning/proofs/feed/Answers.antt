-- `cabbook_morning::feed` meets its contract. Assumes nothing.
use Rattle.cabbook_morning.proofs.TurnLaws.{fed}
use Rattle.cabbook_morning.proofs.feed.Goals as goal

pub returns : goal.returns
returns c = fed c.read_chunk-got.result c.args.k _ c.args.m c.args.pool.now _ _ c.read_chunk-got.ensures c.feed_with.ensures

-- `cabbook_morning::read_chunk` meets its contract. Assumes nothing.
use native.Mathlib.Omega.{arith}
use borrow.Author.Rules.{rules}
use Rattle.cabbook_morning.proofs.TurnLaws.{taken}
use Rattle.cabbook_morning.proofs.read_chunk.Goals as goal

pub returns : goal.returns
returns c = taken c.fetch_argument.result c.args.size c.min-n.result c.args.room.now _ _ c.fetch_argument.ensures (omega arith) (omega arith) (search rules)

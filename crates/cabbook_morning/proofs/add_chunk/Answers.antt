-- `cabbook_morning::add_chunk` meets its contract. Assumes nothing.
use Rattle.std.proofs.Common.{ap}
use Rattle.desk.specs.Answer.{answer}
use Rattle.desk.specs.Steps.{turned}
use Rattle.cabbook_morning.proofs.TurnLaws.{add_done, add_ended}
use Rattle.cabbook_morning.proofs.add_chunk.Goals as goal

pub returns-in-Ok : goal.returns-in-Ok
returns-in-Ok c =
    let a = c.args in
    let t = c.add-t.result in
    add_done a.k a.m (turned t c.add-t.new.pool) _ c.add-t.ensures _ (ap answer c.in-Ok.is)

pub returns-in-Err : goal.returns-in-Err
returns-in-Err c =
    let a = c.args in
    let t = c.add-t.result in
    add_ended a.k a.m (turned t c.add-t.new.pool) _ c.add-t.ensures _ _ (ap answer c.in-Err.is) _ _ c.finish.ensures

-- `replay_call::run_query` meets its contract. Assumes nothing.
use mathlib.Core.Path.{◌≡◌, sym, ap, ◌∙◌}
use Rattle.reader.specs.Outcome.{verdict as read}
use Rattle.desk.specs.Answer.{answer}
use Rattle.desk_ledger.specs.Ledger.{part, verdict}
use Rattle.desk_ledger.specs.Desks.{said, ask_step}
use Rattle.replay_script.specs.Scripts.{query_of}
use Rattle.replay_call.specs.Stepped.{world_of}
use Rattle.replay_call.proofs.CallLaws.{query_judge, query_show, query_held}
use Rattle.replay_call.proofs.run_query.Goals as goal

pub put_verdict-requires : goal.put_verdict-requires
put_verdict-requires c =
    let judged : let a = c.args in
    (ask_step (world_of a.desk a.pool.now) a.t (query_of a.name)).reply ≡ verdict (read c.judge.result) = let a = c.args in
    query_judge (world_of a.desk a.pool.now) a.t a.name c.if-name-eq-JUDGE.true ∙ ap verdict (sym c.judge.ensures) in
    rw judged at c.requires

pub returns-then-name-eq-JUDGE : goal.returns-then-name-eq-JUDGE
returns-then-name-eq-JUDGE c =
    let judged : let a = c.args in
    (ask_step (world_of a.desk a.pool.now) a.t (query_of a.name)).reply ≡ verdict (read c.judge.result) = let a = c.args in
    query_judge (world_of a.desk a.pool.now) a.t a.name c.if-name-eq-JUDGE.true ∙ ap verdict (sym c.judge.ensures) in
    rw judged c.put_verdict.ensures

pub put_part-requires : goal.put_part-requires
put_part-requires c =
    let shown : let a = c.args in
    (ask_step (world_of a.desk a.pool.now) a.t (query_of a.name)).reply ≡ part c.show.result.now = let a = c.args in
    query_show (world_of a.desk a.pool.now) a.t a.name c.if-name-eq-SHOW.true ∙ ap part (sym c.show.ensures.octets) in
    rw shown at c.requires

pub returns-then-name-eq-SHOW : goal.returns-then-name-eq-SHOW
returns-then-name-eq-SHOW c =
    let shown : let a = c.args in
    (ask_step (world_of a.desk a.pool.now) a.t (query_of a.name)).reply ≡ part c.show.result.now = let a = c.args in
    query_show (world_of a.desk a.pool.now) a.t a.name c.if-name-eq-SHOW.true ∙ ap part (sym c.show.ensures.octets) in
    rw shown c.put_part.ensures

pub put_answer-requires : goal.put_answer-requires
put_answer-requires c =
    let held : let a = c.args in
    (ask_step (world_of a.desk a.pool.now) a.t (query_of a.name)).reply ≡ said (answer c.held.result) = let a = c.args in
    query_held (world_of a.desk a.pool.now) a.t a.name c.if-name-eq-JUDGE.false c.if-name-eq-SHOW.false ∙ ap said (sym c.held.ensures) in
    rw held at c.requires

pub returns : goal.returns
returns c =
    let held : let a = c.args in
    (ask_step (world_of a.desk a.pool.now) a.t (query_of a.name)).reply ≡ said (answer c.held.result) = let a = c.args in
    query_held (world_of a.desk a.pool.now) a.t a.name c.if-name-eq-JUDGE.false c.if-name-eq-SHOW.false ∙ ap said (sym c.held.ensures) in
    rw held c.put_answer.ensures

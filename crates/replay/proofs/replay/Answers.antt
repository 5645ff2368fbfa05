-- `replay::replay` meets its contract. Assumes nothing.
use mathlib.Core.Path.{sym, ap, ◌∙◌}
use Rattle.std.proofs.lemmas.Result.{err_from_is_err_and}
use Rattle.desk.specs.declared.Turn.{Turn}
use Rattle.replay.proofs.OutcomeLaws.{fresh_bounds, outcome_refused, outcome_played}
use Rattle.replay.proofs.replay.Goals as goal

pub play-requires : goal.play-requires
play-requires c =
    (fresh_bounds c.args.slots _ (sym (ap (λ (t : Turn). t.answer) c.new-turn.ensures) ∙ c.in_ok-turn.was), ap (λ (t : Turn). t.desk) c.new-turn.ensures)

pub returns-in_err-turn : goal.returns-in_err-turn
returns-in_err-turn c =
    let a = c.args in
    let p = err_from_is_err_and c.from_residual.result c.from_residual.ensures.1 in
    rw (p.1, p.2) (outcome_refused a.slots a.script.now a.pool.now a.log.now _ (sym (ap (λ (t : Turn). t.answer) c.new-turn.ensures) ∙ c.in_err-turn.was))

pub returns : goal.returns
returns c =
    let a = c.args in
    let fresh = fresh_bounds a.slots _ (sym (ap (λ (t : Turn). t.answer) c.new-turn.ensures) ∙ c.in_ok-turn.was) in
    c.play.ensures ∙ outcome_played a.slots a.script.now a.pool.now a.log.now fresh

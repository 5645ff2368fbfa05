-- `version3::give_out` meets its contract. Assumes nothing.
use mathlib.Core.Path.{ap, ◌∙◌}
use Rattle.std.proofs.lemmas.Result.{err_from_is_err_and}
use Rattle.reader.specs.Outcome.{Verdict}
use Rattle.version3.specs.Outcome.{give_by, give_outcome}
use Rattle.version3.proofs.give_out.Goals as goal

pub returns-in_err-judge : goal.returns-in_err-judge
unfolding give_outcome
returns-in_err-judge c =
    let p = err_from_is_err_and c.from_residual.result c.from_residual.ensures.1 in
    rw (p.1, p.2) (ap (λ (r : Verdict). give_by r c.args.input.now c.args.out.now) c.in_err-judge.ensures)

pub returns : goal.returns
unfolding give_outcome
returns c = c.convert.ensures ∙ ap (λ (r : Verdict). give_by r c.args.input.now c.args.out.now) c.in_ok-judge.ensures

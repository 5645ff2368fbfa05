-- `folder::fold_styled` meets its contract. Assumes nothing.
use mathlib.Core.Path.{sym, ap, ◌∙◌}
use Rattle.std.proofs.lemmas.Result.{err_from_is_err_and}
use Rattle.reader.specs.Outcome.{Verdict}
use Rattle.folder.specs.Outcome.{fold_by, fold_in}
use Rattle.folder.proofs.Accepted.{accepted}
use Rattle.folder.proofs.fold_styled.Goals as goal

pub returns-in_err-judge_as : goal.returns-in_err-judge_as
unfolding fold_in fold_by
returns-in_err-judge_as c =
    let a = c.args in
    let p = err_from_is_err_and c.from_residual.result c.from_residual.ensures.1 in
    rw (p.1, p.2) (sym (ap (λ (r : Verdict). fold_by a.style r a.input.now a.out.now) (sym c.in_err-judge_as.ensures)))

pub fold_text-requires : goal.fold_text-requires
fold_text-requires c = accepted _ _ _ _ (sym c.in_ok-judge_as.ensures)

pub returns : goal.returns
unfolding fold_in fold_by
returns c =
    let a = c.args in
    c.fold_text.ensures ∙ sym (ap (λ (r : Verdict). fold_by a.style r a.input.now a.out.now) (sym c.in_ok-judge_as.ensures))

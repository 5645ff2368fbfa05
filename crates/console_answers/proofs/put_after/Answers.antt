-- `console_answers::put_after` meets its contract. Assumes nothing.
use mathlib.Core.List.{[], ◌∷◌}
use Rattle.program_output.specs.Pages.{page}
use Rattle.program_output.specs.Digits.{decimal}
use Rattle.program_output.proofs.PageLaws.{then}
use Rattle.console_answers.proofs.put_after.Goals as goal

pub returns : goal.returns
returns c =
    let put-number = c.put_number in
    let put = c.put-end in
    let a = c.args in
    then (a.mark ∷ []) (decimal a.n) (page a.at a.out.now) put.ensures put-number.ensures

-- `console_answers::put_spaced_octets` meets its contract. Assumes nothing.
use mathlib.Core.List.{[], ◌∷◌}
use Rattle.program_output.specs.Pages.{page}
use Rattle.console_answers.specs.Texts.{octets_word}
use Rattle.program_output.proofs.PageLaws.{then}
use Rattle.console_answers.proofs.put_spaced_octets.Goals as goal

pub returns : goal.returns
returns c =
    let put-octets = c.put_octets in
    let put = c.put-end in
    let a = c.args in
    then (32 ∷ []) (octets_word a.s.now) (page a.at a.out.now) put.ensures put-octets.ensures

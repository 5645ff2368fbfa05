-- `program_output::digits::put_number` meets its contract. Assumes nothing.
use Rattle.program_output.specs.Digits.{decimal}
use Rattle.program_output.proofs.digits.put_number.Goals as goal

pub returns : goal.returns
unfolding decimal
returns c = c.put_digits.ensures

-- `console_desk::Console::end_line` meets its contract. Assumes nothing.
use mathlib.Core.Path.{ap, ◌∙◌}
use Rattle.console_desk.specs.declared.Console.{Console}
use Rattle.console_desk.specs.DeskAnswers.{state, state_of}
use Rattle.console_desk.proofs.Console.end_line.Goals as goal

pub returns : goal.returns
returns c = ap (λ (x : Console). state_of x c.put_end-at.new.out) c.with_output.ensures ∙ ap (state c.args.self.desk c.args.self.size) c.put_end-at.ensures

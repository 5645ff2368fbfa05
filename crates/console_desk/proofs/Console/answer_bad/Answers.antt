-- `console_desk::Console::answer_bad` meets its contract. Assumes nothing.
use mathlib.Core.Path.{ap, ◌∙◌}
use Rattle.console_desk.specs.declared.Console.{Console}
use Rattle.console_desk.specs.DeskAnswers.{state, state_of}
use Rattle.console_desk.proofs.Console.answer_bad.Goals as goal

pub returns : goal.returns
returns c =
    let put-bad = c.put_bad-at in
    let a = c.args in
    ap (λ (x : Console). state_of x put-bad.new.out) c.with_output.ensures ∙ ap (state a.self.desk a.self.size) put-bad.ensures

-- `console_watch::Session::with_output` meets its contract. Assumes nothing.
use mathlib.Core.Path.{ap, ◌∙◌}
use Rattle.console_desk.specs.declared.Console.{Console}
use Rattle.console_report.specs.ReportAnswers.{besides}
use Rattle.console_report.specs.declared.Kept.{Kept}
use Rattle.console_watch.specs.WatchAnswers.{session}
use Rattle.console_watch.proofs.Session.with_output.Goals as goal

pub returns : goal.returns
returns c =
    let a = c.args in
    c.with_kept.ensures
    ∙ ap (λ (k : Kept). session k a.self.watch a.self.size) (c.with_console.ensures ∙ ap (λ (x : Console). besides x a.self.kept.report) c.with_output.ensures)

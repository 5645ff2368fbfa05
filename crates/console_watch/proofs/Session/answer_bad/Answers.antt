-- `console_watch::Session::answer_bad` meets its contract. Assumes nothing.
use Rattle.console_answers.specs.Texts.{bad_line}
use Rattle.console_watch.proofs.WatchLaws.{says_all_lem}
use Rattle.console_watch.proofs.Session.answer_bad.Goals as goal

pub returns : goal.returns
returns c =
    let a = c.args in
    says_all_lem a.self a.out.now bad_line c.with_output.ensures (rw (← c.at.ensures) c.put_bad-at.ensures)

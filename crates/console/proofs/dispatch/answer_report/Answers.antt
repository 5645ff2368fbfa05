-- `console::dispatch::answer_report` meets its contract. Assumes nothing.
use Rattle.console.specs.Dispatch.{report_turn}
use Rattle.console.proofs.dispatch.answer_report.Goals as goal

pub returns-in-Report : goal.returns-in-Report
unfolding report_turn
returns-in-Report c = rw c.in-Report.is c.answer_fresh.ensures

pub returns-in-Take : goal.returns-in-Take
unfolding report_turn
returns-in-Take c = rw c.in-Take.is c.answer_take.ensures

pub returns-in-Print : goal.returns-in-Print
unfolding report_turn
returns-in-Print c = rw c.in-Print.is c.answer_print.ensures

pub returns-in-Count : goal.returns-in-Count
unfolding report_turn
returns-in-Count c = rw c.in-Count.is c.answer_count.ensures

-- `console_report::place_of` meets its contract. Assumes nothing.
use borrow.Author.Tests.{lt-ltb, le-ltb}
use Rattle.console_report.specs.ReportAnswers.{place_named}
use Rattle.console_report.proofs.place_of.Goals as goal

pub returns-then-which-lt5 : goal.returns-then-which-lt5
unfolding place_named
returns-then-which-lt5 c = rw (lt-ltb _ _ c.if-which-lt5.true)

pub returns-then-which-lt101 : goal.returns-then-which-lt101
unfolding place_named
returns-then-which-lt101 c = rw (le-ltb _ _ c.if-which-lt5.false, lt-ltb _ _ c.if-which-lt101.true)

pub returns-then-which-lt106 : goal.returns-then-which-lt106
unfolding place_named
returns-then-which-lt106 c = rw (le-ltb _ _ c.if-which-lt5.false, le-ltb _ _ c.if-which-lt101.false, lt-ltb _ _ c.if-which-lt106.true)

pub returns-then-which-lt107 : goal.returns-then-which-lt107
unfolding place_named
returns-then-which-lt107 c = rw (le-ltb _ _ c.if-which-lt5.false, le-ltb _ _ c.if-which-lt101.false, le-ltb _ _ c.if-which-lt106.false, lt-ltb _ _ c.if-which-lt107.true)

pub returns-then-which-lt113 : goal.returns-then-which-lt113
unfolding place_named
returns-then-which-lt113 c = rw (le-ltb _ _ c.if-which-lt5.false, le-ltb _ _ c.if-which-lt101.false, le-ltb _ _ c.if-which-lt106.false, le-ltb _ _ c.if-which-lt107.false, lt-ltb _ _ c.if-which-lt113.true)

pub returns : goal.returns
unfolding place_named
returns c = rw (le-ltb _ _ c.if-which-lt5.false, le-ltb _ _ c.if-which-lt101.false, le-ltb _ _ c.if-which-lt106.false, le-ltb _ _ c.if-which-lt107.false, le-ltb _ _ c.if-which-lt113.false) c.place_past.ensures

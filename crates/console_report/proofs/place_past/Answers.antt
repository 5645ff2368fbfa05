-- `console_report::place_past` meets its contract. Assumes nothing.
use borrow.Author.Tests.{lt-ltb, le-ltb}
use Rattle.console_report.specs.ReportAnswers.{place_past}
use Rattle.console_report.proofs.place_past.Goals as goal

pub returns-then-which-lt140 : goal.returns-then-which-lt140
unfolding place_past
returns-then-which-lt140 c = rw (lt-ltb _ _ c.if-which-lt140.true)

pub returns-then-which-lt144 : goal.returns-then-which-lt144
unfolding place_past
returns-then-which-lt144 c = rw (le-ltb _ _ c.if-which-lt140.false, lt-ltb _ _ c.if-which-lt144.true)

pub returns-then-which-lt200 : goal.returns-then-which-lt200
unfolding place_past
returns-then-which-lt200 c = rw (le-ltb _ _ c.if-which-lt140.false, le-ltb _ _ c.if-which-lt144.false, lt-ltb _ _ c.if-which-lt200.true)

pub returns-then-which-lt239 : goal.returns-then-which-lt239
unfolding place_past
returns-then-which-lt239 c = rw (le-ltb _ _ c.if-which-lt140.false, le-ltb _ _ c.if-which-lt144.false, le-ltb _ _ c.if-which-lt200.false, lt-ltb _ _ c.if-which-lt239.true)

pub returns : goal.returns
unfolding place_past
returns c = rw (le-ltb _ _ c.if-which-lt140.false, le-ltb _ _ c.if-which-lt144.false, le-ltb _ _ c.if-which-lt200.false, le-ltb _ _ c.if-which-lt239.false)

-- `console_entries::entries::put_chosen_answer` meets its contract. Assumes nothing.
use borrow.Author.Tests.{eq-eqb, ne_eqb}
use Rattle.console_entries.specs.Entries.{chosen_answer}
use Rattle.console_entries.proofs.entries.put_chosen_answer.Goals as goal

pub returns-then-which-eq0 : goal.returns-then-which-eq0
unfolding chosen_answer
returns-then-which-eq0 c = rw (eq-eqb _ _ c.if-which-eq0.true) c.put_write_answer.ensures

pub returns-then-which-eq1 : goal.returns-then-which-eq1
unfolding chosen_answer
returns-then-which-eq1 c = rw (ne_eqb _ _ c.if-which-eq0.false, eq-eqb _ _ c.if-which-eq1.true) c.put_write_answer-then-which-eq1.ensures

pub returns : goal.returns
unfolding chosen_answer
returns c = rw (ne_eqb _ _ c.if-which-eq0.false, ne_eqb _ _ c.if-which-eq1.false) c.put_bad.ensures

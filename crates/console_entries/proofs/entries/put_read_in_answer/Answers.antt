-- `console_entries::entries::put_read_in_answer` meets its contract. Assumes nothing.
use borrow.Author.Tests.{eq-eqb, ne_eqb}
use Rattle.console_entries.specs.Entries.{read_in_answer}
use Rattle.console_entries.proofs.entries.put_read_in_answer.Goals as goal

pub returns-then-edition-eq-FIRST_EDITION : goal.returns-then-edition-eq-FIRST_EDITION
unfolding read_in_answer
returns-then-edition-eq-FIRST_EDITION c = rw (eq-eqb _ _ c.if-edition-eq-FIRST_EDITION.true) c.put_read_answer.ensures

pub returns-then-edition-eq-SECOND_EDITION : goal.returns-then-edition-eq-SECOND_EDITION
unfolding read_in_answer
returns-then-edition-eq-SECOND_EDITION c = rw (ne_eqb _ _ c.if-edition-eq-FIRST_EDITION.false, eq-eqb _ _ c.if-edition-eq-SECOND_EDITION.true) c.put_read_answer-then-edition-eq-SECOND_EDITION.ensures

pub returns : goal.returns
unfolding read_in_answer
returns c = rw (ne_eqb _ _ c.if-edition-eq-FIRST_EDITION.false, ne_eqb _ _ c.if-edition-eq-SECOND_EDITION.false) c.put_bad.ensures

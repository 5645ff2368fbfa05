-- `cabbook_tables::uploads::status_of` meets its contract. Assumes nothing.
use native.Mathlib.Omega.{arith}
use borrow.Author.Tests.{lt-ltb, le-ltb}
use Rattle.cabbook_tables.proofs.uploads.status_of.Goals as goal

pub returns-then-unread-gt0 : goal.returns-then-unread-gt0
returns-then-unread-gt0 c = record { value = rw (lt-ltb _ _ c.if-unread-gt0.true); upper_bound = omega arith }

pub returns-then-refused-gt0 : goal.returns-then-refused-gt0
returns-then-refused-gt0 c = record { value = rw (le-ltb _ _ c.if-unread-gt0.false, lt-ltb _ _ c.if-refused-gt0.true); upper_bound = omega arith }

pub returns-then-differing-gt0 : goal.returns-then-differing-gt0
returns-then-differing-gt0 c = record { value = rw (le-ltb _ _ c.if-unread-gt0.false, le-ltb _ _ c.if-refused-gt0.false, lt-ltb _ _ c.if-differing-gt0.true); upper_bound = omega arith }

pub returns : goal.returns
returns c = record { value = rw (le-ltb _ _ c.if-unread-gt0.false, le-ltb _ _ c.if-refused-gt0.false, le-ltb _ _ c.if-differing-gt0.false); upper_bound = omega arith }

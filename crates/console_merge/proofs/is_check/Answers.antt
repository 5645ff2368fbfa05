-- `console_merge::is_check` meets its contract. Assumes nothing.
use mathlib.Core.Bool.{false≢true}
use native.Mathlib.Omega.{arith}
use borrow.Author.Tests.{lt-ltb, le-ltb}
use Rattle.console_merge.specs.MergeAnswers.{is_check}
use Rattle.console_merge.proofs.is_check.Goals as goal

pub returns-then-s-gt-OCTETS : goal.returns-then-s-gt-OCTETS
unfolding is_check
returns-then-s-gt-OCTETS c = record { value = rw (lt-ltb _ _ c.if-s-gt-OCTETS.true); s_len_bound = λ e. absurd (false≢true e) }

pub returns-then-holds_edits : goal.returns-then-holds_edits
unfolding is_check
returns-then-holds_edits c = record { value = rw (le-ltb _ _ c.if-s-gt-OCTETS.false, ← c.holds_edits.ensures, c.if-holds_edits.true, ← c.part_of.ensures.result_value) c.is_whole.ensures; s_len_bound = λ e. omega arith }

pub returns : goal.returns
unfolding is_check
returns c = record { value = rw (le-ltb _ _ c.if-s-gt-OCTETS.false, ← c.holds_edits.ensures, c.if-holds_edits.false); s_len_bound = λ e. omega arith }

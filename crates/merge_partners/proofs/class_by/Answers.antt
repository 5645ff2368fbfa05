-- `merge_partners::class_by` meets its contract. Assumes nothing.
use borrow.Author.Tests.{lt-ltb, le-ltb}
use mathlib.Core.Path.{sym, ◌∙◌}
use Rattle.merge_partners.specs.Keys.{class_by}
use Rattle.merge_partners.proofs.class_by.Goals as goal

pub returns-in_default : goal.returns-in_default
unfolding class_by
returns-in_default c = rw (sym c.search.ensures ∙ c.in_default.is)

pub returns-then-i-ge-SOURCES : goal.returns-then-i-ge-SOURCES
unfolding class_by
returns-then-i-ge-SOURCES c = rw (sym c.search.ensures ∙ c.in-Some.is, le-ltb _ 16 c.if-i-ge-SOURCES.true)

pub returns : goal.returns
unfolding class_by
returns c = rw (sym c.search.ensures ∙ c.in-Some.is, lt-ltb _ 16 c.if-i-ge-SOURCES.false)

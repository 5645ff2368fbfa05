-- `merge::is_over` meets its contract. Assumes nothing.
use borrow.Author.Tests.{eq-eqb, ne_eqb, lt-ltb, le-ltb}
use mathlib.Core.Path.{sym, ◌∙◌}
use Rattle.merge.specs.Sides.{over_side}
use Rattle.merge.proofs.is_over.Goals as goal

pub returns-then-cards-ne1 : goal.returns-then-cards-ne1
unfolding over_side
returns-then-cards-ne1 c = rw (ne_eqb c.args.cards 1 c.if-cards-ne1.true)

pub returns-then-lent-gt-SOURCES : goal.returns-then-lent-gt-SOURCES
unfolding over_side
returns-then-lent-gt-SOURCES c = rw (eq-eqb c.args.cards 1 c.if-cards-ne1.false, lt-ltb 16 c.args.lent c.if-lent-gt-SOURCES.true)

pub returns-then-own-gt-SOURCES : goal.returns-then-own-gt-SOURCES
unfolding over_side
returns-then-own-gt-SOURCES c = rw (eq-eqb c.args.cards 1 c.if-cards-ne1.false, le-ltb 16 c.args.lent c.if-lent-gt-SOURCES.false, lt-ltb 16 c.args.own.count c.if-own-gt-SOURCES.true)

pub returns-then-over_entries : goal.returns-then-over_entries
unfolding over_side
returns-then-over_entries c = rw (eq-eqb c.args.cards 1 c.if-cards-ne1.false, le-ltb 16 c.args.lent c.if-lent-gt-SOURCES.false, le-ltb 16 c.args.own.count c.if-own-gt-SOURCES.false, sym c.over_entries.ensures ∙ c.if-over_entries.true)

pub returns : goal.returns
unfolding over_side
returns c = rw (eq-eqb c.args.cards 1 c.if-cards-ne1.false, le-ltb 16 c.args.lent c.if-lent-gt-SOURCES.false, le-ltb 16 c.args.own.count c.if-own-gt-SOURCES.false, sym c.over_entries.ensures ∙ c.if-over_entries.false) c.over_marks.ensures

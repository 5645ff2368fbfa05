-- `merge_partners::is_new` meets its contract. Assumes nothing.
use borrow.Author.Tests.{eq-eqb, ne_eqb}
use Rattle.merge_partners.specs.Heads.{is_new}
use Rattle.merge_partners.proofs.is_new.Goals as goal

pub returns-then-tag-own : goal.returns-then-tag-own
unfolding is_new
returns-then-tag-own c = rw (eq-eqb c.args.tag c.args.own c.if-tag-own.true)

pub returns-else-tag-own : goal.returns-else-tag-own
unfolding is_new
returns-else-tag-own c = rw (ne_eqb c.args.tag c.args.own c.if-tag-own.false)

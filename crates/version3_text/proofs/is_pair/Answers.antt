-- `version3_text::is_pair` meets its contract. Assumes nothing.
use mathlib.Core.Path.{◌∙◌}
use borrow.Author.Tests.{ne_eqb}
use Rattle.version3_text.proofs.RenewLaws.{pair_not, pair_by}
use Rattle.version3_text.proofs.is_pair.Goals as goal

pub returns-then-s-i-eq92 : goal.returns-then-s-i-eq92
returns-then-s-i-eq92 c = pair_by c.args.s.now c.args.i c.if-s-i-eq92.true

pub returns-else-s-i-eq92 : goal.returns-else-s-i-eq92
returns-else-s-i-eq92 c = ne_eqb _ 92 c.if-s-i-eq92.false ∙ pair_not c.args.s.now c.args.i c.if-s-i-eq92.false

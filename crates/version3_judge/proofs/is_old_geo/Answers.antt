-- src/lib.rt:189:9
use mathlib.Core.Path.{sym, ◌∙◌}
use borrow.Author.Tests.{eq-eqb, ne_eqb}
use Rattle.version3_judge.proofs.is_old_geo.Goals as goal

pub returns-then-kind-eq-TEXT : goal.returns-then-kind-eq-TEXT
returns-then-kind-eq-TEXT c = sym (rw (eq-eqb c.args.kind 1 c.if-kind-eq-TEXT.true))

-- src/lib.rt:185:1
pub returns : goal.returns
returns c = c.is_old.ensures ∙ sym (rw (ne_eqb c.args.kind 1 c.if-kind-eq-TEXT.false))

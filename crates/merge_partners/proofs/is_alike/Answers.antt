-- `merge_partners::is_alike` meets its contract. Assumes nothing.
use mathlib.Core.Path.{sym, ◌∙◌}
use Rattle.merge_partners.proofs.HeadLaws.{digests_apart}
use Rattle.merge_partners.proofs.is_alike.Goals as goal

pub returns-then-d-e : goal.returns-then-d-e
returns-then-d-e c = sym (digests_apart c.args.x.now.copy.now c.args.x.now.records.now c.args.i c.args.y.now.copy.now c.args.y.now.records.now c.args.j (λ e. c.if-d-e.true (c.requires.0 ∙ e ∙ sym c.requires.1)))

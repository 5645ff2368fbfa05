-- `merge_partners::key_at` meets its contract. Assumes nothing.
use mathlib.Core.Path.{ap, ◌∙◌}
use Prim.Native.Nat.{ℕ}
use Rattle.merge_partners.specs.Keys.{number_at, key_of, key_at}
use Rattle.merge_partners.proofs.key_at.Goals as goal

pub returns : goal.returns
unfolding key_at
returns c = c.key_of.ensures ∙ ap (λ (f : ℕ). key_of c.args.own c.args.classes.now f c.number_of-source.result) c.number_of-first.ensures ∙ ap (key_of c.args.own c.args.classes.now (number_at c.args.marks.now c.args.k 1)) c.number_of-source.ensures

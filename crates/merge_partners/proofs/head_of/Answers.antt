-- `merge_partners::head_of` meets its contract. Assumes nothing.
use mathlib.Core.Path.{sym, ap, ◌∙◌}
use native.Mathlib.Nat.{sub-zero}
use lib.ListN.{length}
use Rattle.merge_partners.specs.Heads.{head_from}
use Rattle.merge_partners.proofs.HeadLaws.{head_here, head_turn, head_over}
use Rattle.merge_partners.proofs.head_of.Goals as goal

pub loop-i-init : goal.loop-i-init
loop-i-init c = (ap (head_from c.args.x.now.copy.now c.args.x.now.records.now c.args.y.now.copy.now c.args.y.now.records.now c.args.j 0) (sym (sub-zero (length c.args.digests.now))))

pub is_alike-requires : goal.is_alike-requires
is_alike-requires c = (c.requires c.loop-i.i c.loop-i-test.true, c.digest_of-digest.ensures)

pub returns-then-is_alike : goal.returns-then-is_alike
returns-then-is_alike c = sym (c.loop-i.invariant ∙ head_here c.args.x.now.copy.now c.args.x.now.records.now c.args.y.now.copy.now c.args.y.now.records.now c.args.j (length c.args.digests.now) c.loop-i.i c.loop-i-test.true (sym c.is_alike.ensures ∙ c.if-is_alike.true))

pub loop-i-preserved : goal.loop-i-preserved
loop-i-preserved c = (c.loop-i.invariant ∙ head_turn c.args.x.now.copy.now c.args.x.now.records.now c.args.y.now.copy.now c.args.y.now.records.now c.args.j (length c.args.digests.now) c.loop-i.i c.loop-i-test.true (sym c.is_alike.ensures ∙ c.if-is_alike.false))

pub returns : goal.returns
returns c = sym (c.loop-i.invariant ∙ head_over c.args.x.now.copy.now c.args.x.now.records.now c.args.y.now.copy.now c.args.y.now.records.now c.args.j (length c.args.digests.now) c.loop-i.i c.loop-i-test.false)

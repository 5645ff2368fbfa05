-- `merge_partners::digest_name` meets its contract. Assumes nothing.
use mathlib.Core.Path.{refl, sym, ap, ◌∙◌}
use Prim.Native.Nat.{ℕ, ◌+◌}
use native.Mathlib.Omega.{arith}
use lib.ListN.{drop}
use Rattle.merge_partners.specs.Heads.{digest_from}
use Rattle.merge_partners.proofs.HeadLaws.{digest_turn, digest_end}
use Rattle.merge_partners.proofs.digest_name.Goals as goal

pub loop-b-init : goal.loop-b-init
loop-b-init c = (omega arith, refl)

pub append_octet-digest-requires : goal.append_octet-digest-requires
append_octet-digest-requires c = c.loop-b.invariant.0

pub loop-b-preserved : goal.loop-b-preserved
loop-b-preserved c = (c.append_octet-digest.ensures.upper_bound, c.loop-b.invariant.1 ∙ digest_turn c.args.s.now c.loop-b.digest c.loop-b.b-index c.loop-b-test.true ∙ ap (λ (d : ℕ). digest_from d (drop (c.loop-b.b-index + 1) c.args.s.now)) (sym c.append_octet-digest.ensures.value))

pub returns : goal.returns
returns c = sym (c.loop-b.invariant.1 ∙ digest_end c.args.s.now c.loop-b.digest c.loop-b.b-index c.loop-b-test.false)

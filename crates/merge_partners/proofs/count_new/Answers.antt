-- `merge_partners::count_new` meets its contract. Assumes nothing.
use mathlib.Core.Path.{sym, ap, ◌∙◌}
use Prim.Native.Nat.{◌-◌}
use native.Mathlib.Nat.{sub-zero, zero-add}
use native.Mathlib.Omega.{arith}
use lib.ListN.{length}
use Rattle.merge_partners.specs.Heads.{count_new}
use Rattle.merge_partners.proofs.WalkLaws.{counted, new_turn, new_over}
use Rattle.merge_partners.proofs.count_new.Goals as goal

pub loop-k-init : goal.loop-k-init
loop-k-init c = (omega arith, ap (count_new c.args.tags.now c.args.seats.now c.args.own c.args.partner 0) (sym (sub-zero (length c.args.tags.now))) ∙ sym (zero-add (count_new c.args.tags.now c.args.seats.now c.args.own c.args.partner 0 (length c.args.tags.now - 0))))

pub bounds-seats-k : goal.bounds-seats-k
bounds-seats-k c = omega (arith, c.loop-k-test.true, c.requires.0)

pub overflow_add-hits : goal.overflow_add-hits
overflow_add-hits c = omega (arith, c.loop-k.invariant.0, (counted _ _ _ c.from-hits.ensures c.is_new.ensures).1, c.loop-k-test.true, c.requires.1)

pub loop-k-preserved : goal.loop-k-preserved
loop-k-preserved c = (omega (arith, c.loop-k.invariant.0, (counted _ _ _ c.from-hits.ensures c.is_new.ensures).1), omega (arith, c.loop-k.invariant.1, (counted _ _ _ c.from-hits.ensures c.is_new.ensures).0, new_turn c.args.tags.now c.args.seats.now c.args.own c.args.partner (length c.args.tags.now) c.loop-k.k c.loop-k-test.true))

pub returns : goal.returns
returns c = omega (arith, c.loop-k.invariant.1, new_over c.args.tags.now c.args.seats.now c.args.own c.args.partner (length c.args.tags.now) c.loop-k.k c.loop-k-test.false)

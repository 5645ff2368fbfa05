-- `replay_call::run_call` meets its contract. Assumes nothing.
use Prim.Native.Nat.{ℕ, ◌+◌, ◌-◌}
use mathlib.Core.Path.{ap, ◌∙◌}
use native.Mathlib.Omega.{arith}
use lib.ListN.{get_or, take, drop}
use Rattle.desk_pool.proofs.Patches.{part_size}
use Rattle.desk_ledger.specs.Ledger.{Out}
use Rattle.desk_ledger.specs.Desks.{World}
use Rattle.replay_script.specs.Scripts.{call_of}
use Rattle.replay_call.specs.Stepped.{world_of}
use Rattle.replay_script.proofs.ScriptLaws.{needed_add, needed_open, whole}
use Rattle.replay_call.proofs.CallLaws.{step_query, open_acts, add_acts, release_acts, acts_steps, query_steps}
use Rattle.replay_call.proofs.run_call.Goals as goal

pub bounds-s-0 : goal.bounds-s-0
bounds-s-0 c = let v = whole c.args.s.now c.requires.bound in omega (arith, v.five)

pub read_four-n-requires : goal.read_four-n-requires
read_four-n-requires c = let v = whole c.args.s.now c.requires.bound in omega (arith, v.five)

pub read_four-tick-requires : goal.read_four-tick-requires
read_four-tick-requires c =
    let v = whole c.args.s.now c.requires.bound in
    let e = needed_open c.args.s.now c.if-b-eq-OPEN.true in omega (arith, v.fits)

pub put_turn-requires : goal.put_turn-requires
put_turn-requires c =
    let a = c.args in
    let o = open_acts (world_of a.desk a.pool.now) a.s.now c.read_four-n.result c.read_four-n.ensures c.open.result c.open.new.pool c.read_four-tick.result c.if-b-eq-OPEN.true c.read_four-tick.ensures c.open.ensures in
    rw o.reply at c.requires.s_in_bounds

pub returns-then-b-eq-OPEN : goal.returns-then-b-eq-OPEN
returns-then-b-eq-OPEN c =
    let a = c.args in
    let o = open_acts (world_of a.desk a.pool.now) a.s.now c.read_four-n.result c.read_four-n.ensures c.open.result c.open.new.pool c.read_four-tick.result c.if-b-eq-OPEN.true c.read_four-tick.ensures c.open.ensures in
    let t = c.put_turn.ensures in acts_steps o t.0 t.1

pub read_four-tick-requires-then-b-eq-ADD : goal.read_four-tick-requires-then-b-eq-ADD
read_four-tick-requires-then-b-eq-ADD c =
    let v = whole c.args.s.now c.requires.bound in
    let e = needed_add c.args.s.now c.if-b-eq-ADD.true in omega (arith, v.fits)

pub read_two-requires : goal.read_two-requires
read_two-requires c =
    let v = whole c.args.s.now c.requires.bound in
    let e = needed_add c.args.s.now c.if-b-eq-ADD.true in omega (arith, v.fits)

pub slice_bounds-add-end : goal.slice_bounds-add-end
slice_bounds-add-end c =
    let v = whole c.args.s.now c.requires.bound in
    let e = needed_add c.args.s.now c.if-b-eq-ADD.true in omega (arith, v.fits, c.read_two.ensures.0)

pub put_turn-requires-then-b-eq-ADD : goal.put_turn-requires-then-b-eq-ADD
put_turn-requires-then-b-eq-ADD c =
    let a = c.args in
    let h = c.read_two.ensures.0 in
    let o = add_acts (world_of a.desk a.pool.now) a.s.now c.read_four-n.result c.read_four-n.ensures c.add.result c.add.new.pool (take (11 + c.read_two.result - 11) (drop 11 a.s.now)) c.read_four-tick-then-b-eq-ADD.result c.if-b-eq-ADD.true (ap (λ (n : ℕ). take n (drop 11 a.s.now)) (part_size 11 c.read_two.result ∙ h)) c.read_four-tick-then-b-eq-ADD.ensures c.add.ensures in
    rw o.reply at c.requires.s_in_bounds

pub returns-then-b-eq-ADD : goal.returns-then-b-eq-ADD
returns-then-b-eq-ADD c =
    let a = c.args in
    let h = c.read_two.ensures.0 in
    let o = add_acts (world_of a.desk a.pool.now) a.s.now c.read_four-n.result c.read_four-n.ensures c.add.result c.add.new.pool (take (11 + c.read_two.result - 11) (drop 11 a.s.now)) c.read_four-tick-then-b-eq-ADD.result c.if-b-eq-ADD.true (ap (λ (n : ℕ). take n (drop 11 a.s.now)) (part_size 11 c.read_two.result ∙ h)) c.read_four-tick-then-b-eq-ADD.ensures c.add.ensures in
    let t = c.put_turn-then-b-eq-ADD.ensures in acts_steps o t.0 t.1

pub put_turn-requires-then-b-eq-RELEASE : goal.put_turn-requires-then-b-eq-RELEASE
put_turn-requires-then-b-eq-RELEASE c =
    let a = c.args in
    let o = release_acts (world_of a.desk a.pool.now) a.s.now c.read_four-n.result c.read_four-n.ensures c.release.result c.release.new.pool c.if-b-eq-RELEASE.true c.release.ensures in
    rw o.reply at c.requires.s_in_bounds

pub returns-then-b-eq-RELEASE : goal.returns-then-b-eq-RELEASE
returns-then-b-eq-RELEASE c =
    let a = c.args in
    let o = release_acts (world_of a.desk a.pool.now) a.s.now c.read_four-n.result c.read_four-n.ensures c.release.result c.release.new.pool c.if-b-eq-RELEASE.true c.release.ensures in
    let t = c.put_turn-then-b-eq-RELEASE.ensures in acts_steps o t.0 t.1

pub run_query-requires : goal.run_query-requires
run_query-requires c =
    let a = c.args in
    let q = step_query (world_of a.desk a.pool.now) a.s.now c.read_four-n.result c.read_four-n.ensures c.if-b-eq-OPEN.false c.if-b-eq-ADD.false c.if-b-eq-RELEASE.false in
    rw (ap (λ (o : Out World). o.reply) q) at c.requires.s_in_bounds

pub returns : goal.returns
returns c =
    let a = c.args in
    let q = step_query (world_of a.desk a.pool.now) a.s.now c.read_four-n.result c.read_four-n.ensures c.if-b-eq-OPEN.false c.if-b-eq-ADD.false c.if-b-eq-RELEASE.false in
    query_steps (world_of a.desk a.pool.now) (call_of a.s.now) c.read_four-n.result (get_or a.s.now 0 0) q _ _ _ c.run_query.ensures

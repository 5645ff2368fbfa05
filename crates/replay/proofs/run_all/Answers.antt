-- `replay::run_all` meets its contract. Assumes nothing.
use Prim.Native.Nat.{◌+◌, ◌-◌, ◌≤◌}
use mathlib.Core.Path.{◌≡◌, ap, ◌∙◌}
use native.Mathlib.Omega.{arith}
use lib.ListN.{length, drop, length-take, length-drop}
use borrow.Rule.Slice.PartMut.{put_mid}
use Rattle.replay_script.specs.Scripts.{width}
use Rattle.replay_call.specs.Stepped.{world_of}
use Rattle.replay_script.proofs.ScriptLaws.{tail_is}
use Rattle.replay.proofs.RunLaws.{Running, run_start, next_some, next_room, next, run_end}
use Rattle.replay.proofs.run_all.Goals as goal

pub loop-at-init : goal.loop-at-init
loop-at-init c =
    run_start _ _ _ _ c.requires.script_value

pub slice_bounds-run_call-count-in-loop-at : goal.slice_bounds-run_call-count-in-loop-at
slice_bounds-run_call-count-in-loop-at c =
    let l = c.loop-at in
    let s = c.args.script.now in
    let wide : c.width-w.result ≡ width (drop l.at s) = c.width-w.ensures ∙ ap width (tail_is s l.at) in
    let some : 1 ≤ width (drop l.at s) = next_some l.invariant c.loop-at-test.true in
    let roomy = next_room l.invariant c.loop-at-test.true c.requires.script_in_bounds in
    omega arith

pub slice_bounds-run_call-start-in-loop-at : goal.slice_bounds-run_call-start-in-loop-at
slice_bounds-run_call-start-in-loop-at c =
    let l = c.loop-at in
    let s = c.args.script.now in
    let wide : c.width-w.result ≡ width (drop l.at s) = c.width-w.ensures ∙ ap width (tail_is s l.at) in
    let some : 1 ≤ width (drop l.at s) = next_some l.invariant c.loop-at-test.true in
    let roomy = next_room l.invariant c.loop-at-test.true c.requires.script_in_bounds in
    omega arith

pub slice_bounds-run_call-end-in-loop-at : goal.slice_bounds-run_call-end-in-loop-at
slice_bounds-run_call-end-in-loop-at c =
    let l = c.loop-at in
    let s = c.args.script.now in
    let wide : c.width-w.result ≡ width (drop l.at s) = c.width-w.ensures ∙ ap width (tail_is s l.at) in
    let some : 1 ≤ width (drop l.at s) = next_some l.invariant c.loop-at-test.true in
    let roomy = next_room l.invariant c.loop-at-test.true c.requires.script_in_bounds in
    omega arith

pub run_call-r-requires : goal.run_call-r-requires
run_call-r-requires c =
    let l = c.loop-at in
    let s = c.args.script.now in
    let wide : c.width-w.result ≡ width (drop l.at s) = c.width-w.ensures ∙ ap width (tail_is s l.at) in
    let some : 1 ≤ width (drop l.at s) = next_some l.invariant c.loop-at-test.true in
    let roomy = next_room l.invariant c.loop-at-test.true c.requires.script_in_bounds in
    rw (tail_is s l.at) record { bound = some; s_in_bounds = simp (length-take, length-drop) (omega (arith, roomy)) }

pub overflow_add-to : goal.overflow_add-to
overflow_add-to c =
    let l = c.loop-at in
    let s = c.args.script.now in
    let wide : c.width-w.result ≡ width (drop l.at s) = c.width-w.ensures ∙ ap width (tail_is s l.at) in
    let some : 1 ≤ width (drop l.at s) = next_some l.invariant c.loop-at-test.true in
    let roomy = next_room l.invariant c.loop-at-test.true c.requires.script_in_bounds in
    let r = c.run_call-r in
    let step : Running (world_of c.args.desk c.args.pool.now) s c.args.log.now r.result.desk r.new.pool (put_mid l.to (length l.log - l.to) l.log r.new.log) (l.at + c.width-w.result) (l.to + r.result.wrote) =
    rw wide (next l.invariant c.loop-at-test.true c.requires.script_in_bounds r.result.desk r.new.pool r.new.log r.result.wrote r.auto.pool (rw (tail_is s l.at) at r.ensures)) in
    omega (arith, step.logged.inside, step.logged.same)

pub overflow_add-at : goal.overflow_add-at
overflow_add-at c =
    let l = c.loop-at in
    let s = c.args.script.now in
    let wide : c.width-w.result ≡ width (drop l.at s) = c.width-w.ensures ∙ ap width (tail_is s l.at) in
    let some : 1 ≤ width (drop l.at s) = next_some l.invariant c.loop-at-test.true in
    let roomy = next_room l.invariant c.loop-at-test.true c.requires.script_in_bounds in
    let r = c.run_call-r in
    let step : Running (world_of c.args.desk c.args.pool.now) s c.args.log.now r.result.desk r.new.pool (put_mid l.to (length l.log - l.to) l.log r.new.log) (l.at + c.width-w.result) (l.to + r.result.wrote) =
    rw wide (next l.invariant c.loop-at-test.true c.requires.script_in_bounds r.result.desk r.new.pool r.new.log r.result.wrote r.auto.pool (rw (tail_is s l.at) at r.ensures)) in
    omega (arith, step.inside)

pub loop-at-smaller : goal.loop-at-smaller
loop-at-smaller c =
    let l = c.loop-at in
    let s = c.args.script.now in
    let wide : c.width-w.result ≡ width (drop l.at s) = c.width-w.ensures ∙ ap width (tail_is s l.at) in
    let some : 1 ≤ width (drop l.at s) = next_some l.invariant c.loop-at-test.true in
    let roomy = next_room l.invariant c.loop-at-test.true c.requires.script_in_bounds in
    let r = c.run_call-r in
    let step : Running (world_of c.args.desk c.args.pool.now) s c.args.log.now r.result.desk r.new.pool (put_mid l.to (length l.log - l.to) l.log r.new.log) (l.at + c.width-w.result) (l.to + r.result.wrote) =
    rw wide (next l.invariant c.loop-at-test.true c.requires.script_in_bounds r.result.desk r.new.pool r.new.log r.result.wrote r.auto.pool (rw (tail_is s l.at) at r.ensures)) in
    omega (arith, step.inside)

pub loop-at-preserved : goal.loop-at-preserved
loop-at-preserved c =
    let l = c.loop-at in
    let s = c.args.script.now in
    let wide : c.width-w.result ≡ width (drop l.at s) = c.width-w.ensures ∙ ap width (tail_is s l.at) in
    let some : 1 ≤ width (drop l.at s) = next_some l.invariant c.loop-at-test.true in
    let roomy = next_room l.invariant c.loop-at-test.true c.requires.script_in_bounds in
    let r = c.run_call-r in
    let step : Running (world_of c.args.desk c.args.pool.now) s c.args.log.now r.result.desk r.new.pool (put_mid l.to (length l.log - l.to) l.log r.new.log) (l.at + c.width-w.result) (l.to + r.result.wrote) =
    rw wide (next l.invariant c.loop-at-test.true c.requires.script_in_bounds r.result.desk r.new.pool r.new.log r.result.wrote r.auto.pool (rw (tail_is s l.at) at r.ensures)) in
    step

pub shape_of-pool : goal.shape_of-pool
shape_of-pool c =
    c.loop-at.invariant.size

pub shape_of-log : goal.shape_of-log
shape_of-log c =
    c.loop-at.invariant.logged.same

pub returns : goal.returns
returns c =
    let e = run_end c.loop-at.invariant c.loop-at-test.false in
    record { pool_after = e.0; put = e.1 }

-- `octets::classes::span` meets its contract. Assumes nothing.
use Prim.Native.Nat.{◌<◌}
use mathlib.Core.Path.{sym, ◌∙◌}
use lib.ListN.{length, get_or}
use native.Mathlib.Omega.{arith}
use Rattle.octets.specs.Classes.{has}
use Rattle.octets.proofs.Runs.{run_stop, run_step, run_end, has_not, has_yes}
use Rattle.octets.proofs.classes.span.Goals as goal

pub overflow_cast-s : goal.overflow_cast-s
overflow_cast-s c = omega (arith, c.type_inv.s c.loop-i.i)

pub bounds-t-s : goal.bounds-t-s
bounds-t-s c = omega (arith, c.type_inv.s c.loop-i.i)

pub returns-then-t-s-eq0 : goal.returns-then-t-s-eq0
returns-then-t-s-eq0 c =
    let a = c.args in
    let i = c.loop-i.i in
    let lt : i < length a.s.now = omega arith in
    let byte : get_or a.s.now i 0 < 256 = omega (arith, c.type_inv.s i) in
    let no = has_not a.t.now a.mask (get_or a.s.now i 0) c.requires.classes byte c.if-t-s-eq0.true in
    record { value = sym (c.loop-i.invariant.1 ∙ run_stop (has a.mask) a.s.now i lt no); upper_bound = omega arith }

pub loop-i-preserved : goal.loop-i-preserved
loop-i-preserved c =
    let a = c.args in
    let i = c.loop-i.i in
    let lt : i < length a.s.now = omega arith in
    let byte : get_or a.s.now i 0 < 256 = omega (arith, c.type_inv.s i) in
    let yes = has_yes a.t.now a.mask (get_or a.s.now i 0) c.requires.classes byte c.if-t-s-eq0.false in
    (omega arith, c.loop-i.invariant.1 ∙ run_step (has a.mask) a.s.now i lt yes)

pub returns : goal.returns
returns c =
    let a = c.args in
    record { value = sym (c.loop-i.invariant.1 ∙ run_end (has a.mask) a.s.now c.loop-i.i c.loop-i-test.false); upper_bound = omega arith }

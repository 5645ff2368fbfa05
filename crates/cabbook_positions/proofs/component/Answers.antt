-- `cabbook_positions::component` meets its contract. Assumes nothing.
use mathlib.Core.Path.{sym, ◌∙◌}
use native.Mathlib.Omega.{arith}
use native.Mathlib.Nat.{zero-add}
use Rattle.octets.proofs.Scans.{scan_stop, scan_step, scan_end}
use Rattle.cabbook_positions.specs.Components.{bare_step, bare_length}
use Rattle.cabbook_positions.proofs.component.Goals as goal

pub loop-i-init : goal.loop-i-init
unfolding bare_length
loop-i-init c = (omega arith, zero-add _)

pub returns-then-n-eq0 : goal.returns-then-n-eq0
returns-then-n-eq0 c =
    let f = bare_step c.args.semicolons in
    let l = c.loop-i in
    (sym (sym l.invariant.1 ∙ scan_stop f c.args.s.now l.i (sym c.bare_step-n.ensures.0 ∙ c.if-n-eq0.true)), omega arith)

pub loop-i-smaller : goal.loop-i-smaller
loop-i-smaller c = omega arith

pub loop-i-preserved : goal.loop-i-preserved
loop-i-preserved c =
    let f = bare_step c.args.semicolons in
    let l = c.loop-i in
    let s = c.args.s.now in
    (omega arith, sym (scan_step f s l.i _ (sym c.bare_step-n.ensures.0) (omega arith) c.bare_step-n.ensures.1) ∙ l.invariant.1)

pub returns : goal.returns
returns c =
    let f = bare_step c.args.semicolons in
    let l = c.loop-i in
    (sym (sym l.invariant.1 ∙ scan_end f c.args.s.now l.i c.loop-i-test.false), omega arith)

-- `folder_raising::is_raised` meets its contract. Assumes nothing.
use native.Mathlib.Omega.{arith}
use Rattle.folder_raising.specs.Walk.{raised}
use Rattle.folder_raising.proofs.KeptLaws.{kept_end, kept_colon, kept_equals, kept_name}
use Rattle.folder_raising.proofs.is_raised.Goals as goal

pub loop-i-init : goal.loop-i-init
unfolding raised
loop-i-init c = (omega arith, λ q. q)

pub returns-then-b-eq58 : goal.returns-then-b-eq58
returns-then-b-eq58 c =
    let l = c.loop-i in
    λ _. l.invariant.1 (kept_colon _ l.i (omega arith) c.if-b-eq58.true)

pub loop-i-preserved-then-b-eq61 : goal.loop-i-preserved-then-b-eq61
loop-i-preserved-then-b-eq61 c =
    let l = c.loop-i in
    let v = c.pass_values-i in
    (v.ensures.1, λ q. l.invariant.1 (kept_equals _ l.i (omega arith) c.if-b-eq61.true (v.ensures.2 q)))

pub loop-i-preserved : goal.loop-i-preserved
loop-i-preserved c =
    let l = c.loop-i in
    (omega arith, λ q. l.invariant.1 (kept_name _ l.i (omega arith) (omega arith) c.if-b-eq58.false c.if-b-eq61.false q))

pub returns : goal.returns
returns c =
    let l = c.loop-i in
    λ _. l.invariant.1 (kept_end _ l.i _ c.loop-i-test.false)

-- `octets::copying::copy_in` meets its contract. Assumes nothing.
use mathlib.Core.Path.{refl}
use native.Mathlib.Omega.{arith}
use lib.ListN.{length-set}
use borrow.Author.Rules.{rules}
use Rattle.octets.proofs.Copies.{copy_step, copy_done}
use Rattle.octets.proofs.copying.copy_in.Goals as goal

pub loop-i-init : goal.loop-i-init
loop-i-init c = (search rules, refl, refl)

pub loop-i-preserved : goal.loop-i-preserved
loop-i-preserved c =
    let a = c.args in
    let l = c.loop-i in
    (omega arith, simp length-set l.invariant.1, copy_step a.dst.now a.src.now l.dst l.i (omega arith) (omega arith) l.invariant.2)

pub shape_of-dst : goal.shape_of-dst
shape_of-dst c = c.loop-i.invariant.1

pub returns : goal.returns
returns c =
    let a = c.args in
    let l = c.loop-i in
    copy_done a.dst.now a.src.now l.dst l.i (omega arith) (omega arith) l.invariant.2

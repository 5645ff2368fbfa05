-- `replay_script::numerals::put_four` meets its contract. Assumes nothing.
use native.Mathlib.Omega.{arith}
use lib.ListN.{length-set}
use Rattle.replay_script.proofs.NumeralLaws.{four_stores}
use Rattle.replay_script.proofs.numerals.put_four.Goals as goal

pub bounds-d-at-2 : goal.bounds-d-at-2
bounds-d-at-2 c = simp length-set (omega arith)

pub bounds-d-at-3 : goal.bounds-d-at-3
bounds-d-at-3 c = simp length-set (omega arith)

pub bounds-d-at-4 : goal.bounds-d-at-4
bounds-d-at-4 c = simp length-set (omega arith)

pub returns : goal.returns
returns c =
    let a = c.args in
    four_stores a.d.now a.at a.n _ _ _ _ c.low.ensures c.low-2.ensures c.low-3.ensures c.low-4.ensures

-- `utf8_screening::plain::is_plain_part` meets its contract. Assumes nothing.
use mathlib.Core.Path.{◌≡◌, sym, ◌∙◌}
use Prim.Native.Nat.{◌+◌, ◌-◌}
use native.Mathlib.Omega.{arith}
use lib.ListN.{take, drop}
use Rattle.utf8_screening.proofs.PlainLaws.{plain_step, plain_end}
use Rattle.utf8_screening.proofs.plain.is_plain_part.Goals as goal

pub loop-b-preserved : goal.loop-b-preserved
loop-b-preserved g c =
    let a = c.args in
    let l = c.loop-b in
    l.invariant ∙ plain_step (take (a.i + g.row.N - a.i) (drop a.i a.s.now)) l.b-index c.loop-b-test.true l.bad c.odd_bit-bad.result c.odd_bit-bad.ensures

pub returns : goal.returns
returns g c =
    let a = c.args in
    let l = c.loop-b in
    let n : a.i + g.row.N - a.i ≡ g.row.N = omega arith in
    rw n at (sym (l.invariant ∙ plain_end (take (a.i + g.row.N - a.i) (drop a.i a.s.now)) l.b-index c.loop-b-test.false l.bad))

-- `text_escaping::write` meets its contract. Assumes nothing.
use Prim.Native.Nat.{◌≤◌, ◌+◌}
use native.Mathlib.Omega.{arith}
use lib.ListN.{length, get_or, length-set}
use Rattle.octets.proofs.Writes.{start}
use Rattle.text_escaping.specs.Coded.{coded}
use Rattle.text_escaping.proofs.CodedLaws.{coded_octet, coded_pair, coded_end}
use Rattle.octets.proofs.PieceLaws.{one_room, put_one, two_room, put_two, all_written}
use Rattle.text_escaping.proofs.write.Goals as goal
use Rattle.text_escaping.proofs.write.Goals.{then-x-eq0, else-x-eq0}

pub loop-b-init : goal.loop-b-init
loop-b-init c = start (coded c.args.lead c.args.t.now c.args.text.now) c.args.out.now

pub overflow_cast-x : goal.overflow_cast-x
overflow_cast-x c = omega (arith, c.type_inv.text c.loop-b.b-index)

pub bounds-t-b : goal.bounds-t-b
bounds-t-b c = omega (arith, c.type_inv.text c.loop-b.b-index)

pub bounds-out-j : goal.bounds-out-j
bounds-out-j c =
    let room_for_one : c.loop-b.j + 1 ≤ length c.loop-b.out = one_room c.loop-b.invariant c.requires _ _ (coded_octet c.args.lead c.args.t.now c.args.text.now c.loop-b.b-index c.loop-b-test.true c.if-x-eq0.true) in
    omega (arith, room_for_one)

pub overflow_add-j : goal.overflow_add-j
overflow_add-j c =
    let room_for_one : c.loop-b.j + 1 ≤ length c.loop-b.out = one_room c.loop-b.invariant c.requires _ _ (coded_octet c.args.lead c.args.t.now c.args.text.now c.loop-b.b-index c.loop-b-test.true c.if-x-eq0.true) in
    omega (arith, room_for_one, c.loop-b.invariant.same)

pub bounds-out-j-else-x-eq0 : goal.bounds-out-j-else-x-eq0
bounds-out-j-else-x-eq0 c =
    let room_for_two : c.loop-b.j + 2 ≤ length c.loop-b.out = two_room c.loop-b.invariant c.requires _ _ _ (coded_pair c.args.lead c.args.t.now c.args.text.now c.loop-b.b-index c.loop-b-test.true c.if-x-eq0.false) in
    omega (arith, room_for_two)

pub overflow_add-out : goal.overflow_add-out
overflow_add-out c =
    let room_for_two : c.loop-b.j + 2 ≤ length c.loop-b.out = two_room c.loop-b.invariant c.requires _ _ _ (coded_pair c.args.lead c.args.t.now c.args.text.now c.loop-b.b-index c.loop-b-test.true c.if-x-eq0.false) in
    omega (arith, room_for_two, c.loop-b.invariant.same)

pub bounds-out-j-else-x-eq0-2 : goal.bounds-out-j-else-x-eq0-2
bounds-out-j-else-x-eq0-2 c =
    let room_for_two : c.loop-b.j + 2 ≤ length c.loop-b.out = two_room c.loop-b.invariant c.requires _ _ _ (coded_pair c.args.lead c.args.t.now c.args.text.now c.loop-b.b-index c.loop-b-test.true c.if-x-eq0.false) in
    simp length-set (omega (arith, room_for_two))

pub overflow_add-j-else-x-eq0 : goal.overflow_add-j-else-x-eq0
overflow_add-j-else-x-eq0 c =
    let room_for_two : c.loop-b.j + 2 ≤ length c.loop-b.out = two_room c.loop-b.invariant c.requires _ _ _ (coded_pair c.args.lead c.args.t.now c.args.text.now c.loop-b.b-index c.loop-b-test.true c.if-x-eq0.false) in
    omega (arith, room_for_two, c.loop-b.invariant.same)

pub loop-b-preserved : goal.loop-b-preserved
loop-b-preserved c =
    let l = c.loop-b in
    let a = c.args in
    elim c.if-x-eq0.branch [
      | then-x-eq0 w ↦
          rw (w.out-is, w.j-is)
          (put_one l.invariant c.requires _ (get_or a.text.now l.b-index 0) (coded_octet a.lead a.t.now a.text.now l.b-index c.loop-b-test.true w.if-x-eq0.true))
      | else-x-eq0 w ↦
          rw (w.out-is, w.j-is)
          (put_two l.invariant c.requires _ a.lead (get_or a.t.now (get_or a.text.now l.b-index 0) 0)
          (coded_pair a.lead a.t.now a.text.now l.b-index c.loop-b-test.true w.if-x-eq0.false))
    ]

pub shape_of-out : goal.shape_of-out
shape_of-out c = c.loop-b.invariant.same

pub returns : goal.returns
returns c = all_written c.loop-b.invariant (coded_end c.args.lead c.args.t.now c.args.text.now c.loop-b.b-index c.loop-b-test.false)

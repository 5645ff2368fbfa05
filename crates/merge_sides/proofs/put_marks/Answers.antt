-- `merge_sides::put_marks` meets its contract. Assumes nothing.
use mathlib.Core.Path.{refl, sym, ap, ◌∙◌}
use Prim.Native.Nat.{ℕ, ◌-◌, ◌+◌}
use native.Mathlib.Nat.{sub-zero}
use Rattle.merge_pids.specs.Marks.{Marked, marked, put_all}
use Rattle.merge_sides.specs.Marks.{marks_from}
use Rattle.merge_sides.proofs.Walks.{marks_turn, marks_over}
use Rattle.merge_sides.proofs.put_marks.Goals as goal

pub loop-i-init : goal.loop-i-init
loop-i-init c = (refl, ap (λ (k : ℕ). put_all (marked 0 c.args.out.now) (marks_from c.args.c.now c.args.rs.now 0 k)) (sym (sub-zero c.args.n)))

pub put_line-next-requires : goal.put_line-next-requires
put_line-next-requires c = c.requires

pub loop-i-preserved : goal.loop-i-preserved
loop-i-preserved c = (c.put_line-next.auto.out ∙ c.loop-i.invariant.0, c.loop-i.invariant.1 ∙ marks_turn (marked c.loop-i.next c.loop-i.out) c.args.c.now c.args.rs.now c.args.n c.loop-i.i c.loop-i-test.true ∙ ap (λ (st : Marked). put_all st (marks_from c.args.c.now c.args.rs.now (c.loop-i.i + 1) (c.args.n - (c.loop-i.i + 1)))) (sym c.put_line-next.ensures))

pub shape_of-out : goal.shape_of-out
shape_of-out c = c.loop-i.invariant.0

pub returns : goal.returns
returns c = sym (c.loop-i.invariant.1 ∙ marks_over (marked c.loop-i.next c.loop-i.out) c.args.c.now c.args.rs.now c.args.n c.loop-i.i c.loop-i-test.false)

-- `merge_pids::put_params` meets its contract. Assumes nothing.
use mathlib.Core.Path.{refl, sym, ap, ◌∙◌}
use Prim.Native.Nat.{ℕ, suc, ◌-◌, ◌+◌}
use native.Mathlib.Omega.{arith}
use lib.ListN.{length, drop, length-drop}
use Rattle.line_parser.specs.Rule.{param}
use Rattle.line_parser.proofs.Steps.{ok_upto, place_fault, not_upto, past}
use Rattle.merge_pids.specs.Marks.{Marked, marked, put_all, params_marks}
use Rattle.merge_pids.proofs.ParamLaws.{params_none, params_bad, params_on}
use Rattle.merge_pids.proofs.put_params.Goals as goal

pub loop-place-init : goal.loop-place-init
loop-place-init c = (suc (length (drop c.args.from c.args.s.now)), rw length-drop (omega arith), refl, refl)

pub shape_of-out-then-s-place-ne59 : goal.shape_of-out-then-s-place-ne59
shape_of-out-then-s-place-ne59 c = c.loop-place.invariant.2

pub returns-then-s-place-ne59 : goal.returns-then-s-place-ne59
unfolding put_all
returns-then-s-place-ne59 c = sym (c.loop-place.invariant.3 ∙ rw (params_none c.args.line c.args.s.now c.loop-place.place c.loop-place.invariant.0 c.if-s-place-ne59.true))

pub read_param-requires : goal.read_param-requires
read_param-requires c = record { classes = c.requires; at_in_bounds = omega (arith, c.loop-place-test.true) }

pub shape_of-out-in_default : goal.shape_of-out-in_default
shape_of-out-in_default c = c.loop-place.invariant.2

pub returns-in_default : goal.returns-in_default
unfolding put_all
returns-in_default c =
    place_fault (c.loop-place.place + 1) (param (drop (c.loop-place.place + 1) c.args.s.now)) c.read_param.ensures (not_upto c.read_param.result c.in_default.not-Ok) (λ x q.
    sym (c.loop-place.invariant.3 ∙ rw (params_bad c.args.line c.args.s.now c.loop-place.place c.loop-place.invariant.0 x c.if-s-place-ne59.false q)))

pub span-name_end-requires : goal.span-name_end-requires
span-name_end-requires c = record { classes = c.requires; from_in_bounds = omega (arith, c.loop-place-test.true) }

pub put_named-next-requires : goal.put_named-next-requires
put_named-next-requires c = record { classes = c.requires; start_le_name_end = (omega (arith, c.span-name_end.ensures.value), c.span-name_end.ensures.upper_bound) }

pub loop-place-smaller : goal.loop-place-smaller
loop-place-smaller c = ok_upto (c.loop-place.place + 1) (param (drop (c.loop-place.place + 1) c.args.s.now)) c.read_param.ensures c.in-Ok.is (λ p k q h. omega (arith, h, c.loop-place-test.true))

pub loop-place-preserved : goal.loop-place-preserved
loop-place-preserved c =
    let l = c.loop-place in
    let s = c.args.s.now in
    ok_upto (l.place + 1) (param (drop (l.place + 1) s)) c.read_param.ensures c.in-Ok.is (λ p k q h. (
      l.invariant.0 - 1,
      omega (arith, h, l.invariant.1, c.loop-place-test.true),
      c.put_named-next.auto.out ∙ l.invariant.2,
      l.invariant.3 ∙ params_on c.args.line s l.place l.invariant.0 p k c.span-name_end.result (marked l.next l.out) (omega (arith, l.invariant.1)) c.if-s-place-ne59.false q c.span-name_end.ensures.value
          ∙ ap (λ (st : Marked). put_all st (params_marks c.args.line (l.invariant.0 - 1) (drop (l.place + 1 + k) s))) (sym c.put_named-next.ensures)
          ∙ ap (λ (e : ℕ). put_all (marked c.put_named-next.result c.put_named-next.new.out) (params_marks c.args.line (l.invariant.0 - 1) (drop e s))) (sym h),
    ))

pub shape_of-out : goal.shape_of-out
shape_of-out c = c.loop-place.invariant.2

pub returns : goal.returns
unfolding put_all
returns c = sym (c.loop-place.invariant.3 ∙ rw (params_none c.args.line c.args.s.now c.loop-place.place c.loop-place.invariant.0 (past c.args.s.now c.loop-place.place 59 (omega arith) c.loop-place-test.false)))

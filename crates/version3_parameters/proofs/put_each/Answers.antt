-- The proof's answers.
use mathlib.Core.Path.{refl, sym, ap, ◌∙◌, subst}
use mathlib.Core.Bool.{Bool, ◌||◌}
use mathlib.Core.List.{List}
use Prim.Native.Nat.{ℕ, ◌≤◌, ◌+◌}
use native.Mathlib.Omega.{arith}
use lib.ListN.{length, drop, length-take, length-drop, length-append}
use Rattle.octets.proofs.Writes.{Written, start, room, finish}
use Rattle.octets.proofs.PieceLaws.{all_written}
use Rattle.line_unfolding.proofs.PutLaws.{put_part}
use Rattle.line_parser.specs.Parse.{Parse}
use Rattle.line_parser.specs.Grammar.{Param}
use Rattle.line_parser.specs.Rule.{param}
use Rattle.line_parser.specs.Places.{upto}
use Rattle.line_parser.proofs.Steps.{place_fault, not_upto}
use Rattle.line_parser.proofs.ParseLaws.{bad_got}
use Rattle.version3_parameters.specs.Params.{changed, changed_all, any_prefers, params_text}
use Rattle.version3_parameters.specs.Places.{text_by, params_of}
use Rattle.version3_parameters.specs.declared.Way.{Way}
use Rattle.version3_parameters.proofs.RestLaws.{Rest, rest_start, rest_inside, rest_none, Next, rest_next, next_upto, next_at}
use Rattle.version3_parameters.proofs.EachLaws.{each_next, said_next, each_none, said_none}
use Rattle.version3_parameters.proofs.put_each.Goals as goal

-- what the next parameter gets has room
fits : (way : Way) {s d₀ d : List ℕ} {at w : ℕ} (ps : List Param) (next : Next s at ps) → Written (params_text (changed_all way (params_of s))) (params_text (changed_all way ps)) d₀ d w
    → length (params_text (changed_all way (params_of s))) ≤ length d₀ → w + length (params_text (changed way next.first)) ≤ length d
fits way {s} ps next so has =
    let e = ap (λ (qs : List Param). params_text (changed_all way qs)) next.all ∙ each_next way next.first next.others in
    let n = length-append (params_text (changed way next.first)) (params_text (changed_all way next.others)) in
    omega (arith, room so has, ap length e, n)

-- src/lib.rt:188:5
pub loop-at-init : goal.loop-at-init
loop-at-init c =
    let a = c.args in
    (params_of a.s.now, rest_start a.s.now a.from c.requires.accepted, start _ _, refl)

-- src/lib.rt:190:13
pub shape_of-d-then-s-at-ne59 : goal.shape_of-d-then-s-at-ne59
shape_of-d-then-s-at-ne59 c = c.loop-at.invariant.2.same

-- src/lib.rt:190:13
pub returns-then-s-at-ne59 : goal.returns-then-s-at-ne59
returns-then-s-at-ne59 c =
    let l = c.loop-at in
    let e = rest_none l.invariant.0 l.invariant.1 c.if-s-at-ne59.true in
    let x = ap (λ (ps : List Param). params_text (changed_all c.args.way ps)) e ∙ each_none c.args.way in
    record { count = (finish (rw x at l.invariant.2)).0; said = said_none c.args.way l.gone _ (rw e at l.invariant.3); room = all_written l.invariant.2 x }

-- src/lib.rt:195:13
pub shape_of-d-in_default : goal.shape_of-d-in_default
shape_of-d-in_default c = c.loop-at.invariant.2.same

-- src/lib.rt:195:13
pub returns-in_default : goal.returns-in_default
returns-in_default c =
    let l = c.loop-at in
    let n = rest_next l.invariant.0 l.invariant.1 c.if-s-at-ne59.false in
    place_fault (l.at + 1) (param (drop (l.at + 1) c.args.s.now)) c.read_param.ensures (not_upto c.read_param.result c.in_default.not-Ok) (λ x q. absurd (bad_got (sym q ∙ n.read)))

-- src/lib.rt:197:52
pub slice_bounds-put_param-count : goal.slice_bounds-put_param-count
slice_bounds-put_param-count c = omega (arith, fits c.args.way c.loop-at.invariant.0 (rest_next c.loop-at.invariant.0 c.loop-at.invariant.1 c.if-s-at-ne59.false) c.loop-at.invariant.2 c.requires.s_in_bounds)

-- src/lib.rt:197:52
pub slice_bounds-put_param-start : goal.slice_bounds-put_param-start
slice_bounds-put_param-start c = omega (arith, fits c.args.way c.loop-at.invariant.0 (rest_next c.loop-at.invariant.0 c.loop-at.invariant.1 c.if-s-at-ne59.false) c.loop-at.invariant.2 c.requires.s_in_bounds)

-- src/lib.rt:197:13
pub put_param-put-requires : goal.put_param-put-requires
put_param-put-requires c = record { classes = c.requires.classes; param_at = (next_at (rest_next c.loop-at.invariant.0 c.loop-at.invariant.1 c.if-s-at-ne59.false) _ (next_upto (rest_next c.loop-at.invariant.0 c.loop-at.invariant.1 c.if-s-at-ne59.false) c.read_param.ensures (ap upto c.in-Ok.is)), omega (arith, next_upto (rest_next c.loop-at.invariant.0 c.loop-at.invariant.1 c.if-s-at-ne59.false) c.read_param.ensures (ap upto c.in-Ok.is), (rest_next c.loop-at.invariant.0 c.loop-at.invariant.1 c.if-s-at-ne59.false).inside)); s_in_bounds = simp (length-take, length-drop) (rw (rest_next c.loop-at.invariant.0 c.loop-at.invariant.1 c.if-s-at-ne59.false).read (omega (arith, fits c.args.way c.loop-at.invariant.0 (rest_next c.loop-at.invariant.0 c.loop-at.invariant.1 c.if-s-at-ne59.false) c.loop-at.invariant.2 c.requires.s_in_bounds))) }

-- src/lib.rt:198:9
pub overflow_add-w : goal.overflow_add-w
overflow_add-w c = omega (arith, fits c.args.way c.loop-at.invariant.0 (rest_next c.loop-at.invariant.0 c.loop-at.invariant.1 c.if-s-at-ne59.false) c.loop-at.invariant.2 c.requires.s_in_bounds, c.put_param-put.ensures.count, ap (λ (m : Parse Param). length (text_by c.args.way m)) (rest_next c.loop-at.invariant.0 c.loop-at.invariant.1 c.if-s-at-ne59.false).read)

-- src/lib.rt:188:5
pub loop-at-smaller : goal.loop-at-smaller
loop-at-smaller c = omega (arith, next_upto (rest_next c.loop-at.invariant.0 c.loop-at.invariant.1 c.if-s-at-ne59.false) c.read_param.ensures (ap upto c.in-Ok.is), (rest_next c.loop-at.invariant.0 c.loop-at.invariant.1 c.if-s-at-ne59.false).inside, c.loop-at-test.true)

-- src/lib.rt:188:5
pub loop-at-preserved : goal.loop-at-preserved
loop-at-preserved c =
    let l = c.loop-at in
    let n = rest_next c.loop-at.invariant.0 c.loop-at.invariant.1 c.if-s-at-ne59.false in
    let u = rw n.read at c.put_param-put.ensures in
    let e = ap (λ (ps : List Param). params_text (changed_all c.args.way ps)) n.all ∙ each_next c.args.way n.first n.others in
    (n.others, subst (λ (j : ℕ). Rest c.args.s.now j n.others) (sym (next_upto (rest_next c.loop-at.invariant.0 c.loop-at.invariant.1 c.if-s-at-ne59.false) c.read_param.ensures (ap upto c.in-Ok.is))) n.left, rw u.count (put_part l.invariant.2 (params_text (changed c.args.way n.first)) (params_text (changed_all c.args.way n.others)) _ e (fits c.args.way c.loop-at.invariant.0 (rest_next c.loop-at.invariant.0 c.loop-at.invariant.1 c.if-s-at-ne59.false) c.loop-at.invariant.2 c.requires.s_in_bounds) u.room), ap (λ (b : Bool). b || any_prefers c.args.way n.others) (ap (λ (b : Bool). l.gone || b) u.said) ∙ said_next c.args.way n.first n.others l.gone _ (rw n.all at l.invariant.3))

-- src/lib.rt:179:1
pub shape_of-d : goal.shape_of-d
shape_of-d c = c.loop-at.invariant.2.same

-- src/lib.rt:179:1
pub returns : goal.returns
returns c = absurd (omega (arith, rest_inside c.loop-at.invariant.1, c.loop-at-test.false))

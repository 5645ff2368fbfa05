-- The proof's answers.
use mathlib.Core.Path.{sym, ap, ◌∙◌, subst}
use Prim.Native.Nat.{ℕ, ◌+◌}
use native.Mathlib.Omega.{arith}
use lib.ListN.{drop}
use borrow.Author.Tests.{not-true, not-false}
use Rattle.octets.specs.Ascii.{octets}
use Rattle.line_parser.specs.Rule.{param}
use Rattle.line_parser.specs.Places.{upto}
use Rattle.line_parser.proofs.Steps.{place_fault, not_upto}
use Rattle.line_parser.proofs.ParseLaws.{bad_got}
use Rattle.version3_parameters.specs.Places.{named_by, lawful_by, params_of}
use Rattle.version3_parameters.proofs.RestLaws.{Rest, rest_start, rest_inside, rest_none, rest_next, next_upto, next_at}
use Rattle.version3_parameters.proofs.EachLaws.{fit_start, fit_end, fit_not, fit_yes, fit_other}
use Rattle.version3_parameters.proofs.do_prefs_fit.Goals as goal

-- src/lib.rt:280:5
pub loop-at-init : goal.loop-at-init
loop-at-init c =
    let a = c.args in
    (omega arith, params_of a.s.now, rest_start a.s.now a.name_end c.requires.accepted, fit_start a.way (params_of a.s.now))

-- src/lib.rt:282:13
pub returns-then-s-at-ne59 : goal.returns-then-s-at-ne59
returns-then-s-at-ne59 c =
    let l = c.loop-at in
    let e = rest_none l.invariant.1 l.invariant.2 c.if-s-at-ne59.true in
    fit_end c.args.way l.n ∙ sym (rw e at l.invariant.3)

-- src/lib.rt:287:13
pub returns-in_default : goal.returns-in_default
returns-in_default c =
    let l = c.loop-at in
    let n = rest_next l.invariant.1 l.invariant.2 c.if-s-at-ne59.false in
    place_fault (l.at + 1) (param (drop (l.at + 1) c.args.s.now)) c.read_param.ensures (not_upto c.read_param.result c.in_default.not-Ok) (λ x q. absurd (bad_got (sym q ∙ n.read)))

-- src/lib.rt:289:12
pub is_named-requires : goal.is_named-requires
is_named-requires c = record { classes = c.requires.classes; param_at = (next_at (rest_next c.loop-at.invariant.1 c.loop-at.invariant.2 c.if-s-at-ne59.false) _ (next_upto (rest_next c.loop-at.invariant.1 c.loop-at.invariant.2 c.if-s-at-ne59.false) c.read_param.ensures (ap upto c.in-Ok.is)), omega (arith, next_upto (rest_next c.loop-at.invariant.1 c.loop-at.invariant.2 c.if-s-at-ne59.false) c.read_param.ensures (ap upto c.in-Ok.is), (rest_next c.loop-at.invariant.1 c.loop-at.invariant.2 c.if-s-at-ne59.false).inside)) }

-- src/lib.rt:290:17
pub is_lawful-requires : goal.is_lawful-requires
is_lawful-requires c = record { classes = c.requires.classes; param_at = (next_at (rest_next c.loop-at.invariant.1 c.loop-at.invariant.2 c.if-s-at-ne59.false) _ (next_upto (rest_next c.loop-at.invariant.1 c.loop-at.invariant.2 c.if-s-at-ne59.false) c.read_param.ensures (ap upto c.in-Ok.is)), omega (arith, next_upto (rest_next c.loop-at.invariant.1 c.loop-at.invariant.2 c.if-s-at-ne59.false) c.read_param.ensures (ap upto c.in-Ok.is), (rest_next c.loop-at.invariant.1 c.loop-at.invariant.2 c.if-s-at-ne59.false).inside)) }

-- src/lib.rt:291:17
pub returns-then-not-is_lawful : goal.returns-then-not-is_lawful
unfolding octets
returns-then-not-is_lawful c =
    let n = rest_next c.loop-at.invariant.1 c.loop-at.invariant.2 c.if-s-at-ne59.false in
    fit_not c.args.way c.loop-at.n n.first n.others (sym (ap (named_by _) n.read) ∙ sym c.is_named.ensures ∙ c.if-is_named.true) (sym (ap (lawful_by c.args.way) n.read) ∙ sym c.is_lawful.ensures ∙ not-true _ c.if-not-is_lawful.true-raw) ∙ sym (rw n.all at c.loop-at.invariant.3)

-- src/lib.rt:293:13
pub overflow_add-n : goal.overflow_add-n
overflow_add-n c = omega (arith, c.loop-at.invariant.0, (rest_next c.loop-at.invariant.1 c.loop-at.invariant.2 c.if-s-at-ne59.false).inside)

-- src/lib.rt:280:5
pub loop-at-smaller-then-is_named : goal.loop-at-smaller-then-is_named
loop-at-smaller-then-is_named c = omega (arith, next_upto (rest_next c.loop-at.invariant.1 c.loop-at.invariant.2 c.if-s-at-ne59.false) c.read_param.ensures (ap upto c.in-Ok.is), (rest_next c.loop-at.invariant.1 c.loop-at.invariant.2 c.if-s-at-ne59.false).inside, c.loop-at-test.true)

-- src/lib.rt:280:5
pub loop-at-preserved-then-is_named : goal.loop-at-preserved-then-is_named
unfolding octets
loop-at-preserved-then-is_named c =
    let n = rest_next c.loop-at.invariant.1 c.loop-at.invariant.2 c.if-s-at-ne59.false in
    (omega (arith, next_upto (rest_next c.loop-at.invariant.1 c.loop-at.invariant.2 c.if-s-at-ne59.false) c.read_param.ensures (ap upto c.in-Ok.is), c.loop-at.invariant.0), n.others, subst (λ (j : ℕ). Rest c.args.s.now j n.others) (sym (next_upto (rest_next c.loop-at.invariant.1 c.loop-at.invariant.2 c.if-s-at-ne59.false) c.read_param.ensures (ap upto c.in-Ok.is))) n.left, rw n.all at c.loop-at.invariant.3 ∙ fit_yes c.args.way c.loop-at.n n.first n.others (sym (ap (named_by _) n.read) ∙ sym c.is_named.ensures ∙ c.if-is_named.true) (sym (ap (lawful_by c.args.way) n.read) ∙ sym c.is_lawful.ensures ∙ not-false _ c.if-not-is_lawful.false-raw))

-- src/lib.rt:280:5
pub loop-at-smaller : goal.loop-at-smaller
loop-at-smaller c = omega (arith, next_upto (rest_next c.loop-at.invariant.1 c.loop-at.invariant.2 c.if-s-at-ne59.false) c.read_param.ensures (ap upto c.in-Ok.is), (rest_next c.loop-at.invariant.1 c.loop-at.invariant.2 c.if-s-at-ne59.false).inside, c.loop-at-test.true)

-- src/lib.rt:280:5
pub loop-at-preserved : goal.loop-at-preserved
unfolding octets
loop-at-preserved c =
    let n = rest_next c.loop-at.invariant.1 c.loop-at.invariant.2 c.if-s-at-ne59.false in
    (omega (arith, next_upto (rest_next c.loop-at.invariant.1 c.loop-at.invariant.2 c.if-s-at-ne59.false) c.read_param.ensures (ap upto c.in-Ok.is), c.loop-at.invariant.0), n.others, subst (λ (j : ℕ). Rest c.args.s.now j n.others) (sym (next_upto (rest_next c.loop-at.invariant.1 c.loop-at.invariant.2 c.if-s-at-ne59.false) c.read_param.ensures (ap upto c.in-Ok.is))) n.left, rw n.all at c.loop-at.invariant.3 ∙ fit_other c.args.way c.loop-at.n n.first n.others (sym (ap (named_by _) n.read) ∙ sym c.is_named.ensures ∙ c.if-is_named.false))

-- src/lib.rt:273:1
pub returns : goal.returns
returns c = absurd (omega (arith, rest_inside c.loop-at.invariant.2, c.loop-at-test.false))

-- `program_numbers::decimal::number_of` meets its contract. Assumes nothing.
use mathlib.Core.Bool.{true, false}
use mathlib.Core.Path.{◌≡◌, sym, ◌∙◌}
use Prim.Native.Nat.{◌+◌, ◌*◌}
use native.Mathlib.Omega.{arith}
use lib.Dec.{eqb}
use lib.ListN.{length, get_or}
use Rattle.program_numbers.specs.Decimal.{ones, number_of}
use Rattle.program_numbers.proofs.NumberLaws.{no_digit, a_digit, number_stop, number_large, number_step, number_end}
use Rattle.program_numbers.proofs.decimal.number_of.Goals as goal

pub returns-then-is_empty : goal.returns-then-is_empty
unfolding number_of
returns-then-is_empty c =
    let e : eqb (length c.args.word.now) 0 ≡ true = sym c.is_empty.ensures ∙ c.if-is_empty.true in
    rw e

pub loop-octet-init : goal.loop-octet-init
unfolding number_of
loop-octet-init c =
    let e : eqb (length c.args.word.now) 0 ≡ false = sym c.is_empty.ensures ∙ c.if-is_empty.false in
    (omega arith, rw e)

pub returns-in_err-one : goal.returns-in_err-one
returns-in_err-one c =
    let w = c.args.word.now in
    let l = c.loop-octet in
    c.from_residual.ensures ∙ sym (l.invariant.1 ∙ number_stop l.n w l.octet-index c.loop-octet-test.true (no_digit _ (sym c.digit_of.ensures ∙ c.in_err-one.was)))

pub returns-in_err-checked_mul : goal.returns-in_err-checked_mul
returns-in_err-checked_mul c =
    let w = c.args.word.now in
    let l = c.loop-octet in
    c.from_residual-in_err-checked_mul.ensures
    ∙ sym (l.invariant.1 ∙ number_large l.n w l.octet-index c.loop-octet-test.true (omega (arith, c.in_err-checked_mul.ensures)))

pub returns-in_err-n : goal.returns-in_err-n
returns-in_err-n c =
    let w = c.args.word.now in
    let l = c.loop-octet in
    let d = a_digit _ _ (sym c.digit_of.ensures ∙ c.in_ok-one.was) in
    c.from_residual-in_err-n.ensures
    ∙ sym (l.invariant.1 ∙ number_large l.n w l.octet-index c.loop-octet-test.true (omega (arith, d.1, c.in_ok-checked_mul.ensures, c.in_err-n.ensures)))

pub loop-octet-preserved : goal.loop-octet-preserved
loop-octet-preserved c =
    let w = c.args.word.now in
    let l = c.loop-octet in
    let d = a_digit _ _ (sym c.digit_of.ensures ∙ c.in_ok-one.was) in
    let e : 10 * l.n + ones (get_or w l.octet-index 0) ≡ c.in_ok-n.n = omega (arith, d.1, c.in_ok-checked_mul.ensures, c.in_ok-n.ensures) in
    (omega (arith, c.in_ok-n.ensures), rw e at (l.invariant.1 ∙ number_step l.n w l.octet-index c.loop-octet-test.true d.0))

pub returns : goal.returns
returns c =
    let l = c.loop-octet in
    sym (l.invariant.1 ∙ number_end l.n c.args.word.now l.octet-index (omega arith) l.invariant.0)

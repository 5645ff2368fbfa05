-- `console_answers::put_spaced_numbers` meets its contract. Assumes nothing.
use mathlib.Core.Path.{◌≡◌, refl, sym, ◌∙◌}
use mathlib.Core.List.{[], ◌∷◌, ◌++◌}
use native.Mathlib.Omega.{arith}
use borrow.Author.Rules.{rules}
use Rattle.program_output.specs.Pages.{page}
use Rattle.program_output.specs.Digits.{decimal}
use Rattle.console_answers.specs.Texts.{further, others}
use Rattle.program_output.proofs.PageLaws.{then, turn, stop}
use Rattle.console_answers.proofs.Words.{others_cons, others_nil, joined_none, joined_cons}
use Rattle.console_answers.proofs.put_spaced_numbers.Goals as goal

pub returns-in_default : goal.returns-in_default
returns-in_default c = rw (joined_none c.args.s.now (search rules)) c.put-start.ensures

pub loop-n-init : goal.loop-n-init
loop-n-init c = (refl, refl)

pub loop-n-preserved : goal.loop-n-preserved
loop-n-preserved c =
    let l = c.loop-n in
    (omega arith, turn further others others_cons c.in-Some.rest.now l.n-index c.loop-n-test.true (page l.end l.out) c.put_after-end.ensures ∙ l.invariant.1)

pub returns : goal.returns
returns c =
    let a = c.args in
    let l = c.loop-n in
    let first = c.in-Some.first.now in
    let rest = c.in-Some.rest.now in
    let whole : a.s.now ≡ first ∷ rest = search rules in
    rw (whole, joined_cons first rest)
    (sym (stop further others others_nil rest l.n-index (omega arith) (page l.end l.out)) ∙ l.invariant.1
    ∙ then (32 ∷ []) (decimal first ++ others rest) (page a.at a.out.now) c.put-start.ensures
    (then (decimal first) (others rest) (page c.put-start.result c.put-start.new.room) c.put_number-end.ensures refl))

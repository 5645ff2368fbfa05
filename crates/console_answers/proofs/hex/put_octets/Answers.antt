-- `console_answers::hex::put_octets` meets its contract. Assumes nothing.
use mathlib.Core.Path.{refl, sym, ◌∙◌}
use native.Mathlib.Omega.{arith}
use borrow.Author.Tests.{eqb-true, eqb-false}
use lib.ListN.{length}
use Rattle.program_output.specs.Pages.{page}
use Rattle.program_output.specs.Digits.{pair}
use Rattle.console_answers.specs.Texts.{pairs}
use Rattle.program_output.proofs.PageLaws.{turn, stop}
use Rattle.console_answers.proofs.Words.{word_none, word_some, pairs_cons, pairs_nil}
use Rattle.console_answers.proofs.hex.put_octets.Goals as goal

pub returns-then-is_empty : goal.returns-then-is_empty
returns-then-is_empty c =
    let s = c.args.octets.now in
    rw (word_none s (eqb-true (length s) 0 (sym c.is_empty.ensures ∙ c.if-is_empty.true))) c.put.ensures

pub loop-octet-init : goal.loop-octet-init
loop-octet-init c =
    let s = c.args.octets.now in
    (refl, sym (rw (word_some s (eqb-false (length s) 0 (sym c.is_empty.ensures ∙ c.if-is_empty.false)))))

pub loop-octet-preserved : goal.loop-octet-preserved
loop-octet-preserved c =
    let l = c.loop-octet in
    (omega arith, turn pair pairs pairs_cons c.args.octets.now l.octet-index c.loop-octet-test.true (page l.end l.out) c.put_pair-end.ensures ∙ l.invariant.1)

pub returns : goal.returns
returns c =
    let l = c.loop-octet in
    sym (stop pair pairs pairs_nil c.args.octets.now l.octet-index (omega arith) (page l.end l.out)) ∙ l.invariant.1

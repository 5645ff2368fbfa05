-- `reader::judge_as` meets its contract. Assumes nothing.
use borrow.Author.Tests.{lt-ltb, le-ltb}
use mathlib.Core.Path.{sym, ap, ◌∙◌}
use Rattle.reader.specs.Outcome.{verdict_of, judge_in}
use Rattle.reader.proofs.judge_as.Goals as goal

pub returns-then-input-gt-OCTETS : goal.returns-then-input-gt-OCTETS
unfolding judge_in
returns-then-input-gt-OCTETS c = simp (lt-ltb _ _ c.if-input-gt-OCTETS.true)

pub returns-then-is_empty : goal.returns-then-is_empty
unfolding judge_in
returns-then-is_empty c = simp (le-ltb _ _ c.if-input-gt-OCTETS.false, sym c.is_empty.ensures ∙ c.if-is_empty.true)

pub returns-then-lone-input : goal.returns-then-lone-input
unfolding judge_in
returns-then-lone-input c =
    let e = c.first_lone-lone.ensures in
    rw e (simp (le-ltb _ _ c.if-input-gt-OCTETS.false, sym c.is_empty.ensures ∙ c.if-is_empty.false, lt-ltb _ _ (rw e at c.if-lone-input.true)))

pub returns-then-not-ends_cr_lf : goal.returns-then-not-ends_cr_lf
unfolding judge_in
returns-then-not-ends_cr_lf c =
    let e = c.first_lone-lone.ensures in
    simp (le-ltb _ _ c.if-input-gt-OCTETS.false, sym c.is_empty.ensures ∙ c.if-is_empty.false, le-ltb _ _ (rw e at c.if-lone-input.false), sym c.ends_cr_lf.ensures ∙ c.if-not-ends_cr_lf.true)

pub returns : goal.returns
unfolding judge_in
returns c =
    let e = c.first_lone-lone.ensures in
    c.conclude.ensures c.walk-last.ensures.0 ∙ ap (verdict_of _) c.walk-last.ensures.1
    ∙ sym (simp (le-ltb _ _ c.if-input-gt-OCTETS.false, sym c.is_empty.ensures ∙ c.if-is_empty.false, le-ltb _ _ (rw e at c.if-lone-input.false), sym c.ends_cr_lf.ensures ∙ c.if-not-ends_cr_lf.false))

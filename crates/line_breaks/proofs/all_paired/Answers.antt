-- `line_breaks::all_paired` meets its contract. Assumes nothing.
use mathlib.Core.Path.{sym, ◌∙◌}
use mathlib.Core.Bool.{false≢true}
use borrow.Author.Tests.{eq-eqb, eqb-true}
use Rattle.line_breaks.proofs.EndLaws.{pair_none, joined_paired}
use Rattle.line_breaks.proofs.all_paired.Goals as goal

pub returns-then-is_empty : goal.returns-then-is_empty
returns-then-is_empty c = λ e. pair_none c.args.s.now (eqb-true _ 0 (sym c.is_empty.ensures ∙ c.if-is_empty.true))

pub returns-then-s-eq10 : goal.returns-then-s-eq10
returns-then-s-eq10 c = λ e. absurd (false≢true e)

pub returns-then-s-last-eq13 : goal.returns-then-s-last-eq13
returns-then-s-last-eq13 c = λ e. absurd (false≢true e)

pub returns : goal.returns
returns c = λ e. joined_paired c.args.s.now (λ z. false≢true (sym c.if-is_empty.false ∙ c.is_empty.ensures ∙ eq-eqb _ 0 z)) c.if-s-eq10.false c.if-s-last-eq13.false (c.all_joined.ensures e)

-- `console_requests::names::first_of` meets its contract. Assumes nothing.
use mathlib.Core.Path.{refl, sym, ◌∙◌}
use Rattle.console_requests.proofs.NameLaws.{listed_found, listed_next, listed_none}
use Rattle.console_requests.proofs.names.first_of.Goals as goal

pub loop-row-init : goal.loop-row-init
loop-row-init c = refl

pub returns-then-fits : goal.returns-then-fits
returns-then-fits c =
    let l = c.loop-row in
    sym (l.invariant ∙ listed_found c.args.word.now c.args.after c.args.rows.now l.row-index _ c.loop-row-test.true (sym c.fits.ensures ∙ c.if-fits.true))

pub loop-row-preserved : goal.loop-row-preserved
loop-row-preserved c =
    let l = c.loop-row in
    l.invariant ∙ listed_next c.args.word.now c.args.after c.args.rows.now l.row-index _ c.loop-row-test.true (sym c.fits.ensures ∙ c.if-fits.false)

pub returns : goal.returns
returns c =
    let l = c.loop-row in
    sym (l.invariant ∙ listed_none c.args.word.now c.args.after c.args.rows.now l.row-index c.loop-row-test.false)

-- `value_automaton::does_fit` meets its contract. Assumes nothing.
use mathlib.Core.Path.{sym, ◌∙◌}
use mathlib.Core.Bool.{false≢true}
use Rattle.value_kinds.specs.Kinds.{uri, shape_in, kind_in}
use Rattle.value_kinds.proofs.ShapeLaws.{fits_from}
use Rattle.value_kinds.proofs.QuietLaws.{at_once}
use Rattle.value_kinds.proofs.PairLaws.{by_pairs}
use Rattle.value_automaton.proofs.does_fit.Goals as goal

pub returns-then-fits_at_once : goal.returns-then-fits_at_once
returns-then-fits_at_once c =
    let a = c.args in
    λ e. sym (at_once a.edition a.kind a.s.now (sym c.fits_at_once.ensures ∙ c.if-fits_at_once.true))

pub returns-then-kind-eq-URI : goal.returns-then-kind-eq-URI
unfolding kind_in shape_in
returns-then-kind-eq-URI c =
    let a = c.args in
    λ e. sym (rw c.if-kind-eq-URI.true (fits_from uri 0 a.s.now (c.is_uri.ensures e)))

pub returns-then-s-lt-SHORT : goal.returns-then-s-lt-SHORT
returns-then-s-lt-SHORT c = λ e. absurd (false≢true e)

pub returns : goal.returns
returns c =
    let a = c.args in
    λ e. sym (by_pairs a.edition a.kind a.s.now (sym c.fits_by_pairs.ensures ∙ e))

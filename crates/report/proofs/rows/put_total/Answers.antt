-- `report::rows::put_total` meets its contract. Assumes nothing.
use Rattle.octets.specs.Ascii as ascii
use Rattle.report.proofs.TextLaws.{as_text, uploads_named, cards_named, lines_named, octets_named, accepted_named}
use Rattle.report.proofs.rows.put_total.Goals as goal

pub returns-then-place-eq-UPLOADS : goal.returns-then-place-eq-UPLOADS
unfolding ascii.octets
returns-then-place-eq-UPLOADS c = as_text _ _ _ c.put_all.ensures (uploads_named _ c.if-place-eq-UPLOADS.true)

pub returns-then-place-eq-CARDS : goal.returns-then-place-eq-CARDS
unfolding ascii.octets
returns-then-place-eq-CARDS c = as_text _ _ _ c.put_all-then-place-eq-CARDS.ensures (cards_named _ c.if-place-eq-CARDS.true)

pub returns-then-place-eq-LINES : goal.returns-then-place-eq-LINES
unfolding ascii.octets
returns-then-place-eq-LINES c = as_text _ _ _ c.put_all-then-place-eq-LINES.ensures (lines_named _ c.if-place-eq-LINES.true)

pub returns-then-place-eq-OCTETS : goal.returns-then-place-eq-OCTETS
unfolding ascii.octets
returns-then-place-eq-OCTETS c = as_text _ _ _ c.put_all-then-place-eq-OCTETS.ensures (octets_named _ c.if-place-eq-OCTETS.true)

pub returns : goal.returns
unfolding ascii.octets
returns c = as_text _ _ _ c.put_all-2.ensures (accepted_named _ c.requires c.if-place-eq-UPLOADS.false c.if-place-eq-CARDS.false c.if-place-eq-LINES.false c.if-place-eq-OCTETS.false)

-- `report_weights::accepted_part` meets its contract. Assumes nothing.
use native.Mathlib.Omega.{arith}
use Rattle.report_weights.proofs.PartLaws.{accepted_property, accepted_refusal, accepted_cards, accepted_lines, accepted_octets, accepted_upload}
use Rattle.report_weights.proofs.accepted_part.Goals as goal

pub returns-then-place-ge-PROPERTIES : goal.returns-then-place-ge-PROPERTIES
returns-then-place-ge-PROPERTIES c = accepted_property _ _ _ _ _ c.if-place-ge-PROPERTIES.true

pub returns-then-place-ge-REFUSALS : goal.returns-then-place-ge-REFUSALS
returns-then-place-ge-REFUSALS c = accepted_refusal _ _ _ _ _ c.if-place-ge-REFUSALS.true (omega (arith, c.if-place-ge-PROPERTIES.false))

pub returns-then-place-eq-CARDS : goal.returns-then-place-eq-CARDS
returns-then-place-eq-CARDS c = accepted_cards _ _ _ _ _ c.if-place-eq-CARDS.true

pub returns-then-place-eq-LINES : goal.returns-then-place-eq-LINES
returns-then-place-eq-LINES c = accepted_lines _ _ _ _ _ c.if-place-eq-LINES.true

pub returns-then-place-eq-OCTETS : goal.returns-then-place-eq-OCTETS
returns-then-place-eq-OCTETS c = accepted_octets _ _ _ _ _ c.if-place-eq-OCTETS.true

pub returns : goal.returns
returns c = accepted_upload _ _ _ _ _ (omega (arith, c.if-place-ge-REFUSALS.false)) c.if-place-eq-CARDS.false c.if-place-eq-LINES.false c.if-place-eq-OCTETS.false

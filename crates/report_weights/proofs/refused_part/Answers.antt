-- `report_weights::refused_part` meets its contract. Assumes nothing.
use native.Mathlib.Omega.{arith}
use Rattle.report_weights.proofs.PartLaws.{refused_upload, refused_total, refused_property, refused_same, refused_other}
use Rattle.report_weights.proofs.refused_part.Goals as goal

pub returns-then-place-eq-UPLOADS : goal.returns-then-place-eq-UPLOADS
returns-then-place-eq-UPLOADS c = refused_upload _ _ c.if-place-eq-UPLOADS.true

pub returns-then-place-lt-REFUSALS : goal.returns-then-place-lt-REFUSALS
returns-then-place-lt-REFUSALS c = refused_total _ _ c.if-place-eq-UPLOADS.false c.if-place-lt-REFUSALS.true

pub returns-then-place-ge-PROPERTIES : goal.returns-then-place-ge-PROPERTIES
returns-then-place-ge-PROPERTIES c = refused_property _ _ c.if-place-ge-PROPERTIES.true

pub returns-then-refusal_at-n : goal.returns-then-refusal_at-n
returns-then-refusal_at-n c = refused_same _ _ _ c.if-place-lt-REFUSALS.false (omega (arith, c.if-place-ge-PROPERTIES.false)) c.refusal_at.ensures c.if-refusal_at-n.true

pub returns : goal.returns
returns c = refused_other _ _ _ c.if-place-lt-REFUSALS.false (omega (arith, c.if-place-ge-PROPERTIES.false)) c.refusal_at.ensures c.if-refusal_at-n.false

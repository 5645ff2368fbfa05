-- `version3_judge::is_whole` meets its contract. Assumes nothing.
use mathlib.Core.Path.{sym, ◌∙◌}
use mathlib.Core.Bool.{false≢true}
use Rattle.version3_judge.specs.Judge.{whole}
use Rattle.version3_judge.proofs.is_whole.Goals.{then-c, else-c}
use Rattle.version3_judge.proofs.is_whole.Goals as goal

pub returns-then-c-2 : goal.returns-then-c-2
unfolding whole
returns-then-c-2 c = elim c.if-c.branch [ then-c w ↦ sym (rw (w.if-c.true, sym w.value-is ∙ c.if-c-2.true)) | else-c w ↦ absurd (false≢true (sym w.if-c.false ∙ sym w.value-is ∙ c.if-c-2.true)) ]

pub returns-else-c-2 : goal.returns-else-c-2
unfolding whole
returns-else-c-2 c = elim c.if-c.branch [ then-c w ↦ c.if-c-2.false ∙ sym (rw (w.if-c.true, sym w.value-is ∙ c.if-c-2.false)) | else-c w ↦ c.if-c-2.false ∙ sym (rw w.if-c.false) ]

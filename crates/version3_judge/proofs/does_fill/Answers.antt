-- src/lib.rt:176:9
use mathlib.Core.Path.{sym, ◌∙◌}
use Rattle.version3_judge.proofs.JudgeLaws.{fills_name, fills_address, fills_other}
use Rattle.version3_judge.proofs.does_fill.Goals as goal

-- src/lib.rt:176:9
pub returns-then-kind-eq-NAME : goal.returns-then-kind-eq-NAME
returns-then-kind-eq-NAME c = c.is_short.ensures ∙ sym (fills_name c.args.kind c.args.value.now c.if-kind-eq-NAME.true)

-- src/lib.rt:179:9
pub returns-then-kind-eq-ADDRESS : goal.returns-then-kind-eq-ADDRESS
returns-then-kind-eq-ADDRESS c = c.is_short-then-kind-eq-ADDRESS.ensures ∙ sym (fills_address c.args.kind c.args.value.now c.if-kind-eq-NAME.false c.if-kind-eq-ADDRESS.true)

-- src/lib.rt:170:1
pub returns : goal.returns
returns c = c.is_of_kind.ensures ∙ sym (fills_other c.args.kind c.args.value.now c.if-kind-eq-NAME.false c.if-kind-eq-ADDRESS.false)

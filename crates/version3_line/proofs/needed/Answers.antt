-- src/lib.rt:23:9
use Rattle.version3_line.proofs.LineLaws.{needed_name, needed_address, needed_none}
use Rattle.version3_line.proofs.needed.Goals as goal

pub returns-then-kind-eq-NAME : goal.returns-then-kind-eq-NAME
returns-then-kind-eq-NAME c = needed_name c.args.kind c.if-kind-eq-NAME.true

-- src/lib.rt:26:9
pub returns-then-kind-eq-ADDRESS : goal.returns-then-kind-eq-ADDRESS
returns-then-kind-eq-ADDRESS c = needed_address c.args.kind c.if-kind-eq-NAME.false c.if-kind-eq-ADDRESS.true

-- src/lib.rt:19:1
pub returns : goal.returns
returns c = needed_none c.args.kind c.if-kind-eq-NAME.false c.if-kind-eq-ADDRESS.false

-- src/lib.rt:36:9
use Rattle.version3_line.proofs.LineLaws.{parted_name, parted_address, parted_by}
use Rattle.version3_line.proofs.is_parted.Goals as goal

pub returns-then-kind-eq-NAME : goal.returns-then-kind-eq-NAME
returns-then-kind-eq-NAME c = parted_name c.args.kind c.if-kind-eq-NAME.true

-- src/lib.rt:39:9
pub returns-then-kind-eq-ADDRESS : goal.returns-then-kind-eq-ADDRESS
returns-then-kind-eq-ADDRESS c = parted_address c.args.kind c.if-kind-eq-NAME.false c.if-kind-eq-ADDRESS.true

-- src/lib.rt:32:1
pub returns : goal.returns
returns c = parted_by c.args.kind c.if-kind-eq-NAME.false c.if-kind-eq-ADDRESS.false

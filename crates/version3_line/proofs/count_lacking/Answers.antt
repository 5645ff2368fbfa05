-- src/lib.rt:63:9
use Rattle.version3_line.proofs.LineLaws.{lacking_none, lacking_full, lacking_some}
use Rattle.version3_line.proofs.count_lacking.Goals as goal

-- src/lib.rt:65:9
pub returns-then-most-eq0 : goal.returns-then-most-eq0
returns-then-most-eq0 c = lacking_none c.args.kind c.args.value.now c.needed-most.result c.needed-most.ensures c.if-most-eq0.true

-- src/lib.rt:69:9
pub returns-then-most-n : goal.returns-then-most-n
returns-then-most-n c = lacking_full c.args.kind c.args.value.now c.needed-most.result c.count_semicolons-n.result c.needed-most.ensures c.count_semicolons-n.ensures.0 c.if-most-n.true

-- src/lib.rt:60:1
pub returns : goal.returns
returns c = lacking_some c.args.kind c.args.value.now c.needed-most.result c.count_semicolons-n.result c.needed-most.ensures c.count_semicolons-n.ensures.0

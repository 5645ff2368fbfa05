-- src/sheet.rt:60:9
use mathlib.Core.Path.{sym, ap}
use lib.ListN.{length}
use Rattle.version3.proofs.CardLaws.{clear_not, clear_all}
use Rattle.version3.proofs.sheet.clear_length.Goals as goal

-- src/sheet.rt:62:9
pub returns-then-bad-d : goal.returns-then-bad-d
returns-then-bad-d c = sym (ap length (clear_not c.args.d.now c.first_bad-bad.result c.first_bad-bad.ensures c.if-bad-d.true))

-- src/sheet.rt:56:1
pub returns : goal.returns
returns c = sym (ap length (clear_all c.args.d.now c.first_bad-bad.result c.first_bad-bad.ensures c.if-bad-d.false))

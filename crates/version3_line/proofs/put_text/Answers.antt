-- src/lib.rt:50:9
use mathlib.Core.Path.{refl, sym, ap, ◌∙◌}
use native.Mathlib.Omega.{arith}
use lib.ListN.{length}
use Rattle.version3_line.proofs.LineLaws.{anew_text, anew_parted, anew_other}
use Rattle.version3_line.proofs.put_text.Goals as goal

pub renew-requires : goal.renew-requires
renew-requires c = omega (arith, ap length (anew_text c.args.kind c.args.value.now c.if-kind-eq-TEXT.true), c.requires)

-- src/lib.rt:50:9
pub returns-then-kind-eq-TEXT : goal.returns-then-kind-eq-TEXT
returns-then-kind-eq-TEXT c = rw (anew_text c.args.kind c.args.value.now c.if-kind-eq-TEXT.true) c.renew.ensures

-- src/lib.rt:53:9
pub renew-requires-then-is_parted : goal.renew-requires-then-is_parted
renew-requires-then-is_parted c = omega (arith, ap length (anew_parted c.args.kind c.args.value.now c.if-kind-eq-TEXT.false (sym c.if-is_parted.true ∙ c.is_parted.ensures)), c.requires)

-- src/lib.rt:53:9
pub returns-then-is_parted : goal.returns-then-is_parted
returns-then-is_parted c = rw (anew_parted c.args.kind c.args.value.now c.if-kind-eq-TEXT.false (sym c.if-is_parted.true ∙ c.is_parted.ensures)) c.renew-then-is_parted.ensures

-- src/lib.rt:55:5
pub copy_in-requires : goal.copy_in-requires
copy_in-requires c = omega (arith, ap length (anew_other c.args.kind c.args.value.now c.if-kind-eq-TEXT.false (sym c.if-is_parted.false ∙ c.is_parted.ensures)), c.requires)

-- src/lib.rt:45:1
pub returns : goal.returns
returns c = rw (anew_other c.args.kind c.args.value.now c.if-kind-eq-TEXT.false (sym c.if-is_parted.false ∙ c.is_parted.ensures)) (refl, c.copy_in.ensures)

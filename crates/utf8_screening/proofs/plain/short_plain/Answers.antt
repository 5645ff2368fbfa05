-- `utf8_screening::plain::short_plain` meets its contract. Assumes nothing.
use mathlib.Core.Path.{sym, ◌∙◌}
use Prim.Native.Nat.{◌-◌}
use native.Mathlib.Omega.{arith}
use lib.ListN.{length}
use Rattle.utf8_screening.specs.Plain.{half}
use Rattle.utf8_screening.proofs.PlainLaws.{plain_pass, plain_fail, plain_last}
use Rattle.utf8_screening.proofs.plain.short_plain.Goals as goal

pub returns-then-is_plain_part : goal.returns-then-is_plain_part
returns-then-is_plain_part c =
    let s = c.args.s.now in
    c.is_plain_part-then-is_plain_part.ensures
    ∙ plain_last s (length s - half) half half (omega arith) (omega arith) (plain_pass s 0 half (sym c.is_plain_part.ensures ∙ c.if-is_plain_part.true))

pub returns-else-is_plain_part : goal.returns-else-is_plain_part
returns-else-is_plain_part c = c.if-is_plain_part.false ∙ sym (plain_fail c.args.s.now 0 half (sym c.is_plain_part.ensures ∙ c.if-is_plain_part.false))

-- `utf8_screening::texts::easy_at` meets its contract. Assumes nothing.
use mathlib.Core.Path.{sym, ◌∙◌}
use Prim.Native.Nat.{◌≤◌}
use lib.ListN.{get_or}
use borrow.Author.Rules.{rules}
use borrow.Author.Tests.{tests}
use native.Mathlib.Omega.{arith}
use Rattle.utf8_screening.proofs.PlainLaws.{unit_plain, unit_two}
use Rattle.utf8_screening.proofs.texts.easy_at.Goals as goal

pub returns-then-odd_bit-eq0 : goal.returns-then-odd_bit-eq0
returns-then-odd_bit-eq0 c =
    let a = c.args in
    record { whole = λ lf z. sym (unit_plain a.s.now a.i c.odd_bit.result c.odd_bit.ensures c.requires c.if-odd_bit-eq0.true lf) }

pub returns-then-is_tail : goal.returns-then-is_tail
returns-then-is_tail c =
    let a = c.args in
    let h = c.if-contains.ensures.cases in
    let low : 194 ≤ get_or a.s.now a.i 0 = search (rules, tests) in
    let high : get_or a.s.now a.i 0 ≤ 223 = search (rules, tests) in
    record { whole = λ lf z. sym (unit_two a.s.now a.i low high (omega arith) (sym c.is_tail.ensures ∙ c.if-is_tail.true) lf) }

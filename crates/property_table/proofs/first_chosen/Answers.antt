-- `property_table::first_chosen` meets its contract. Assumes nothing.
use mathlib.Core.Path.{◌≡◌, sym, ap, ◌∙◌}
use mathlib.Core.List.{List}
use Prim.Native.Nat.{ℕ, ◌+◌, ◌*◌, ◌-◌, ◌<◌, ◌≤◌}
use native.Mathlib.Omega.{arith}
use lib.Bits.{bit_or}
use borrow.Author.Tests.{eqb-true}
use lib.ListN.{length, get_or}
use Rattle.property_table.specs.Rows.{initial, first_of, Lists}
use Rattle.property_table.proofs.RowLaws.{first_none, index_at}
use Rattle.property_table.proofs.Letters.{letter_bounds, letter_small}
use Rattle.property_table.proofs.first_chosen.Goals as goal

found : (t v : List ℕ) (w r : ℕ) → Lists t → get_or v 0 0 < 256 → w ≡ bit_or (get_or v 0 0) 32 → 97 ≤ w → w ≤ 122 → length v < 16
    → r ≡ get_or t (704 + (w - 97) * 16 + length v) 0 → r ≡ first_of (length v) (initial v) + length v
unfolding initial
found t v w r table octet e low high short q =
    let small = letter_small (get_or v 0 0) octet (omega arith) (omega arith) in
    let there : 97 + (w - 97) ≡ bit_or (get_or v 0 0) 32 = omega arith in
    q ∙ index_at t table (w - 97) (length v) (omega arith) short ∙ ap (λ (n : ℕ). first_of (length v) n + length v) (there ∙ small)

pub returns-then-is_empty : goal.returns-then-is_empty
returns-then-is_empty c =
    let v = c.args.name.now in
    let none : length v ≡ 0 = eqb-true (length v) 0 (sym c.is_empty.ensures ∙ c.if-is_empty.true) in
    sym (first_none (length v) (initial v) (λ g h l. omega arith))

pub returns-then-name-gt-LONGEST : goal.returns-then-name-gt-LONGEST
returns-then-name-gt-LONGEST c =
    let v = c.args.name.now in
    sym (first_none (length v) (initial v) (λ g h l. omega arith))

pub returns-then-letter-lt97 : goal.returns-then-letter-lt97
unfolding initial
returns-then-letter-lt97 c =
    let v = c.args.name.now in
    let octet : get_or v 0 0 < 256 = omega (arith, c.type_inv.name 0) in
    sym (first_none (length v) (initial v) (λ g h l. omega (arith, (letter_bounds (get_or v 0 0) octet l).0)))

pub returns-then-letter-gt122 : goal.returns-then-letter-gt122
unfolding initial
returns-then-letter-gt122 c =
    let v = c.args.name.now in
    let octet : get_or v 0 0 < 256 = omega (arith, c.type_inv.name 0) in
    sym (first_none (length v) (initial v) (λ g h l. omega (arith, (letter_bounds (get_or v 0 0) octet l).1)))

pub overflow_sub-result : goal.overflow_sub-result
overflow_sub-result c =
    let v = c.args.name.now in
    let octet : get_or v 0 0 < 256 = omega (arith, c.type_inv.name 0) in
    let r = found c.args.rows.now v c.wide.result c.wide-2.result c.requires octet c.wide.ensures (omega arith) (omega arith) (omega arith) c.wide-2.ensures in
    omega (arith, r)

pub returns : goal.returns
returns c =
    let v = c.args.name.now in
    let octet : get_or v 0 0 < 256 = omega (arith, c.type_inv.name 0) in
    let r = found c.args.rows.now v c.wide.result c.wide-2.result c.requires octet c.wide.ensures (omega arith) (omega arith) (omega arith) c.wide-2.ensures in
    omega (arith, r)

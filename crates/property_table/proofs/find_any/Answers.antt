-- `property_table::find_any` meets its contract. Assumes nothing.
use borrow.Author.Rules.{rules}
use mathlib.Core.Path.{◌≡◌, sym, ◌∙◌}
use Prim.Native.Nat.{ℕ, zero, suc, ◌-◌, ◌%◌, ◌<◌}
use native.Mathlib.Omega.{arith}
use Rattle.property_table.specs.Rows.{next_of}
use Rattle.property_table.specs.declared.Edition.TheVariants.{Second}
use Rattle.property_table.proofs.RowLaws.{Onward, along_first, onward_next, search_found}
use Rattle.property_table.proofs.find_any.Goals as goal

falls : (n m : ℕ) → 0 < n → n < 44 → m < 44 → (0 < m → n < m) → (44 - m) % 44 < (44 - n) % 44
falls n zero p h l f = omega arith
falls n (suc m) p h l f = let up = f (omega arith) in omega arith

pub loop-row-init : goal.loop-row-init
loop-row-init c = rw c.first_chosen-row.ensures (along_first c.args.name.now)

pub spells-requires : goal.spells-requires
spells-requires c = record { lists = search rules; row_lt_all = c.loop-row.invariant.low; row_value = c.loop-row.invariant.agree c.loop-row-test.true }

pub returns-then-spells : goal.returns-then-spells
returns-then-spells c =
    let v = c.args.name.now in
    let on = c.loop-row.invariant in
    record { value = sym (on.here c.loop-row-test.true ∙ search_found Second v c.loop-row.row on.low (sym c.spells.ensures ∙ c.if-spells.true)); upper_bound = on.low }

pub next_chosen-row-requires : goal.next_chosen-row-requires
next_chosen-row-requires c = record { lists = search rules; row_lt_all = c.loop-row.invariant.low }

pub loop-row-smaller : goal.loop-row-smaller
loop-row-smaller c =
    let onward : Onward c.args.name.now (suc c.loop-row.row) (next_of c.loop-row.row) =
    onward_next c.args.name.now c.loop-row.row c.loop-row-test.true c.loop-row.invariant (sym c.spells.ensures ∙ c.if-spells.false) in
    let l = c.loop-row in
    let on = onward in
    rw c.next_chosen-row.ensures (falls l.row (next_of l.row) c.loop-row-test.true l.invariant.low on.on.low on.after)

pub loop-row-preserved : goal.loop-row-preserved
loop-row-preserved c =
    let onward : Onward c.args.name.now (suc c.loop-row.row) (next_of c.loop-row.row) =
    onward_next c.args.name.now c.loop-row.row c.loop-row-test.true c.loop-row.invariant (sym c.spells.ensures ∙ c.if-spells.false) in
    rw c.next_chosen-row.ensures onward.on

pub returns : goal.returns
returns c =
    let over : c.loop-row.row ≡ 0 = omega arith in
    record { value = sym (c.loop-row.invariant.over over); upper_bound = omega arith }

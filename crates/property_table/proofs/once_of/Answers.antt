-- `property_table::once_of` meets its contract. Assumes nothing.
use mathlib.Core.Path.{◌≡◌, sym, subst, ◌∙◌}
use Prim.Native.Nat.{ℕ, ◌≤◌}
use Rattle.property_table.specs.Rows.{once_at}
use Rattle.property_table.proofs.RowLaws.{listed, once_low}
use Rattle.property_table.proofs.once_of.Goals as goal

pub returns : goal.returns
returns c =
    let e : c.entry.result ≡ once_at c.args.row = c.entry.ensures ∙ (listed c.args.rows.now c.requires.lists c.args.row c.requires.row_lt_all).mark in
    record { value = e; upper_bound = subst (λ (k : ℕ). k ≤ 32) (sym e) (once_low c.args.row c.requires.row_lt_all) }

-- `property_table::kind_of` meets its contract. Assumes nothing.
use mathlib.Core.Path.{◌≡◌, sym, subst, ◌∙◌}
use Prim.Native.Nat.{ℕ, ◌<◌}
use Rattle.property_table.specs.Rows.{kind_at}
use Rattle.property_table.proofs.RowLaws.{listed, kind_low}
use Rattle.property_table.proofs.kind_of.Goals as goal

pub returns : goal.returns
returns c =
    let e : c.entry.result ≡ kind_at c.args.row = c.entry.ensures ∙ (listed c.args.rows.now c.requires.lists c.args.row c.requires.row_lt_all).sort in
    record { value = e; upper_bound = subst (λ (k : ℕ). k < 12) (sym e) (kind_low c.args.row c.requires.row_lt_all) }

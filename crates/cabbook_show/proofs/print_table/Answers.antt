-- `cabbook_show::print_table` is safe. Assumes nothing.
use mathlib.Core.Path.{sym, ◌∙◌}
use Prim.Native.Nat.{ℕ}
use lib.ListN.{length-replicate}
use Rattle.cabbook_show.proofs.print_table.Goals as goal

pub slice_bounds-put_titles-end : goal.slice_bounds-put_titles-end
slice_bounds-put_titles-end c = sym (length-replicate {0} {A = ℕ} 524288 0)

pub slice_bounds-send-end : goal.slice_bounds-send-end
slice_bounds-send-end c = sym (c.put_titles-n.auto.room ∙ length-replicate {0} {A = ℕ} 524288 0)

pub slice_bounds-print_rows-end : goal.slice_bounds-print_rows-end
slice_bounds-print_rows-end c = sym (c.put_titles-n.auto.room ∙ length-replicate {0} {A = ℕ} 524288 0)

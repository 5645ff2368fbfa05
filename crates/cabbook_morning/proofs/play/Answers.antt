-- `cabbook_morning::play` meets its contract. Assumes nothing.
use mathlib.Core.Path.{sym}
use Prim.Native.Nat.{ℕ}
use lib.ListN.{length-replicate}
use Rattle.cabbook_morning.proofs.play.Goals as goal

pub slice_bounds-run_on-end : goal.slice_bounds-run_on-end
slice_bounds-run_on-end c = sym (length-replicate {0} {A = ℕ} 655360 0)

pub returns : goal.returns
returns c = c.print_summary.ensures.upper_bound

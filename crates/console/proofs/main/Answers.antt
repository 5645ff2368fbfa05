-- `console::main` is safe and ends. Assumes nothing.
use mathlib.Core.Path.{sym}
use Prim.Native.Nat.{ℕ}
use lib.ListN.{length-replicate}
use Rattle.console.proofs.main.Goals as goal

pub slice_bounds-serve-end : goal.slice_bounds-serve-end
slice_bounds-serve-end c = sym (length-replicate {0} {A = ℕ} 262144 0)

pub slice_bounds-serve-end-2 : goal.slice_bounds-serve-end-2
slice_bounds-serve-end-2 c = sym (length-replicate {0} {A = ℕ} 655360 0)

pub slice_bounds-serve-end-3 : goal.slice_bounds-serve-end-3
slice_bounds-serve-end-3 c = sym (length-replicate {0} {A = ℕ} 20000 0)

pub slice_bounds-serve-end-4 : goal.slice_bounds-serve-end-4
slice_bounds-serve-end-4 c = sym (length-replicate {0} {A = ℕ} 2097152 0)

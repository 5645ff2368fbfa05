-- `version3_text::marks::has_mark` meets its contract. Assumes nothing.
use mathlib.Core.Path.{◌≡◌}
use Prim.Native.Nat.{ℕ, ◌<◌, ◌+◌}
use mathlib.Core.Bool.{true}
use lib.ListN.{get_or}
use Rattle.version3_text.specs.Renewed.{unmarked}
use Rattle.version3_text.proofs.marks.has_mark.Given as goal

abbrev pub invariant-loop-b : goal.invariant-loop-b
invariant-loop-b l = l.hit ≡ 0 → (m : ℕ) → m < l.b-index → unmarked (get_or l.s (l.i + m) 0) ≡ true

-- The search for a code point's range at a place of the table. Assumes nothing.
use mathlib.Core.Path.{◌≡◌, refl}
use mathlib.Core.List.{List, [], ◌∷◌}
use Prim.Native.Nat.{ℕ, ◌-◌, ◌<◌, ◌≤◌}
use native.Mathlib.Omega.{arith}
use lib.ListN.{length, get_or, take, drop}
use lib.Seq.{take-length}
use Rattle.octets.specs.Pick.{pick}
use Rattle.octets.specs.Classes.{within}
use Rattle.cabbook_cells.specs.Ranges.{cells_in}

pub short : (l : List ℕ) (code : ℕ) → length l < 3 → cells_in l code ≡ 1
unfolding cells_in
short [] code h = refl
short (a ∷ []) code h = refl
short (a ∷ b ∷ []) code h = refl
short (a ∷ b ∷ c ∷ l) code h = absurd (omega arith)

-- the range with which a list of ranges starts, and the ranges after it
pub range_first : (t : List ℕ) (code : ℕ) → 3 ≤ length t
    → cells_in t code ≡ pick (within (get_or t 0 0) (get_or t 1 0) code) (get_or t 2 0) (cells_in (take (length t - 3) (drop 3 t)) code)
unfolding cells_in
range_first [] code h = absurd (omega arith)
range_first (a ∷ []) code h = absurd (omega arith)
range_first (a ∷ b ∷ []) code h = absurd (omega arith)
range_first (a ∷ b ∷ c ∷ l) code h =
    let e : length (a ∷ b ∷ c ∷ l) - 3 ≡ length l = omega arith in
    rw (e, take-length l)

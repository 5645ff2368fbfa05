-- `value_offsets::is_behind` meets its contract. Assumes nothing.
use mathlib.Core.Path.{◌≡◌, refl, ◌∙◌}
use mathlib.Core.Bool.{and-true}
use mathlib.Core.List.{List, [], ◌∷◌}
use Prim.Native.Nat.{ℕ}
use native.Mathlib.Omega.{arith}
use lib.Dec.{eqb}
use lib.ListN.{take}
use lib.Pointwise.{pointwise}
use Rattle.std.proofs.lemmas.Bool.Decides.{nat_tests}
use Rattle.value_offsets.specs.Minutes.{is_behind}
use Rattle.value_offsets.proofs.is_behind.Goals as goal

turned : (a b : ℕ) → eqb a b ≡ eqb b a
turned a b = grind (arith, nat_tests)

-- what the library says of the first octet
starts : (s : List ℕ) → pointwise eqb (45 ∷ []) (take 1 s) ≡ is_behind s
unfolding is_behind
starts [] = refl
starts (x ∷ xs) = simp (turned 45 x, and-true)

pub returns : goal.returns
returns c = c.starts_with.ensures.value ∙ starts c.args.s.now

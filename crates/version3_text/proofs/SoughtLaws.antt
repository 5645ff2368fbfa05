-- How far a test holds, as the library's search finds it. Assumes nothing.
use mathlib.Core.Path.{◌≡◌, refl, sym, ap, ◌∙◌}
use mathlib.Core.Bool.{Bool, true, false, not, cond}
use mathlib.Core.List.{List, [], ◌∷◌}
use Prim.Native.Nat.{ℕ, suc, ◌+◌, ◌<◌, ◌≤◌}
use native.Mathlib.Omega.{arith}
use lib.Dec.{ltb}
use lib.ListN.{length}
use Rattle.std.proofs.Common.{Option, None, Some}
use Rattle.std.specs.List.{position_or_len}
use Rattle.std.specs.Option.{unwrap_or}
use Rattle.std.proofs.lemmas.Grind.{common_steps}
use Rattle.octets.specs.Classes.{run, more}

-- where the test p holds the search's test q fails
module _ (p q : ℕ → Bool) (e : (b : ℕ) → p b ≡ not (q b)) where
  run_is : (l : List ℕ) → run p l ≡ position_or_len q l
  unfolding run
  run_is [] = refl
  run_is (x ∷ xs) = ap (λ (t : Bool). more t (run p xs)) (e x) ∙ step (q x) (run_is xs)
    where
      step : (t : Bool) → {m n : ℕ} → m ≡ n → more (not t) m ≡ cond (not t) (1 + n) 0
      step true e = refl
      step false e = omega arith

  run_le : (l : List ℕ) → run p l ≤ length l
  unfolding run
  run_le [] = omega arith
  run_le (x ∷ xs) = step (p x) (run_le xs)
    where
      step : (t : Bool) → {m n : ℕ} → m ≤ n → more t m ≤ suc n
      step true e = omega arith
      step false e = omega arith

  -- what the search answers
  abbrev pub sought : List ℕ → Option ℕ
  sought l = cond (ltb (position_or_len q l) (length l)) (Some (position_or_len q l)) None

  pub found : (l : List ℕ) (n : ℕ) → Some n ≡ sought l → (n ≡ run p l) × (n < length l)
  found l n h = grind (arith, common_steps, run_is l)

  pub missed : (l : List ℕ) → None ≡ sought l → run p l ≡ length l
  missed l h = grind (arith, common_steps, run_is l, run_le l)

  pub found_or : (l : List ℕ) (r : Option ℕ) → r ≡ sought l → (unwrap_or r (length l) ≡ run p l) × (unwrap_or r (length l) ≤ length l)
  found_or l (Some n) h = let f = found l n h in (f.0, omega arith)
  found_or l None h = (sym (missed l h), omega arith)

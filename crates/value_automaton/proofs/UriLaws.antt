-- A URI whose scheme has letters alone. Assumes nothing.
use mathlib.Core.Path.{◌≡◌, refl, ap, subst}
use mathlib.Core.Bool.{true}
use mathlib.Core.List.{List, [], ◌∷◌}
use Prim.Native.Nat.{ℕ, zero, suc, ◌+◌, ◌<◌, ◌≤◌}
use native.Mathlib.Nat.{add-zero}
use native.Mathlib.Numerals.{add-one}
use native.Mathlib.Omega.{arith}
use lib.ListN.{length, get_or, drop}
use lib.Seq.{drop-cons}
use Rattle.octets.specs.Counts.{all_in}
use Rattle.value_kinds.specs.Octets.{Octets, letter, scheme, colon, graphic, holds}
use Rattle.value_kinds.specs.Shapes.{Shape, one, ◌then◌, many, joined, Every, Matches}
use Rattle.value_kinds.specs.Kinds.{uri}
use Rattle.value_kinds.proofs.QuietLaws.{put, run_many, itself}

-- octets of a set, any number of them, and then what is of the shape t
module _ (p : Octets) (t : Shape) where
  none : (v : List ℕ) → Matches t v → Matches (many (one p) then t) v
  unfolding Matches joined Every
  none v k = ([], v, refl, ([], refl, tt), k)

  more : (x : ℕ) (v : List ℕ) → holds p x ≡ true → Matches (many (one p) then t) v → Matches (many (one p) then t) (x ∷ v)
  unfolding Matches
  more x v h (u, w, e, f, g) = (x ∷ u, w, ap (λ (l : List ℕ). x ∷ l) e, put (one p) x u (itself p x h) f, g)

  run_to : (s : List ℕ) (n i : ℕ) → i + n ≤ length s → ((k : ℕ) → i ≤ k → k < i + n → holds p (get_or s k 0) ≡ true) → Matches t (drop (i + n) s)
      → Matches (many (one p) then t) (drop i s)
  run_to s zero i h f k = none (drop i s) (subst (λ (m : ℕ). Matches t (drop m s)) (add-zero i) k)
  run_to s (suc n) i h f k =
      let q : i + suc n ≡ suc i + n = omega arith in
      let l : i < length s = omega arith in
      rw (drop-cons s i 0 l)
      (more (get_or s i 0) (drop (suc i) s) (f i (omega arith) (omega arith))
      (run_to s n (suc i) (omega arith) (λ j a b. f j (omega arith) (omega arith)) (subst (λ (m : ℕ). Matches t (drop m s)) q k)))

of_scheme : (x : ℕ) → holds letter x ≡ true → holds scheme x ≡ true
unfolding holds
of_scheme x h = simp h

one_then : (s : List ℕ) (i : ℕ) (p : Octets) (r : Shape) → holds p (get_or s i 0) ≡ true → i < length s → Matches r (drop (i + 1) s) → Matches (one p then r) (drop i s)
unfolding Matches
one_then s i p r e h k = rw (drop-cons s i 0 h) (get_or s i 0 ∷ [], drop (suc i) s, refl, (get_or s i 0, e, refl), rw (add-one i) at k)

pub uri_matches : (s : List ℕ) (e : ℕ) → (e ≡ 0 → ⊥) → e < length s → ((k : ℕ) → k < e → holds letter (get_or s k 0) ≡ true) → get_or s e 0 ≡ 58
    → all_in (holds graphic) (drop (e + 1) s) ≡ true → Matches uri s
unfolding uri holds
uri_matches s zero z h f c g = absurd (z refl)
uri_matches s (suc n) z h f c g =
    let q : suc n ≡ 1 + n = omega arith in
    one_then s 0 letter _ (f 0 (omega arith)) (omega arith)
    (run_to scheme _ s n 1 (omega arith) (λ k a b. of_scheme (get_or s k 0) (f k (omega arith)))
    (subst (λ (m : ℕ). Matches (one colon then many (one graphic)) (drop m s)) q
    (one_then s (suc n) colon (many (one graphic)) (rw c) h (run_many (one graphic) (holds graphic) (itself graphic) (drop (suc n + 1) s) g))))

-- Writing one octet or two next, and the end. Assumes nothing.
use mathlib.Core.Path.{◌≡◌, ap, ◌∙◌}
use mathlib.Core.List.{List, [], ◌∷◌, ◌++◌}
use Prim.Native.Nat.{ℕ, ◌+◌, ◌≤◌}
use native.Mathlib.Numerals.{add-one}
use native.Mathlib.Omega.{arith}
use lib.ListN.{length, drop, set}
use lib.Seq.{sets-eq}
use Rattle.octets.specs.Room.{overlay}
use Rattle.octets.proofs.Writes.{Written, room, put, finish}

module _ {whole rest d₀ d : List ℕ} {w : ℕ} (h : Written whole rest d₀ d w) where
  module _ (fits : length whole ≤ length d₀) (rest' : List ℕ) where
    pub one_room : (a : ℕ) → rest ≡ (a ∷ []) ++ rest' → w + 1 ≤ length d
    one_room a e = omega (arith, room h fits, ap length e)

    pub put_one : (a : ℕ) → rest ≡ (a ∷ []) ++ rest' → Written whole rest' d₀ (set d w a) (w + 1)
    put_one a e = put h (a ∷ []) rest' (set d w a) e (one_room a e) (sets-eq (a ∷ []) d w (one_room a e))

    pub two_room : (a b : ℕ) → rest ≡ (a ∷ b ∷ []) ++ rest' → w + 2 ≤ length d
    two_room a b e = omega (arith, room h fits, ap length e)

    pub put_two : (a b : ℕ) → rest ≡ (a ∷ b ∷ []) ++ rest' → Written whole rest' d₀ (set (set d w a) (w + 1) b) (w + 2)
    put_two a b e =
        put h (a ∷ b ∷ []) rest' (set (set d w a) (w + 1) b) e (two_room a b e)
        (ap (λ (k : ℕ). set (set d w a) k b) (add-one w) ∙ sets-eq (a ∷ b ∷ []) d w (two_room a b e))

  pub all_written : rest ≡ [] → d ≡ overlay whole d₀
  all_written e =
      let f = finish (rw e at h) in
      f.1 ∙ ap (λ (k : ℕ). whole ++ drop k d₀) f.0

-- Octets stored behind a list that was written to the start of room. Assumes nothing.
use mathlib.Core.Path.{◌≡◌, refl, sym, ap, ◌∙◌}
use mathlib.Core.List.{List, [], ◌∷◌, ◌++◌, append_assoc}
use Prim.Native.Nat.{ℕ, ◌+◌, ◌≤◌}
use native.Mathlib.Numerals.{add-one}
use native.Mathlib.Omega.{arith}
use lib.ListN.{length, drop, set, length-append, length-drop}
use lib.Seq.{take_at, drop_at, drop-drop, sets, sets-eq}
use Rattle.octets.specs.Room.{overlay}

module _ (d u vs : List ℕ) (n : ℕ) (e : n ≡ length u) (fits : n + length vs ≤ length d) where
  whole : length (overlay u d) ≡ length d
  whole = rw (length-append u (drop (length u) d), length-drop (length u) d) (omega arith)

  pub marked : sets (overlay u d) n vs ≡ overlay (u ++ vs) d
  marked =
      sets-eq vs (overlay u d) n (rw whole fits)
      ∙ ap (λ (r : List ℕ). r ++ vs ++ drop (n + length vs) (overlay u d)) (take_at u (drop (length u) d) n (sym e))
      ∙ ap (λ (r : List ℕ). u ++ vs ++ r)
      (sym (drop-drop (length vs) n (overlay u d)) ∙ ap (drop (length vs)) (drop_at u (drop (length u) d) n (sym e)) ∙ drop-drop (length vs) (length u) d)
      ∙ ap (λ (k : ℕ). u ++ vs ++ drop k d) (sym (length-append u vs))

-- the end of a line, and the space of a fold
pub end_mark : (d u : List ℕ) → length u + 2 ≤ length d → set (set (overlay u d) (length u) 13) (length u + 1) 10 ≡ overlay (u ++ (13 ∷ 10 ∷ [])) d
end_mark d u fits = rw (add-one (length u)) (marked d u (13 ∷ 10 ∷ []) (length u) refl fits)

pub fold_mark : (d u : List ℕ) (n : ℕ) → n ≡ length u + 2 → length u + 3 ≤ length d
    → set (overlay (u ++ (13 ∷ 10 ∷ [])) d) n 32 ≡ overlay (u ++ (13 ∷ 10 ∷ 32 ∷ [])) d
fold_mark d u n e fits =
    marked d (u ++ (13 ∷ 10 ∷ [])) (32 ∷ []) n (e ∙ sym (length-append u (13 ∷ 10 ∷ []))) (omega arith)
    ∙ ap (λ (r : List ℕ). overlay r d) (append_assoc u (13 ∷ 10 ∷ []) (32 ∷ []))

-- A list that is written to the start of room piece by piece: one octet more, or a piece put to the start of the tail that is left.
-- Assumes nothing.
use mathlib.Core.Path.{◌≡◌, sym, ap, ◌∙◌}
use mathlib.Core.List.{List, [], ◌∷◌, ◌++◌, append-nil, append_assoc}
use Prim.Native.Nat.{ℕ, suc, ◌+◌, ◌-◌, ◌<◌, ◌≤◌}
use native.Mathlib.Numerals.{add-one}
use native.Mathlib.Omega.{arith}
use lib.ListN.{length, take, drop, set, length-drop, drop_of_length-le}
use lib.Seq.{take_all, drop-drop, set_split, append_snoc}
use borrow.Rule.Slice.PartMut.{put_mid}
use Rattle.octets.specs.Room.{overlay}
use Rattle.octets.proofs.Writes.{Written, put}

module _ {whole rest d₀ d : List ℕ} {w : ℕ} (h : Written whole rest d₀ d w) where
  pub put_octet : (b : ℕ) (rest' : List ℕ) → rest ≡ (b ∷ []) ++ rest' → w < length d → Written whole rest' d₀ (set d w b) (w + 1)
  put_octet b rest' e fits =
      put h (b ∷ []) rest' (set d w b) e (omega arith)
      (set_split d w b fits ∙ sym (append_snoc (take w d) b (drop (suc w) d)) ∙ ap (λ (n : ℕ). take w d ++ (b ∷ []) ++ drop n d) (sym (add-one w)))

  -- x was written next, to the start of the tail from w on
  pub put_part : (x rest' part : List ℕ) → rest ≡ x ++ rest' → w + length x ≤ length d → part ≡ overlay x (take (length d - w) (drop w d))
      → Written whole rest' d₀ (put_mid w (length d - w) d part) (w + length x)
  put_part x rest' part e fits q =
      let all : take (length d - w) (drop w d) ≡ drop w d = take_all (length d - w) (drop w d) (rw (length-drop w d) (omega arith)) in
      let over : length (drop w d) ≤ length d - w = rw (length-drop w d) (omega arith) in
      let none : drop (length d - w) (drop w d) ≡ [] = drop_of_length-le (drop w d) over in
      put h x rest' (put_mid w (length d - w) d part) e fits
      (ap (λ (r : List ℕ). take w d ++ (part ++ r)) none
      ∙ ap (λ (r : List ℕ). take w d ++ r)
      (append-nil part ∙ q ∙ ap (λ (r : List ℕ). overlay x r) all ∙ ap (λ (r : List ℕ). x ++ r) (drop-drop (length x) w d))
      ∙ sym (append_assoc (take w d) x (drop (w + length x) d)))

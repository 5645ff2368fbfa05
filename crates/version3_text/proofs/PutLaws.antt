-- Two pieces written one after the other to the start of room, and the rest of a list that is lent from a place on. Assumes nothing.
use mathlib.Core.Path.{◌≡◌, refl, sym, ap, ◌∙◌}
use mathlib.Core.List.{List, [], ◌∷◌, ◌++◌, append-nil}
use Prim.Native.Nat.{ℕ, ◌+◌, ◌-◌, ◌≤◌}
use native.Mathlib.Nat.{zero-add}
use native.Mathlib.Omega.{arith}
use lib.ListN.{length, take, drop, set, length-append, length-drop}
use lib.Seq.{take_all}
use borrow.Rule.Slice.PartMut.{put_mid}
use Rattle.octets.specs.Room.{overlay}
use Rattle.octets.proofs.Writes.{Written, start, put}
use Rattle.octets.proofs.PieceLaws.{all_written}
use Rattle.line_unfolding.proofs.PutLaws.{put_part}

-- a list from a place on, lent to its end
pub rest_of : (a : ℕ) (l : List ℕ) → take (length l - a) (drop a l) ≡ drop a l
rest_of a l = take_all (length l - a) (drop a l) (rw length-drop (omega arith))

-- room keeps its length
pub overlay_length : (x d : List ℕ) → length x ≤ length d → length (overlay x d) ≡ length d
overlay_length x d h = length-append x (drop (length x) d) ∙ rw (length-drop (length x) d) (omega arith)

module _ (d₀ d₁ x y p : List ℕ) (w : ℕ) (e : w ≡ length x) (first : d₁ ≡ overlay x d₀) (fits : length x + length y ≤ length d₀) where
  same : length d₁ ≡ length d₀
  same = ap length first ∙ overlay_length x d₀ (omega arith)

  begun : Written (x ++ y) y d₀ d₁ (length x)
  begun = rw zero-add at (put (start (x ++ y) d₀) x y d₁ refl (omega arith) (rw zero-add first))

  -- y was written to the start of the tail behind x
  pub two_pieces : p ≡ overlay y (take (length d₁ - w) (drop w d₁)) → put_mid w (length d₁ - w) d₁ p ≡ overlay (x ++ y) d₀
  two_pieces q = rw e (all_written (put_part begun y [] p (sym (append-nil y)) (omega (arith, same)) (rw e at q)) refl)

-- an octet written to the start of room
pub lead_first : (a : ℕ) (d : List ℕ) → 1 ≤ length d → set d 0 a ≡ overlay (a ∷ []) d
lead_first a [] h = absurd (omega arith)
lead_first a (x ∷ xs) h = refl

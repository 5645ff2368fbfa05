-- Numbers put one after the other, and where parts end. Assumes nothing.
use mathlib.Core.Path.{◌≡◌, refl, sym, ap, ◌∙◌}
use mathlib.Core.Bool.{Bool, true, false}
use mathlib.Core.List.{List, [], ◌++◌}
use Prim.Native.Nat.{ℕ, zero, suc, ◌+◌, ◌-◌, ◌*◌, ◌<◌, ◌≤◌}
use native.Mathlib.Numerals.{add-one}
use native.Mathlib.Omega.{arith}
use lib.Dec.{ltb}
use lib.ListN.{length, get_or, take, drop, set, length-take, length-drop}
use Rattle.octets.specs.Pick.{pick}
use Rattle.octets.specs.Slices.{part}
use Rattle.octets.specs.Room.{overlay}
use Rattle.octets.proofs.Copies.{copy_step, copy_done}
use Rattle.console_parts.specs.Parts.{number_length, number_at, part_end, end_of, part_of, source_at, sources_up_to, numbers_from}
use Rattle.merge_sources.specs.declared.Source.{Source}

picked_short : (b c : Bool) (s t : List ℕ) → length t ≤ length s → length (pick b [] (pick c [] t)) ≤ length s
picked_short true c s t h = omega arith
picked_short false true s t h = omega arith
picked_short false false s t h = h

pub part_short : (s : List ℕ) (a e : ℕ) → length (part s a e) ≤ length s
part_short s a e = picked_short (ltb (length s) e) (ltb e a) s (take (e - a) (drop a s)) (simp (length-take, length-drop) (omega arith))

pub part_law : (s : List ℕ) (k f t : ℕ) → f ≡ end_of s k → t ≡ end_of s (k + 1) → part s (f + number_length) t ≡ part_of s k
unfolding part_of
part_law s k f t ef et = rw (ef, et, add-one)

pub end_next : (s : List ℕ) (i e r : ℕ) → e ≡ end_of s i → r ≡ part_end s e → r ≡ end_of s (i + 1)
unfolding end_of
end_next s i e r h k = k ∙ rw (add-one, h)

pub sources_next : (s : List ℕ) (a : List Source) (i : ℕ) (e : Source) → a ≡ sources_up_to s i → e ≡ source_at s i → set a i e ≡ sources_up_to s (i + 1)
unfolding sources_up_to
sources_next s a i e h k = rw (add-one, h, k)

pub numbers_length : (s : List ℕ) (p k : ℕ) → length (numbers_from s p k) ≡ k
unfolding numbers_from
numbers_length s p zero = refl
numbers_length s p (suc k) = ap suc (numbers_length s (p + number_length) k)

pub numbers_at : (s : List ℕ) (p k i : ℕ) → i < k → get_or (numbers_from s p k) i 0 ≡ number_at s (p + i * number_length)
unfolding numbers_from
numbers_at s p zero i h = absurd (omega arith)
numbers_at s p (suc k) zero h = let e : p ≡ p + 0 * number_length = omega arith in ap (number_at s) e
numbers_at s p (suc k) (suc i) h =
    let e : p + number_length + i * number_length ≡ p + suc i * number_length = omega arith in
    numbers_at s (p + number_length) k i (omega arith) ∙ ap (number_at s) e

-- a turn of the loop that puts n numbers to the front of d, and its end
module _ (s d e : List ℕ) (n i : ℕ) (h : e ≡ take i (numbers_from s 0 n) ++ drop i d) where
  pub put_step : n ≤ length d → i < n → (x : ℕ) → x ≡ number_at s (i * number_length) → set e i x ≡ take (i + 1) (numbers_from s 0 n) ++ drop (i + 1) d
  put_step k l x g =
      let z : 0 + i * number_length ≡ i * number_length = omega arith in
      let m : i < length (numbers_from s 0 n) = rw (numbers_length s 0 n) l in
      ap (set e i) (g ∙ ap (number_at s) (sym z) ∙ sym (numbers_at s 0 n i l)) ∙ copy_step d (numbers_from s 0 n) e i (omega arith) m h

  pub put_done : n ≤ i → i ≤ n → e ≡ overlay (numbers_from s 0 n) d
  put_done k l = copy_done d (numbers_from s 0 n) e i (rw (numbers_length s 0 n) k) (rw (numbers_length s 0 n) l) h

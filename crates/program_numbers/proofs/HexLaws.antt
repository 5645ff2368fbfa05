-- The laws of pairs of hexadecimal digits, and of the octets written to a room. Assumes nothing.
use mathlib.Core.Path.{◌≡◌, refl}
use mathlib.Core.Bool.{true, false, not, ◌&&◌}
use mathlib.Core.List.{List, [], ◌∷◌}
use Prim.Native.Nat.{ℕ, zero, suc, ◌+◌, ◌*◌, ◌/◌, ◌%◌, ◌≤◌, ◌<◌}
use native.Mathlib.Omega.{arith}
use lib.Dec.{eqb}
use lib.ListN.{length, get_or}
use borrow.Author.Tests.{ltb-true, lt-ltb, le-ltb}
use Rattle.std.specs.Prelude.{Some, None}
use Rattle.octets.specs.Ascii.{octets}
use Rattle.octets.specs.Room.{overlay}
use Rattle.octets.specs.Counts.{all_in}
use Rattle.program_numbers.specs.Alike.{alike}
use Rattle.program_numbers.specs.Hex.{value, hexed, digit_of, paired, decoded, taken, stored, octets_of}
use Rattle.octets.proofs.Bools.{and_both}
use Rattle.program_numbers.proofs.ListLaws.{each}

module _ (w : List ℕ) (i : ℕ) (e : all_in hexed w ≡ true) (h : i < length w) where
  pub digit_known : digit_of (get_or w i 0) ≡ Some (value (get_or w i 0))
  unfolding digit_of
  digit_known = rw (each hexed w i e h)

  pub digit_low : value (get_or w i 0) < 16
  unfolding hexed
  digit_low = ltb-true (value (get_or w i 0)) 16 (each hexed w i e h)

-- half as many octets as digits
pub decoded_length : (w : List ℕ) → length (decoded w) ≡ length w / 2
unfolding decoded
decoded_length [] = refl
decoded_length (x ∷ []) = refl
decoded_length (x ∷ y ∷ w) = omega (arith, decoded_length w)

pub decoded_at : (w : List ℕ) (i : ℕ) → i < length w / 2 → get_or (decoded w) i 0 ≡ 16 * value (get_or w (2 * i) 0) + value (get_or w (2 * i + 1) 0)
unfolding decoded
decoded_at [] i h = absurd (omega arith)
decoded_at (x ∷ []) i h = absurd (omega arith)
decoded_at (x ∷ y ∷ w) zero h = refl
decoded_at (x ∷ y ∷ w) (suc i) h =
    let high : 2 * suc i ≡ suc (suc (2 * i)) = omega arith in
    let low : 2 * suc i + 1 ≡ suc (suc (2 * i + 1)) = omega arith in
    rw (low, high) (decoded_at w i (omega arith))

pub paired_all : (w : List ℕ) → paired w ≡ true → all_in hexed w ≡ true
unfolding paired
paired_all w e =
    (and_both (not (eqb (length w % 2) 1)) (all_in hexed w) (and_both (not (eqb (length w) 0)) (not (eqb (length w % 2) 1) && all_in hexed w) e).1).1

-- what a word gives: none, bad, more than the room holds, or octets
module _ (w room : List ℕ) where
  pub octets_none : alike w (octets "-") ≡ true → octets_of w room ≡ taken (Some 0) room
  unfolding octets_of stored
  octets_none e = rw (e, le-ltb (length room) 0 (omega arith))

  pub octets_bad : alike w (octets "-") ≡ false → paired w ≡ false → octets_of w room ≡ taken None room
  unfolding octets_of
  octets_bad e g = rw (e, g)

  pub octets_over : alike w (octets "-") ≡ false → paired w ≡ true → length room < length w / 2 → octets_of w room ≡ taken None room
  unfolding octets_of stored
  octets_over e g h = rw (e, g, decoded_length w, lt-ltb (length room) (length w / 2) h)

  pub octets_all : alike w (octets "-") ≡ false → paired w ≡ true → length w / 2 ≤ length room
      → octets_of w room ≡ taken (Some (length w / 2)) (overlay (decoded w) room)
  unfolding octets_of stored
  octets_all e g h = rw (e, g, decoded_length w, le-ltb (length room) (length w / 2) h)

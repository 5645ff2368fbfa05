-- The laws of the request of a line. Assumes nothing.
use mathlib.Core.Path.{◌≡◌, refl, sym}
use mathlib.Core.Bool.{Bool, true, false}
use mathlib.Core.List.{List, [], ◌∷◌}
use lib.Pointwise.{pointwise}
use lib.Dec.{eqb}
use mir.Val.{bool_byte}
use Rattle.octets.specs.Classes.{bit}
use Rattle.program_numbers.specs.Alike.{alike}
use Prim.Native.Nat.{ℕ, ◌+◌, ◌-◌, ◌<◌, ◌≤◌}
use native.Mathlib.Omega.{arith}
use lib.ListN.{length}
use Rattle.std.specs.Prelude.{Option, Some, None}
use borrow.Author.Tests.{lt-ltb, le-ltb, eq-eqb, ne_eqb}
use Rattle.console_words.specs.Words.{words_of, word_at}
use Rattle.program_numbers.specs.Decimal.{number_of}
use Rattle.program_numbers.specs.Hex.{Taken, taken, octets_of}
use Rattle.console_requests.specs.Names.{Row, row_of}
use Rattle.console_requests.specs.Requests.{requested, number_at, octets_at, make_request, whole, read, read_named, request_of}

-- a request by its row, once that is known
pub of_row : (line room w : List ℕ) (k : ℕ) (r : Option Row) → w ≡ word_at line 0 → length (words_of line) ≡ k + 1 → r ≡ row_of w k
    → request_of line room ≡ read_named r line room
unfolding request_of
of_row line room w k r e n h =
    let j : length (words_of line) - 1 ≡ k = omega arith in
    rw (sym e, j, sym h)

-- a number that is not there, and one that is
pub no_number : (w : List ℕ) (k n : ℕ) → n < k → number_at w k n ≡ Some 0
unfolding number_at
no_number w k n h = rw (lt-ltb n k h)

pub a_number : (w : List ℕ) (k n : ℕ) → k ≤ n → number_at w k n ≡ number_of w
unfolding number_at
a_number w k n h = rw (le-ltb n k h)

pub no_octets : (w : List ℕ) (o : ℕ) (room : List ℕ) → o ≡ 0 → octets_at w o room ≡ taken (Some 0) room
unfolding octets_at
no_octets w o room h = rw (eq-eqb o 0 h)

pub the_octets : (w : List ℕ) (o : ℕ) (room : List ℕ) → (o ≡ 0 → ⊥) → octets_at w o room ≡ octets_of w room
unfolding octets_at
the_octets w o room h = rw (ne_eqb o 0 h)

-- a request by what its words are; n is the row's count of numbers
module _ (r : Row) (line room : List ℕ) (n : ℕ) (e : n ≡ r.numbers) where
  read_at : read r line room
      ≡ whole r.name (number_at (word_at line 1) 1 n) (number_at (word_at line 2) 2 n) (number_at (word_at line 3) 3 n) (octets_at (word_at line (n + 1)) r.octets room) room
  read_at = rw e

  -- x, y, v and z are what the words were read as
  module _ (x : Option ℕ) (p : x ≡ number_at (word_at line 1) 1 n) where
    pub first_bad : x ≡ None → read r line room ≡ requested None room
    first_bad h = rw (read_at, sym p, h)

    module _ (y : Option ℕ) (q : y ≡ number_at (word_at line 2) 2 n) (a : ℕ) (f : x ≡ Some a) where
      pub second_bad : y ≡ None → read r line room ≡ requested None room
      second_bad h = rw (read_at, sym p, f, sym q, h)

      module _ (v : Option ℕ) (u : v ≡ number_at (word_at line 3) 3 n) (b : ℕ) (g : y ≡ Some b) where
        pub third_bad : v ≡ None → read r line room ≡ requested None room
        third_bad h = rw (read_at, sym p, f, sym q, g, sym u, h)

        module _ (c o : ℕ) (k : v ≡ Some c) (d : o ≡ r.octets) (z : Option ℕ) (out : List ℕ) (s : taken z out ≡ octets_at (word_at line (n + 1)) o room) where
          pub all_read : read r line room ≡ requested (make_request r.name a b c z) out
          all_read = rw (read_at, sym p, f, sym q, g, sym u, k, sym d, sym s)

-- the last word is the octets, or there are none
pub octets_not : (t : Bool) → t ≡ false → (w room : List ℕ) → taken (Some 0) room ≡ octets_at w (bit t 1) room
octets_not true e w room = cc
octets_not false e w room = sym (no_octets w 0 room refl)

pub octets_read : (t : Bool) → t ≡ true → (v w room : List ℕ) → v ≡ w → octets_of v room ≡ octets_at w (bit t 1) room
octets_read true e v w room h = rw h (sym (the_octets w 1 room (λ z. omega arith)))
octets_read false e v w room h = cc

pub read_with : (r : Row) (line room : List ℕ) (n : ℕ) → n ≡ r.numbers → (a b c : ℕ) (t : Taken) → Some a ≡ number_at (word_at line 1) 1 n
    → Some b ≡ number_at (word_at line 2) 2 n → Some c ≡ number_at (word_at line 3) 3 n
    → t ≡ octets_at (word_at line (n + 1)) r.octets room → requested (make_request r.name a b c t.answer) t.room ≡ read r line room
read_with r line room n q a b c t e f g h = rw (← q, ← e, ← f, ← g, ← h)

-- the library's comparison of two texts, and its number of a test
eqb_turned : (x y : ℕ) → eqb x y ≡ eqb y x
eqb_turned x y = grind arith

pub pointwise_alike : (a b : List ℕ) → pointwise eqb a b ≡ alike b a
unfolding alike
pointwise_alike [] [] = refl
pointwise_alike [] (y ∷ ys) = refl
pointwise_alike (x ∷ xs) [] = refl
pointwise_alike (x ∷ xs) (y ∷ ys) = rw (eqb_turned x y, pointwise_alike xs ys)

pub byte_bit : (t : Bool) → bool_byte t ≡ bit t 1
byte_bit true = refl
byte_bit false = refl

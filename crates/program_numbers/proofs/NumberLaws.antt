-- The laws of a number in decimal digits, at a place of a word. Assumes nothing.
use mathlib.Core.Path.{◌≡◌, refl}
use mathlib.Core.Bool.{Bool, true, false, ◌&&◌, and-false}
use mathlib.Core.List.{List, [], ◌∷◌, ◌++◌}
use Prim.Native.Nat.{ℕ, ◌+◌, ◌*◌, ◌≤◌, ◌<◌}
use native.Mathlib.Numerals.{add-one}
use native.Mathlib.Omega.{arith}
use lib.Dec.{leb}
use lib.ListN.{length, get_or, drop, drop_of_length-le}
use lib.Seq.{drop-cons}
use borrow.Author.Tests.{le-leb, lt-leb}
use Rattle.std.specs.Prelude.{Option, Some, None}
use Rattle.numbers.specs.Limits as limit
use Rattle.octets.specs.Pick.{pick}
use Rattle.octets.specs.Counts.{all_in}
use Rattle.program_numbers.specs.Decimal.{ones, digit, digit_of, value_from, number_from}

-- an octet that is no digit, and one that is
pub no_digit : (b : ℕ) → digit_of b ≡ None → digit b ≡ false
unfolding digit_of
no_digit b e = by (digit b) e
  where
    by : (t : Bool) → pick t (Some (ones b)) None ≡ None → t ≡ false
    by true e = cc
    by false e = refl

pub a_digit : (b n : ℕ) → digit_of b ≡ Some n → (digit b ≡ true) × (ones b ≡ n)
unfolding digit_of
a_digit b n e = by (digit b) e
  where
    by : (t : Bool) → pick t (Some (ones b)) None ≡ Some n → (t ≡ true) × (ones b ≡ n)
    by true e = (refl, cc)
    by false e = cc

-- digits only make a number larger
pub value_grows : (n : ℕ) (w : List ℕ) → n ≤ value_from n w
unfolding value_from
value_grows n [] = omega arith
value_grows n (x ∷ xs) = omega (arith, value_grows (10 * n + ones x) xs)

-- what digits say in two parts
pub value_join : (n : ℕ) (v w : List ℕ) → value_from n (v ++ w) ≡ value_from (value_from n v) w
unfolding value_from
value_join n [] w = refl
value_join n (x ∷ xs) w = value_join (10 * n + ones x) xs w

module _ (n : ℕ) (s : List ℕ) (i : ℕ) where
  here : Bool → ℕ → Option ℕ
  here t v = pick (t && leb v limit.largest64) (Some v) None

  from_at : i < length s
      → number_from n (drop i s) ≡ here (digit (get_or s i 0) && all_in digit (drop (i + 1) s)) (value_from (10 * n + ones (get_or s i 0)) (drop (i + 1) s))
  unfolding number_from all_in value_from here
  from_at h = rw (add-one, drop-cons s i 0)

  pub number_stop : i < length s → digit (get_or s i 0) ≡ false → number_from n (drop i s) ≡ None
  unfolding here
  number_stop h e = rw (from_at h, e)

  pub number_large : i < length s → limit.largest64 < 10 * n + ones (get_or s i 0) → number_from n (drop i s) ≡ None
  unfolding here
  number_large h g =
      let m = 10 * n + ones (get_or s i 0) in
      let over : limit.largest64 < value_from m (drop (i + 1) s) = omega (arith, value_grows m (drop (i + 1) s)) in
      rw (from_at h, lt-leb (value_from m (drop (i + 1) s)) limit.largest64 over, and-false)

  pub number_step : i < length s → digit (get_or s i 0) ≡ true → number_from n (drop i s) ≡ number_from (10 * n + ones (get_or s i 0)) (drop (i + 1) s)
  unfolding here number_from
  number_step h e = rw (from_at h, e)

  pub number_end : length s ≤ i → n ≤ limit.largest64 → number_from n (drop i s) ≡ Some n
  unfolding number_from all_in value_from
  number_end h g = rw (drop_of_length-le s h, le-leb n limit.largest64 g)

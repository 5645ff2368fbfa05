-- Kinds 9, 10 and 11 in plain words: the two-digit parts, each by one computed test over the numbers below 100. Assumes nothing.
use mathlib.Core.Path.{◌≡◌, refl}
use mathlib.Core.Bool.{Bool, true, false, not, ◌&&◌, false≢true}
use mathlib.Core.List.{List, ◌++◌}
use Prim.Native.Nat.{ℕ, ◌/◌, ◌%◌, ◌<◌}
use lib.Dec.{leb, ltb, eqb}
use Rattle.octets.specs.Pick.{pick}
use Rattle.octets.specs.Classes.{digit as is_digit}
use Rattle.octets.proofs.Upto.{upto, alike}
use Rattle.value_kinds.specs.Octets.{among, holds}
use Rattle.value_kinds.specs.Shapes.{Shape, never, empty, ◌or◌, Matches, nullable, chain, is_never, fork, derivative}
use Rattle.value_kinds.specs.Dates.{months, month, day28, day29, day30, day31, hour, minute, second, last_minute, offset, zoned, past_minute, past_hour, clock, last_second, timed, full_time, leap_full, common_full}
use Rattle.value_laws.proofs.Pairs.{figured, led, starts, Pair, pair}
use Rattle.value_laws.specs.Calendar.{two, is_leap, days}

-- two digits whose number passes a test, and then the shape a
pub record Tested (r : Shape) (t : ℕ → Bool) (a : Shape) : Type 0 where
  pub to : (v : List ℕ) → Matches r v → (n : ℕ) × (w : List ℕ) × (n < 100) × (t n ≡ true) × (v ≡ two n ++ w) × Matches a w
  pub from : (n : ℕ) (w : List ℕ) → n < 100 → t n ≡ true → Matches a w → Matches r (two n ++ w)

pub opened : (t : Bool) (r : Shape) (w : List ℕ) → Matches (pick t r never) w → (t ≡ true) × Matches r w
unfolding Matches
opened true r w h = (refl, h)
opened false r w h = absurd h

pub shut : (t : Bool) (r : Shape) (w : List ℕ) → t ≡ true → Matches r w → Matches (pick t r never) w
shut true r w e h = h
shut false r w e h = absurd (false≢true e)

tested : (r : Shape) (t : ℕ → Bool) (a : Shape) → Pair r (λ n. pick (t n) a never) → Tested r t a
tested r t a p =
    record {
      to = λ v h.
          let x = p.to v h in
          let y = opened (t x.0) a x.1 x.4 in
          (x.0, x.1, x.2, y.0, x.3, y.1);
      from = λ n w l e h. p.from n w l (shut (t n) a w e h);
    }

abbrev pub below : ℕ → ℕ → Bool
below k n = ltb n k

abbrev pub in_month : ℕ → ℕ → Bool
in_month k n = leb 1 n && leb n k

module _ where
  pub hour_offset : Tested (hour last_minute) (below 24) last_minute
  unfolding upto starts led figured nullable derivative chain fork is_never holds is_digit among hour minute last_minute
  hour_offset = tested _ _ _ (pair (hour last_minute) (λ n. pick (below 24 n) last_minute never) refl refl refl)

  pub minute_last : Tested (minute empty) (below 60) empty
  unfolding upto starts led figured nullable derivative chain fork is_never holds is_digit among minute
  minute_last = tested _ _ _ (pair (minute empty) (λ n. pick (below 60 n) empty never) refl refl refl)

  pub second_last : Tested (second empty) (below 61) empty
  unfolding upto starts led figured nullable derivative chain fork is_never holds is_digit among second
  second_last = tested _ _ _ (pair (second empty) (λ n. pick (below 61 n) empty never) refl refl refl)

  pub minute_alone : Tested (minute last_second) (below 60) last_second
  unfolding upto starts led figured nullable derivative chain fork is_never holds is_digit among minute last_second second
  minute_alone = tested _ _ _ (pair (minute last_second) (λ n. pick (below 60 n) last_second never) refl refl refl)

  pub second_zoned : Tested (second zoned) (below 61) zoned
  unfolding upto starts led figured nullable derivative chain fork is_never holds is_digit among second zoned offset hour last_minute minute
  second_zoned = tested _ _ _ (pair (second zoned) (λ n. pick (below 61 n) zoned never) refl refl refl)

  pub minute_past : Tested (minute past_minute) (below 60) past_minute
  unfolding upto starts led figured nullable derivative chain fork is_never holds is_digit among past_minute second zoned offset hour last_minute minute
  minute_past = tested _ _ _ (pair (minute past_minute) (λ n. pick (below 60 n) past_minute never) refl refl refl)

  pub hour_past : Tested (hour past_hour) (below 24) past_hour
  unfolding upto starts led figured nullable derivative chain fork is_never holds is_digit among past_hour past_minute second zoned offset hour last_minute minute
  hour_past = tested _ _ _ (pair (hour past_hour) (λ n. pick (below 24 n) past_hour never) refl refl refl)

  pub minute_full : Tested (minute (second zoned)) (below 60) (second zoned)
  unfolding upto starts led figured nullable derivative chain fork is_never holds is_digit among second zoned offset hour last_minute minute
  minute_full = tested _ _ _ (pair (minute (second zoned)) (λ n. pick (below 60 n) (second zoned) never) refl refl refl)

  pub hour_full : Tested (hour (minute (second zoned))) (below 24) (minute (second zoned))
  unfolding upto starts led figured nullable derivative chain fork is_never holds is_digit among second zoned offset hour last_minute minute
  hour_full = tested _ _ _ (pair (hour (minute (second zoned))) (λ n. pick (below 24 n) (minute (second zoned)) never) refl refl refl)

  pub month_alone : Tested month (in_month 12) empty
  unfolding upto starts led figured nullable derivative chain fork is_never holds is_digit among month
  month_alone = tested _ _ _ (pair month (λ n. pick (in_month 12 n) empty never) refl refl refl)

-- the day of a month of n days
abbrev pub day_of : ℕ → Shape → Shape
day_of n r = pick (eqb n 28) (day28 r) (pick (eqb n 29) (day29 r) (pick (eqb n 30) (day30 r) (day31 r)))

-- what may follow a month, February having so many days
abbrev pub monthly : ℕ → Shape → ℕ → Shape
monthly feb r m = pick (in_month 12 m) (day_of (days feb m) r) never

module _ where
  pub d28 : Tested (day28 timed) (in_month 28) timed
  unfolding upto starts led figured nullable derivative chain fork is_never holds is_digit among day28 timed clock hour
  d28 = tested _ _ _ (pair (day28 timed) (λ n. pick (in_month 28 n) timed never) refl refl refl)

  pub d29 : Tested (day29 timed) (in_month 29) timed
  unfolding upto starts led figured nullable derivative chain fork is_never holds is_digit among day29 timed clock hour
  d29 = tested _ _ _ (pair (day29 timed) (λ n. pick (in_month 29 n) timed never) refl refl refl)

  pub d30 : Tested (day30 timed) (in_month 30) timed
  unfolding upto starts led figured nullable derivative chain fork is_never holds is_digit among day30 timed clock hour
  d30 = tested _ _ _ (pair (day30 timed) (λ n. pick (in_month 30 n) timed never) refl refl refl)

  pub d31 : Tested (day31 timed) (in_month 31) timed
  unfolding upto starts led figured nullable derivative chain fork is_never holds is_digit among day31 timed clock hour
  d31 = tested _ _ _ (pair (day31 timed) (λ n. pick (in_month 31 n) timed never) refl refl refl)

  pub f28 : Tested (day28 full_time) (in_month 28) full_time
  unfolding upto starts led figured nullable derivative chain fork is_never holds is_digit among day28 full_time
  f28 = tested _ _ _ (pair (day28 full_time) (λ n. pick (in_month 28 n) full_time never) refl refl refl)

  pub f29 : Tested (day29 full_time) (in_month 29) full_time
  unfolding upto starts led figured nullable derivative chain fork is_never holds is_digit among day29 full_time
  f29 = tested _ _ _ (pair (day29 full_time) (λ n. pick (in_month 29 n) full_time never) refl refl refl)

  pub f30 : Tested (day30 full_time) (in_month 30) full_time
  unfolding upto starts led figured nullable derivative chain fork is_never holds is_digit among day30 full_time
  f30 = tested _ _ _ (pair (day30 full_time) (λ n. pick (in_month 30 n) full_time never) refl refl refl)

  pub f31 : Tested (day31 full_time) (in_month 31) full_time
  unfolding upto starts led figured nullable derivative chain fork is_never holds is_digit among day31 full_time
  f31 = tested _ _ _ (pair (day31 full_time) (λ n. pick (in_month 31 n) full_time never) refl refl refl)

  -- months
  pub leap_months : Pair (months (day29 timed) (day30 timed) (day31 timed)) (monthly 29 timed)
  unfolding upto starts led figured nullable derivative chain fork is_never holds is_digit among months day28 day29 day30 day31 timed clock hour days
  leap_months = pair (months (day29 timed) (day30 timed) (day31 timed)) (monthly 29 timed) refl refl refl

  pub common_months : Pair (months (day28 timed) (day30 timed) (day31 timed)) (monthly 28 timed)
  unfolding upto starts led figured nullable derivative chain fork is_never holds is_digit among months day28 day29 day30 day31 timed clock hour days
  common_months = pair (months (day28 timed) (day30 timed) (day31 timed)) (monthly 28 timed) refl refl refl

  pub leap_full_lem : Pair leap_full (monthly 29 full_time)
  unfolding upto starts led figured nullable derivative chain fork is_never holds is_digit among leap_full months day28 day29 day30 day31 full_time days
  leap_full_lem = pair leap_full (monthly 29 full_time) refl refl refl

  pub common_full_lem : Pair common_full (monthly 28 full_time)
  unfolding upto starts led figured nullable derivative chain fork is_never holds is_digit among common_full months day28 day29 day30 day31 full_time days
  common_full_lem = pair common_full (monthly 28 full_time) refl refl refl

  pub loose_months : Pair (months (day29 timed or empty) (day30 timed or empty) (day31 timed or empty)) (λ m. pick (in_month 12 m) (day_of (days 29 m) timed or empty) never)
  unfolding upto starts led figured nullable derivative chain fork is_never holds is_digit among months day28 day29 day30 day31 timed clock hour days
  loose_months = pair (months (day29 timed or empty) (day30 timed or empty) (day31 timed or empty)) (λ m. pick (in_month 12 m) (day_of (days 29 m) timed or empty) never) refl refl refl

-- a year of four digits
pub leap_parts : (y : ℕ) → y < 10000
    → is_leap y ≡ pick (eqb (y / 100 % 4) 0) (eqb (y % 100 % 4) 0) (eqb (y % 100 % 4) 0 && not (eqb (y % 100) 0))
unfolding upto is_leap
leap_parts y h = alike is_leap (λ n. pick (eqb (n / 100 % 4) 0) (eqb (n % 100 % 4) 0) (eqb (n % 100 % 4) 0 && not (eqb (n % 100) 0))) 10000 refl y h

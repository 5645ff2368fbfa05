-- Dates, times and offsets as regular expressions, by REFERENCE, The kinds of value: which digits may follow which. What comes after a part
-- stands in its last arguments. Assumes nothing.
use Rattle.std.specs.Prelude.{ℕ, List, [], ◌∷◌}
use Rattle.value_kinds.specs.Octets.{digit, the_t, the_z, minus, sign, figures}
use Rattle.value_kinds.specs.Shapes.{Shape, empty, one, ◌then◌, ◌or◌}

-- one of these digits
abbrev pub fig : ℕ → List ℕ → Shape
fig d ds = one (figures d ds)

abbrev pub up_to1 : Shape
up_to1 = fig 0 (1 ∷ [])

abbrev pub up_to3 : Shape
up_to3 = fig 0 (1 ∷ 2 ∷ 3 ∷ [])

abbrev pub up_to5 : Shape
up_to5 = fig 0 (1 ∷ 2 ∷ 3 ∷ 4 ∷ 5 ∷ [])

abbrev pub up_to8 : Shape
up_to8 = fig 0 (1 ∷ 2 ∷ 3 ∷ 4 ∷ 5 ∷ 6 ∷ 7 ∷ 8 ∷ [])

abbrev pub nonzero : Shape
nonzero = fig 1 (2 ∷ 3 ∷ 4 ∷ 5 ∷ 6 ∷ 7 ∷ 8 ∷ 9 ∷ [])

-- the last digit of a number after an even digit, after an odd one, and after 0 where 00 does not count: y comes after a multiple of four, n
-- after another number
abbrev pub even_end : Shape → Shape → Shape
even_end y n = (fig 0 (4 ∷ 8 ∷ []) then y) or (fig 1 (2 ∷ 3 ∷ 5 ∷ 6 ∷ 7 ∷ 9 ∷ []) then n)

abbrev pub odd_end : Shape → Shape → Shape
odd_end y n = (fig 2 (6 ∷ []) then y) or (fig 0 (1 ∷ 3 ∷ 4 ∷ 5 ∷ 7 ∷ 8 ∷ 9 ∷ []) then n)

abbrev pub zero_end : Shape → Shape → Shape
zero_end y n = (fig 4 (8 ∷ []) then y) or (fig 0 (1 ∷ 2 ∷ 3 ∷ 5 ∷ 6 ∷ 7 ∷ 9 ∷ []) then n)

-- two digits: y comes after a multiple of four, n after another number
unfoldable pub fours : Shape → Shape → Shape
fours y n = (fig 0 (2 ∷ 4 ∷ 6 ∷ 8 ∷ []) then even_end y n) or (fig 1 (3 ∷ 5 ∷ 7 ∷ 9 ∷ []) then odd_end y n)

-- the same, but n comes after 00
unfoldable pub others : Shape → Shape → Shape
others y n = (fig 0 [] then zero_end y n) or (fig 2 (4 ∷ 6 ∷ 8 ∷ []) then even_end y n) or (fig 1 (3 ∷ 5 ∷ 7 ∷ 9 ∷ []) then odd_end y n)

-- a year: l comes after a leap year, c after another
unfoldable pub year : Shape → Shape → Shape
year l c = fours (fours l c) (others l c)

-- the second digit of a month after 0 and after 1: f comes after February, s after a month of 30 days, l after one of 31
abbrev pub month_end : Shape → Shape → Shape → Shape
month_end f s l = (fig 2 [] then f) or (fig 4 (6 ∷ 9 ∷ []) then s) or (fig 1 (3 ∷ 5 ∷ 7 ∷ 8 ∷ []) then l)

abbrev pub late_end : Shape → Shape → Shape
late_end s l = (fig 1 [] then s) or (fig 0 (2 ∷ []) then l)

unfoldable pub months : Shape → Shape → Shape → Shape
months f s l = (fig 0 [] then month_end f s l) or (fig 1 [] then late_end s l)

unfoldable pub month : Shape
month = (fig 0 [] then nonzero) or (fig 1 [] then fig 0 (1 ∷ 2 ∷ []))

-- a day of a month of so many days
unfoldable pub day28 : Shape → Shape
day28 r = (fig 0 [] then nonzero then r) or (fig 1 [] then one digit then r) or (fig 2 [] then up_to8 then r)

unfoldable pub day29 : Shape → Shape
day29 r = (fig 0 [] then nonzero then r) or (fig 1 (2 ∷ []) then one digit then r)

unfoldable pub day30 : Shape → Shape
day30 r = (fig 0 [] then nonzero then r) or (fig 1 (2 ∷ []) then one digit then r) or (fig 3 [] then fig 0 [] then r)

unfoldable pub day31 : Shape → Shape
day31 r = (fig 0 [] then nonzero then r) or (fig 1 (2 ∷ []) then one digit then r) or (fig 3 [] then up_to1 then r)

-- 00 to 23; 00 to 59; 00 to 60
unfoldable pub hour : Shape → Shape
hour r = (up_to1 then one digit then r) or (fig 2 [] then up_to3 then r)

unfoldable pub minute : Shape → Shape
minute r = up_to5 then one digit then r

unfoldable pub second : Shape → Shape
second r = (up_to5 then one digit then r) or (fig 6 [] then fig 0 [] then r)

-- utc-offset = sign hour [minute]
unfoldable pub last_minute : Shape
last_minute = minute empty or empty

unfoldable pub offset : Shape
offset = one sign then hour last_minute

-- [zone]
unfoldable pub zoned : Shape
zoned = one the_z or offset or empty

-- time-notrunc = hour [minute [second]] [zone]
unfoldable pub past_minute : Shape
past_minute = second zoned or zoned

unfoldable pub past_hour : Shape
past_hour = minute past_minute or zoned

unfoldable pub clock : Shape
clock = hour past_hour

-- time = hour [minute [second]] [zone] / "-" minute [second] / "-" "-" second
unfoldable pub last_second : Shape
last_second = second empty or empty

unfoldable pub time : Shape
time = clock or (one minus then (minute last_second or (one minus then second empty)))

-- ["T" time-notrunc]
unfoldable pub timed : Shape
timed = (one the_t then clock) or empty

-- after a year: [month day], or "-" month
unfoldable pub leap_date : Shape
leap_date = months (day29 timed) (day30 timed) (day31 timed) or (one minus then month) or empty

unfoldable pub common_date : Shape
common_date = months (day28 timed) (day30 timed) (day31 timed) or (one minus then month) or empty

-- after "--": month [day], or "-" day
unfoldable pub no_year : Shape
no_year = months (day29 timed or empty) (day30 timed or empty) (day31 timed or empty) or (one minus then day31 timed)

-- date-and-or-time = date_time / date / "T" time
unfoldable pub date_and_or_time : Shape
date_and_or_time = year leap_date common_date or (one minus then one minus then no_year) or (one the_t then time)

-- timestamp = year month day "T" hour minute second [zone]
unfoldable pub full_time : Shape
full_time = one the_t then hour (minute (second zoned))

unfoldable pub leap_full : Shape
leap_full = months (day29 full_time) (day30 full_time) (day31 full_time)

unfoldable pub common_full : Shape
common_full = months (day28 full_time) (day30 full_time) (day31 full_time)

unfoldable pub timestamp : Shape
timestamp = year leap_full common_full

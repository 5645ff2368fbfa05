-- Dates, times and offsets in plain words, over numbers, to be held beside REFERENCE, The kinds of value, and RFC 6350, section 4.3 with
-- erratum 3484. Assumes nothing.
use Rattle.std.specs.Prelude.{ℕ, ◌+◌, ◌*◌, ◌/◌, ◌%◌, ◌<◌, ◌≤◌, ◌≡◌, Bool, not, ◌&&◌, ◌||◌, List, [], ◌∷◌, ◌++◌, ◌⊎◌, eqb, ℤ, pos, neg_ℤ}
use Rattle.octets.specs.Pick.{pick}
use Rattle.octets.specs.Ascii.{plus, hyphen, capital_t, capital_z}

-- a number below 100 in two digits, one below 10,000 in four
abbrev pub two : ℕ → List ℕ
two n = (48 + n / 10) ∷ (48 + n % 10) ∷ []

abbrev pub four : ℕ → List ℕ
four y = two (y / 100) ++ two (y % 100)

-- a year that 400 divides, or that 4 divides and 100 does not
unfoldable pub is_leap : ℕ → Bool
is_leap y = eqb (y % 400) 0 || (eqb (y % 4) 0 && not (eqb (y % 100) 0))

-- how many days February has in a year
unfoldable pub february : ℕ → ℕ
february y = pick (is_leap y) 29 28

-- how many days month m has, where February has so many
unfoldable pub days : ℕ → ℕ → ℕ
days feb m = pick (eqb m 2) feb (pick (eqb m 4 || (eqb m 6 || (eqb m 9 || eqb m 11))) 30 31)

pub record Month (m : ℕ) : Type 0 where
  pub some : 1 ≤ m
  pub most : m ≤ 12

-- "A day fits its month where the month is given"
pub record Fits (feb m d : ℕ) : Type 0 where
  pub month : Month m
  pub some : 1 ≤ d
  pub most : d ≤ days feb m

abbrev pub Sign : ℕ → Type 0
Sign s = (s ≡ plus) ⊎ (s ≡ hyphen)

-- utc-offset = sign hour [minute]
pub data Offset : List ℕ → Type 0 where
  offset_hours : {s h : ℕ} → Sign s → h < 24 → Offset (s ∷ two h)
  offset_minutes : {s h m : ℕ} → Sign s → h < 24 → m < 60 → Offset (s ∷ (two h ++ two m))

-- the minutes that an offset stands for: those of its hours and its minutes, ahead of UTC after `+`, behind it after `-`
pub data StandsFor : ℤ → List ℕ → Type 0 where
  hours_ahead : {h : ℕ} → h < 24 → StandsFor (pos (h * 60)) (plus ∷ two h)
  minutes_ahead : {h m : ℕ} → h < 24 → m < 60 → StandsFor (pos (h * 60 + m)) (plus ∷ (two h ++ two m))
  hours_behind : {h : ℕ} → h < 24 → StandsFor (neg_ℤ (pos (h * 60))) (hyphen ∷ two h)
  minutes_behind : {h m : ℕ} → h < 24 → m < 60 → StandsFor (neg_ℤ (pos (h * 60 + m))) (hyphen ∷ (two h ++ two m))

-- at most so many minutes, ahead or behind
abbrev pub Within : ℕ → ℤ → Type 0
Within most z = (n : ℕ) × (n ≤ most) × ((z ≡ pos n) ⊎ (z ≡ neg_ℤ (pos n)))

-- [zone], zone = "Z" / utc-offset
pub data Zone : List ℕ → Type 0 where
  no_zone : Zone []
  utc : Zone (capital_z ∷ [])
  zone : {v : List ℕ} → Offset v → Zone v

-- time-notrunc = hour [minute [second]] [zone]
pub data Clock : List ℕ → Type 0 where
  clock_hours : {h : ℕ} {z : List ℕ} → h < 24 → Zone z → Clock (two h ++ z)
  clock_minutes : {h m : ℕ} {z : List ℕ} → h < 24 → m < 60 → Zone z → Clock (two h ++ (two m ++ z))
  clock_seconds : {h m s : ℕ} {z : List ℕ} → h < 24 → m < 60 → s ≤ 60 → Zone z → Clock (two h ++ (two m ++ (two s ++ z)))

-- time = time-notrunc / "-" minute [second] / "-" "-" second
pub data Time : List ℕ → Type 0 where
  whole_time : {v : List ℕ} → Clock v → Time v
  time_minutes : {m : ℕ} → m < 60 → Time (hyphen ∷ two m)
  time_seconds : {m s : ℕ} → m < 60 → s ≤ 60 → Time (hyphen ∷ (two m ++ two s))
  time_second : {s : ℕ} → s ≤ 60 → Time (hyphen ∷ hyphen ∷ two s)

-- date-noreduc = year month day / "--" month day / "--" "-" day
pub data FullDate : List ℕ → Type 0 where
  full_date : {y m d : ℕ} → y < 10000 → Fits (february y) m d → FullDate (four y ++ (two m ++ two d))
  yearless : {m d : ℕ} → Fits 29 m d → FullDate (hyphen ∷ hyphen ∷ (two m ++ two d))
  monthless : {d : ℕ} → 1 ≤ d → d ≤ 31 → FullDate (hyphen ∷ hyphen ∷ hyphen ∷ two d)

-- date = date-noreduc / year / year "-" month / "--" month
pub data Date : List ℕ → Type 0 where
  whole_date : {v : List ℕ} → FullDate v → Date v
  only_year : {y : ℕ} → y < 10000 → Date (four y)
  year_month : {y m : ℕ} → y < 10000 → Month m → Date (four y ++ (hyphen ∷ two m))
  only_month : {m : ℕ} → Month m → Date (hyphen ∷ hyphen ∷ two m)

-- date-and-or-time = date-noreduc "T" time-notrunc / date / "T" time
pub data DateAndOrTime : List ℕ → Type 0 where
  dated : {v : List ℕ} → Date v → DateAndOrTime v
  date_time : {u w : List ℕ} → FullDate u → Clock w → DateAndOrTime (u ++ (capital_t ∷ w))
  only_time : {v : List ℕ} → Time v → DateAndOrTime (capital_t ∷ v)

-- timestamp = year month day "T" hour minute second [zone]
pub data Timestamp : List ℕ → Type 0 where
  stamp : {y m d h n s : ℕ} {z : List ℕ} → y < 10000 → Fits (february y) m d → h < 24 → n < 60 → s ≤ 60 → Zone z
      → Timestamp (four y ++ (two m ++ (two d ++ (capital_t ∷ (two h ++ (two n ++ (two s ++ z)))))))

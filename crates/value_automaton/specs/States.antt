-- The states of the automaton: each is a shape, the derivative by what came before, and the table leads from one to the next.
-- Assumes nothing.
use Rattle.std.specs.Prelude.{ℕ, ◌+◌, ◌-◌, ◌<◌, ◌≤◌, ◌/◌, ◌%◌, ◌≡◌, List, [], ◌∷◌, length, get_or}
use Rattle.value_kinds.specs.Octets.{Octets, any, plain, inner, escapee, comma, semicolon, colon, scheme, graphic, digit, the_c, the_a, the_r, the_d, point, nought, minus, holds}
use Rattle.value_kinds.specs.Shapes.{Shape, never, empty, one, ◌then◌, ◌or◌, many, derivative}
use Rattle.value_kinds.specs.Dates.{fig, up_to1, up_to3, up_to8, nonzero, even_end, odd_end, zero_end, fours, others, month_end, late_end, month, day28, day29, day30, day31, hour, minute, second, last_minute, offset, zoned, past_minute, past_hour, clock, last_second, time, timed, leap_date, common_date, no_year, date_and_or_time, full_time, leap_full, common_full, timestamp}
use Rattle.value_kinds.specs.Kinds.{maybe, text_of, text, texts, uri, component, parts, up_to, spread, components, gender, pidmap, vcard, version}

-- past a backslash
abbrev pub escape : Octets → Shape
escape own = one escapee then text_of own

abbrev pub escape_in : Octets → Octets → Shape
escape_in mark own = escape own then many (one mark then text_of own)

-- how many states there are
abbrev pub state_count : ℕ
state_count = 163

-- the state of the last part of a URI
abbrev pub uri_tail : ℕ
uri_tail = 135

-- the first state in which a value may end
abbrev pub first_nullable : ℕ
first_nullable = 132

-- how many entries the table has for a state, one for each sort of octet and fill
abbrev pub stride : ℕ
stride = 32

-- how many entries it has for all states
abbrev pub step_count : ℕ
step_count = 5216

-- state 0 is dead, and the nullable states are those from first_nullable on
unfoldable pub states : List Shape
states =
    never ∷
    (escape plain) ∷
    (escape_in comma plain) ∷
    uri ∷
    (many (one scheme) then one colon then many (one graphic)) ∷
    (parts 5) ∷
    (parts 4) ∷
    (escape_in comma inner then one semicolon then parts 4) ∷
    (parts 3) ∷
    (escape_in comma inner then one semicolon then parts 3) ∷
    (parts 2) ∷
    (escape_in comma inner then one semicolon then parts 2) ∷
    (escape_in comma inner then one semicolon then component) ∷
    (escape_in comma inner) ∷
    (parts 7) ∷
    (parts 6) ∷
    (escape_in comma inner then one semicolon then parts 6) ∷
    (escape_in comma inner then one semicolon then parts 5) ∷
    (spread 5 2) ∷
    (spread 4 2) ∷
    (escape_in comma inner then one semicolon then spread 4 2) ∷
    (spread 3 2) ∷
    (escape_in comma inner then one semicolon then spread 3 2) ∷
    (spread 2 2) ∷
    (escape_in comma inner then one semicolon then spread 2 2) ∷
    (escape_in comma inner then one semicolon then up_to 2) ∷
    (spread 7 11) ∷
    (spread 6 11) ∷
    (escape_in comma inner then one semicolon then spread 6 11) ∷
    (spread 5 11) ∷
    (escape_in comma inner then one semicolon then spread 5 11) ∷
    (spread 4 11) ∷
    (escape_in comma inner then one semicolon then spread 4 11) ∷
    (spread 3 11) ∷
    (escape_in comma inner then one semicolon then spread 3 11) ∷
    (spread 2 11) ∷
    (escape_in comma inner then one semicolon then spread 2 11) ∷
    (escape_in comma inner then one semicolon then up_to 11) ∷
    (escape_in comma inner then maybe (one semicolon then up_to 0)) ∷
    (escape_in comma inner then maybe (one semicolon then up_to 1)) ∷
    (escape_in comma inner then maybe (one semicolon then up_to 2)) ∷
    (escape_in comma inner then maybe (one semicolon then up_to 3)) ∷
    (escape_in comma inner then maybe (one semicolon then up_to 4)) ∷
    (escape_in comma inner then maybe (one semicolon then up_to 5)) ∷
    (escape_in comma inner then maybe (one semicolon then up_to 6)) ∷
    (escape_in comma inner then maybe (one semicolon then up_to 7)) ∷
    (escape_in comma inner then maybe (one semicolon then up_to 8)) ∷
    (escape_in comma inner then maybe (one semicolon then up_to 9)) ∷
    (escape_in comma inner then maybe (one semicolon then up_to 10)) ∷
    (escape_in semicolon inner) ∷
    pidmap ∷
    (many (one digit) then one semicolon then uri) ∷
    vcard ∷
    (one the_c then one the_a then one the_r then one the_d) ∷
    (one the_a then one the_r then one the_d) ∷
    (one the_r then one the_d) ∷
    (one the_d) ∷
    version ∷
    (one point then one nought) ∷
    (one nought) ∷
    date_and_or_time ∷
    (even_end (fours leap_date common_date) (others leap_date common_date)) ∷
    (odd_end (fours leap_date common_date) (others leap_date common_date)) ∷
    (fours leap_date common_date) ∷
    (others leap_date common_date) ∷
    (even_end leap_date common_date) ∷
    (odd_end leap_date common_date) ∷
    (zero_end leap_date common_date) ∷
    (month_end (day29 timed) (day30 timed) (day31 timed)) ∷
    (month_end (day28 timed) (day30 timed) (day31 timed)) ∷
    (late_end (day30 timed) (day31 timed)) ∷
    month ∷
    nonzero ∷
    (fig 0 (1 ∷ 2 ∷ [])) ∷
    (day28 timed) ∷
    (day29 timed) ∷
    (day30 timed) ∷
    (day31 timed) ∷
    (nonzero then timed) ∷
    (one digit then timed) ∷
    (up_to8 then timed) ∷
    (fig 0 [] then timed) ∷
    (up_to1 then timed) ∷
    (one minus then no_year) ∷
    no_year ∷
    (month_end (day29 timed or empty) (day30 timed or empty) (day31 timed or empty)) ∷
    (late_end (day30 timed or empty) (day31 timed or empty)) ∷
    time ∷
    (minute last_second or (one minus then second empty)) ∷
    (one digit then last_second) ∷
    (second empty) ∷
    (one digit then empty) ∷
    (fig 0 [] then empty) ∷
    clock ∷
    (one digit then past_hour) ∷
    (up_to3 then past_hour) ∷
    (one digit then past_minute) ∷
    (one digit then zoned) ∷
    (fig 0 [] then zoned) ∷
    offset ∷
    (hour last_minute) ∷
    (one digit then last_minute) ∷
    (up_to3 then last_minute) ∷
    timestamp ∷
    (even_end (fours leap_full common_full) (others leap_full common_full)) ∷
    (odd_end (fours leap_full common_full) (others leap_full common_full)) ∷
    (fours leap_full common_full) ∷
    (others leap_full common_full) ∷
    (even_end leap_full common_full) ∷
    (odd_end leap_full common_full) ∷
    (zero_end leap_full common_full) ∷
    leap_full ∷
    common_full ∷
    (month_end (day29 full_time) (day30 full_time) (day31 full_time)) ∷
    (month_end (day28 full_time) (day30 full_time) (day31 full_time)) ∷
    (late_end (day30 full_time) (day31 full_time)) ∷
    (day28 full_time) ∷
    (day29 full_time) ∷
    (day30 full_time) ∷
    (day31 full_time) ∷
    (nonzero then full_time) ∷
    (one digit then full_time) ∷
    (up_to8 then full_time) ∷
    (fig 0 [] then full_time) ∷
    (up_to1 then full_time) ∷
    full_time ∷
    (hour (minute (second zoned))) ∷
    (one digit then minute (second zoned)) ∷
    (up_to3 then minute (second zoned)) ∷
    (minute (second zoned)) ∷
    (one digit then second zoned) ∷
    (second zoned) ∷
    (many (one any)) ∷
    text ∷
    texts ∷
    (many (one graphic)) ∷
    component ∷
    (up_to 1) ∷
    (up_to 2) ∷
    (up_to 3) ∷
    (up_to 4) ∷
    (up_to 5) ∷
    (up_to 6) ∷
    (up_to 7) ∷
    (up_to 8) ∷
    (up_to 9) ∷
    (up_to 10) ∷
    (up_to 11) ∷
    components ∷
    gender ∷
    ((one semicolon then text) or empty) ∷
    empty ∷
    leap_date ∷
    common_date ∷
    (day29 timed or empty) ∷
    (day30 timed or empty) ∷
    (day31 timed or empty) ∷
    timed ∷
    past_hour ∷
    past_minute ∷
    zoned ∷
    last_minute ∷
    last_second ∷
    []

unfoldable pub state_shape : ℕ → Shape
state_shape q = get_or states q never

-- one octet of each sort: octets of one sort are in the same sets
unfoldable pub representative : ℕ → ℕ
representative c =
    get_or (0 ∷ 33 ∷ 66 ∷ 77 ∷ 78 ∷ 86 ∷ 67 ∷ 65 ∷ 82 ∷ 68 ∷ 48 ∷ 49 ∷ 50 ∷ 51 ∷ 52 ∷ 53 ∷ 54 ∷ 55 ∷ 56 ∷ 57 ∷ 43 ∷ 45 ∷ 46 ∷ 58 ∷ 59 ∷ 44 ∷ 92 ∷ 84 ∷ 90 ∷ []) c 0

-- the state that the table's entry k leads to: the entry less its column, so that neighbours differ and the compiler copies the table whole
abbrev pub leads_to : List ℕ → ℕ → ℕ
leads_to t k = get_or t (256 + k) 0 - k % stride

-- the table gives the sort of each octet, and from 256 on, stride entries a state, the next state for each sort
pub record Whole (t : List ℕ) : Type 0 where
  pub size : length t ≡ 256 + step_count
  pub sort_low : (b : ℕ) → b < 256 → get_or t b 0 < stride
  pub sort : (b : ℕ) → b < 256 → (p : Octets) → holds p b ≡ holds p (representative (get_or t b 0))
  pub step_over : (k : ℕ) → k < step_count → k % stride ≤ get_or t (256 + k) 0
  pub step_low : (k : ℕ) → k < step_count → leads_to t k < state_count
  pub step : (k : ℕ) → k < step_count → state_shape (leads_to t k) ≡ derivative (representative (k % stride)) (state_shape (k / stride))

-- what a user of the scanner is lent: the table, or no octets
pub record Scanner (t : List ℕ) : Type 0 where
  pub whole : (length t ≡ 0 → ⊥) → Whole t

-- the octet b leads from state q to state n
pub record Next (q b n : ℕ) : Type 0 where
  pub inside : n < state_count
  pub right : state_shape n ≡ derivative b (state_shape q)

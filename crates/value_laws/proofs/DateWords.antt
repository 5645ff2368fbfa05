-- Kinds 9, 10 and 11 are the dates, timestamps and offsets of RFC 6350, section 4.3. Assumes nothing.
use mathlib.Core.Path.{◌≡◌, refl, sym, ap, subst, ◌∙◌}
use mathlib.Core.Bool.{Bool, true, false, not, ◌&&◌, ◌||◌}
use mathlib.Core.List.{List, [], ◌∷◌, ◌++◌}
use mathlib.Core.Logic.{◌⊎◌, inl, inr, ⊎_elim, ◌↔◌}
use Prim.Native.Nat.{ℕ, suc, ◌+◌, ◌*◌, ◌/◌, ◌%◌, ◌<◌, ◌≤◌}
use native.Mathlib.Omega.{arith}
use lib.Dec.{leb, eqb}
use mathlib.Core.List.{append-nil}
use borrow.Author.Tests.{leb-true, ltb-true, eqb-true, le-leb, lt-ltb, eqb-false}
use Rattle.octets.specs.Pick.{pick}
use Rattle.octets.proofs.Bools.{by, and_both, or_some}
use Rattle.octets.proofs.Upto.{upto}
use Rattle.property_table.specs.declared.Edition.{Edition}
use Rattle.value_kinds.specs.Octets.{Octets, the_t, the_z, minus, sign, among, holds}
use Rattle.value_kinds.specs.Shapes.{Shape, empty, one, ◌then◌, ◌or◌, Matches, nullable, chain, is_never, fork, derivative}
use Rattle.value_kinds.specs.Kinds.{shape_in, kind_in}
use Rattle.value_kinds.specs.declared.Fault.TheVariants.{Fits as fitting}
use Rattle.value_laws.proofs.KindLaws.{fits_kind}
use Rattle.value_kinds.specs.Dates.{fours, others, year, months, month, day28, day29, day30, day31, hour, minute, second, last_minute, offset, zoned, past_minute, past_hour, clock, last_second, time, timed, leap_date, common_date, no_year, date_and_or_time, full_time, leap_full, common_full, timestamp}
use Rattle.octets.specs.Classes.{digit as is_digit}
use Rattle.value_laws.proofs.Plain.{through, head_to, head_from}
use Rattle.value_laws.proofs.Pairs.{figured, led, starts, Pair, pair}
use Rattle.value_laws.proofs.DayLaws.{Tested, below, in_month, day_of, monthly, hour_offset, minute_last, second_last, minute_alone, second_zoned, minute_past, hour_past, minute_full, hour_full, month_alone, d28, d29, d30, d31, f28, f29, f30, f31, leap_months, common_months, leap_full_lem, common_full_lem, loose_months, leap_parts, opened, shut}
use Rattle.value_laws.specs.Calendar.{two, four, is_leap, february, days, Month, Fits, Sign, Offset, offset_hours, offset_minutes, Zone, no_zone, utc, zone, Clock, clock_hours, clock_minutes, clock_seconds, Time, whole_time, time_minutes, time_seconds, time_second, FullDate, full_date, yearless, monthless, Date, whole_date, only_year, year_month, only_month, DateAndOrTime, dated, date_time, only_time, Timestamp, stamp}

-- an octet that stands alone in its set
minus_is : (x : ℕ) → holds minus x ≡ true → x ≡ 45
unfolding holds
minus_is x e = eqb-true x 45 e

t_is : (x : ℕ) → holds the_t x ≡ true → x ≡ 84
unfolding holds
t_is x e = eqb-true x 84 e

sign_is : (x : ℕ) → holds sign x ≡ true → Sign x
unfolding holds
sign_is x e = ⊎_elim (λ h. inl (eqb-true x 43 h)) (λ h. inr (eqb-true x 45 h)) (or_some (eqb x 43) (eqb x 45) e)

is_sign : (x : ℕ) → Sign x → holds sign x ≡ true
unfolding holds
is_sign x (inl e) = rw e refl
is_sign x (inr e) = rw e refl

minus_here : holds minus 45 ≡ true
unfolding holds
minus_here = refl

t_here : holds the_t 84 ≡ true
unfolding holds
t_here = refl

-- a fixed octet before a text
led_to : (p : Octets) (c : ℕ) → ((x : ℕ) → holds p x ≡ true → x ≡ c) → (a : Shape) (v : List ℕ) → Matches (one p then a) v → (w : List ℕ) × (v ≡ c ∷ w) × Matches a w
led_to p c f a v h =
    let x = head_to p a v h in
    (x.1, x.2 ∙ ap (λ (z : ℕ). z ∷ x.1) (f x.0 x.3), x.4)

low : (k n : ℕ) → below k n ≡ true → n < k
low k n e = ltb-true n k e

-- offsets
last_to : (u : List ℕ) → Matches last_minute u → (u ≡ []) ⊎ ((m : ℕ) × (m < 60) × (u ≡ two m))
unfolding last_minute Matches
last_to u (inr e) = inl e
last_to u (inl h) =
    let x = minute_last.to u h in
    inr (x.0, low 60 x.0 x.3, x.4 ∙ ap (λ (l : List ℕ). two x.0 ++ l) x.5)

offset_to : (v : List ℕ) → Matches offset v → Offset v
unfolding offset
offset_to v h =
    let x = head_to sign (hour last_minute) v h in
    let y = hour_offset.to x.1 x.4 in
    let whole : v ≡ x.0 ∷ (two y.0 ++ y.1) = x.2 ∙ ap (λ (l : List ℕ). x.0 ∷ l) y.4 in
    ⊎_elim
    (λ e. subst Offset (sym (whole ∙ ap (λ (l : List ℕ). x.0 ∷ (two y.0 ++ l)) e)) (offset_hours (sign_is x.0 x.3) (low 24 y.0 y.3)))
    (λ e. subst Offset (sym (whole ∙ ap (λ (l : List ℕ). x.0 ∷ (two y.0 ++ l)) e.2)) (offset_minutes (sign_is x.0 x.3) (low 24 y.0 y.3) e.1))
    (last_to y.1 y.5)

offset_from : (v : List ℕ) → Offset v → Matches offset v
unfolding offset last_minute Matches
offset_from v (offset_hours {s = s} {h = h} g l) =
    head_from sign (hour last_minute) s (s ∷ two h) (two h) refl (is_sign s g) (hour_offset.from h [] (omega arith) (lt-ltb h 24 l) (inr refl))
offset_from v (offset_minutes {s = s} {h = h} {m = m} g l k) =
    head_from sign (hour last_minute) s (s ∷ (two h ++ two m)) (two h ++ two m) refl (is_sign s g)
    (hour_offset.from h (two m) (omega arith) (lt-ltb h 24 l) (inl (minute_last.from m [] (omega arith) (lt-ltb m 60 k) refl)))

pub offset_words : (v : List ℕ) → Matches offset v ↔ Offset v
offset_words v = (offset_to v, offset_from v)

-- zones
z_is : (x : ℕ) → holds the_z x ≡ true → x ≡ 90
unfolding holds
z_is x e = eqb-true x 90 e

z_here : holds the_z 90 ≡ true
unfolding holds
z_here = refl

zone_to : (v : List ℕ) → Matches zoned v → Zone v
unfolding zoned Matches
zone_to v (inl (x, h, e)) = subst Zone (sym (e ∙ ap (λ (z : ℕ). z ∷ []) (z_is x h))) utc
zone_to v (inr (inl h)) = zone (offset_to v h)
zone_to v (inr (inr e)) = subst Zone (sym e) no_zone

zone_from : (v : List ℕ) → Zone v → Matches zoned v
unfolding zoned Matches
zone_from v no_zone = inr (inr refl)
zone_from v utc = inl (90, z_here, refl)
zone_from v (zone h) = inr (inl (offset_from v h))

-- hour [minute [second]] [zone]
over : (k n : ℕ) → below (suc k) n ≡ true → n ≤ k
over k n e = omega (arith, ltb-true n (suc k) e)

clock_to : (v : List ℕ) → Matches clock v → Clock v
unfolding clock past_hour past_minute Matches
clock_to v h =
    let x = hour_past.to v h in
    subst Clock (sym x.4) (rest x.0 (low 24 x.0 x.3) x.1 x.5)
  where
    more : (h m : ℕ) → h < 24 → m < 60 → (u : List ℕ) → Matches past_minute u → Clock (two h ++ (two m ++ u))
    more h m l k u (inl s) =
        let x = second_zoned.to u s in
        subst (λ (w : List ℕ). Clock (two h ++ (two m ++ w))) (sym x.4) (clock_seconds l k (over 60 x.0 x.3) (zone_to x.1 x.5))
    more h m l k u (inr z) = clock_minutes l k (zone_to u z)

    rest : (h : ℕ) → h < 24 → (u : List ℕ) → Matches past_hour u → Clock (two h ++ u)
    rest h l u (inl s) =
        let x = minute_past.to u s in
        subst (λ (w : List ℕ). Clock (two h ++ w)) (sym x.4) (more h x.0 l (low 60 x.0 x.3) x.1 x.5)
    rest h l u (inr z) = clock_hours l (zone_to u z)

clock_from : (v : List ℕ) → Clock v → Matches clock v
unfolding clock past_hour past_minute Matches
clock_from v (clock_hours {h = h} {z = z} l k) = hour_past.from h z (omega arith) (lt-ltb h 24 l) (inr (zone_from z k))
clock_from v (clock_minutes {h = h} {m = m} {z = z} l k o) =
    hour_past.from h (two m ++ z) (omega arith) (lt-ltb h 24 l) (inl (minute_past.from m z (omega arith) (lt-ltb m 60 k) (inr (zone_from z o))))
clock_from v (clock_seconds {h = h} {m = m} {s = s} {z = z} l k j o) =
    hour_past.from h (two m ++ (two s ++ z)) (omega arith) (lt-ltb h 24 l)
    (inl (minute_past.from m (two s ++ z) (omega arith) (lt-ltb m 60 k) (inl (second_zoned.from s z (omega arith) (lt-ltb s 61 (omega arith)) (zone_from z o)))))

-- times
time_to : (v : List ℕ) → Matches time v → Time v
unfolding time last_second Matches
time_to v (inl h) = whole_time (clock_to v h)
time_to v (inr h) =
    let x = led_to minus 45 minus_is (minute last_second or (one minus then second empty)) v h in
    subst Time (sym x.1) (rest x.0 x.2)
  where
    last : (m : ℕ) → m < 60 → (u : List ℕ) → Matches last_second u → Time (45 ∷ (two m ++ u))
    last m l u (inr e) = subst (λ (w : List ℕ). Time (45 ∷ (two m ++ w))) (sym e) (time_minutes l)
    last m l u (inl h) =
        let x = second_last.to u h in
        subst (λ (w : List ℕ). Time (45 ∷ (two m ++ w))) (sym (x.4 ∙ ap (λ (l : List ℕ). two x.0 ++ l) x.5)) (time_seconds l (over 60 x.0 x.3))

    rest : (u : List ℕ) → Matches (minute last_second or (one minus then second empty)) u → Time (45 ∷ u)
    rest u (inl h) =
        let x = minute_alone.to u h in
        subst (λ (w : List ℕ). Time (45 ∷ w)) (sym x.4) (last x.0 (low 60 x.0 x.3) x.1 x.5)
    rest u (inr h) =
        let y = led_to minus 45 minus_is (second empty) u h in
        let x = second_last.to y.0 y.2 in
        subst (λ (w : List ℕ). Time (45 ∷ w)) (sym (y.1 ∙ ap (λ (l : List ℕ). 45 ∷ l) (x.4 ∙ ap (λ (l : List ℕ). two x.0 ++ l) x.5))) (time_second (over 60 x.0 x.3))

time_from : (v : List ℕ) → Time v → Matches time v
unfolding time last_second Matches
time_from v (whole_time h) = inl (clock_from v h)
time_from v (time_minutes {m = m} l) =
    inr (head_from minus (minute last_second or (one minus then second empty)) 45 (45 ∷ two m) (two m) refl minus_here (inl (minute_alone.from m [] (omega arith) (lt-ltb m 60 l) (inr refl))))
time_from v (time_seconds {m = m} {s = s} l k) =
    inr (head_from minus (minute last_second or (one minus then second empty)) 45 (45 ∷ (two m ++ two s)) (two m ++ two s) refl minus_here
    (inl (minute_alone.from m (two s) (omega arith) (lt-ltb m 60 l) (inl (second_last.from s [] (omega arith) (lt-ltb s 61 (omega arith)) refl)))))
time_from v (time_second {s = s} k) =
    inr (head_from minus (minute last_second or (one minus then second empty)) 45 (45 ∷ 45 ∷ two s) (45 ∷ two s) refl minus_here
    (inr (head_from minus (second empty) 45 (45 ∷ two s) (two s) refl minus_here (second_last.from s [] (omega arith) (lt-ltb s 61 (omega arith)) refl))))

-- a day of a month of n days, and then the shape r
dayed : (r : Shape) → Tested (day28 r) (in_month 28) r → Tested (day29 r) (in_month 29) r → Tested (day30 r) (in_month 30) r → Tested (day31 r) (in_month 31) r
    → (n : ℕ) → 28 ≤ n → n ≤ 31 → Tested (day_of n r) (in_month n) r
dayed r a b c d n g h =
    by (eqb n 28) (λ e. rw (eqb-true n 28 e) a)
    (λ e. by (eqb n 29) (λ f. rw (eqb-true n 29 f) b)
    (λ f. by (eqb n 30) (λ k. rw (eqb-true n 30 k) c)
    (λ k. let last : n ≡ 31 = omega (arith, eqb-false n 28 e, eqb-false n 29 f, eqb-false n 30 k) in rw last d)))

days_low : (feb m : ℕ) → 28 ≤ feb → feb ≤ 29 → (28 ≤ days feb m) × (days feb m ≤ 31)
unfolding days
days_low feb m g h =
    by (eqb m 2) (λ e. rw e (g, omega arith))
    (λ e. by (eqb m 4 || (eqb m 6 || (eqb m 9 || eqb m 11))) (λ f. rw (e, f) (omega arith, omega arith)) (λ f. rw (e, f) (omega arith, omega arith)))

day_timed : (feb m : ℕ) → 28 ≤ feb → feb ≤ 29 → Tested (day_of (days feb m) timed) (in_month (days feb m)) timed
day_timed feb m g h = let k = days_low feb m g h in dayed timed d28 d29 d30 d31 (days feb m) k.0 k.1

day_full : (feb m : ℕ) → 28 ≤ feb → feb ≤ 29 → Tested (day_of (days feb m) full_time) (in_month (days feb m)) full_time
day_full feb m g h = let k = days_low feb m g h in dayed full_time f28 f29 f30 f31 (days feb m) k.0 k.1

month_of : (m : ℕ) → in_month 12 m ≡ true → Month m
month_of m e =
    let h = and_both (leb 1 m) (leb m 12) e in
    record { some = leb-true 1 m h.0; most = leb-true m 12 h.1 }

of_month : (m : ℕ) → Month m → in_month 12 m ≡ true
of_month m h = rw (le-leb 1 m h.some, le-leb m 12 h.most) refl

fits_of : (feb m d : ℕ) → in_month 12 m ≡ true → in_month (days feb m) d ≡ true → Fits feb m d
fits_of feb m d e f =
    let h = and_both (leb 1 d) (leb d (days feb m)) f in
    record { month = month_of m e; some = leb-true 1 d h.0; most = leb-true d (days feb m) h.1 }

of_fits : (feb m d : ℕ) → Fits feb m d → in_month (days feb m) d ≡ true
of_fits feb m d h = rw (le-leb 1 d h.some, le-leb d (days feb m) h.most) refl

-- month and day in a year whose February has so many days, and then the shape r
record Dated (s : Shape) (feb : ℕ) (r : Shape) : Type 0 where
  to : (v : List ℕ) → Matches s v → (m : ℕ) × (d : ℕ) × (w : List ℕ) × Fits feb m d × (v ≡ two m ++ (two d ++ w)) × Matches r w
  from : (m d : ℕ) (w : List ℕ) → Fits feb m d → Matches r w → Matches s (two m ++ (two d ++ w))

day_short : (feb m d : ℕ) → 28 ≤ feb → feb ≤ 29 → Fits feb m d → d < 100
day_short feb m d g h f = omega (arith, f.most, days_low feb m g h)

dated_by : (s : Shape) (feb : ℕ) (r : Shape) → 28 ≤ feb → feb ≤ 29 → Pair s (monthly feb r)
    → ((m : ℕ) → Tested (day_of (days feb m) r) (in_month (days feb m)) r) → Dated s feb r
dated_by s feb r g h p q =
    record {
      to = λ v k.
          let x = p.to v k in
          let y = opened (in_month 12 x.0) (day_of (days feb x.0) r) x.1 x.4 in
          let z = (q x.0).to x.1 y.1 in
          (x.0, z.0, z.1, fits_of feb x.0 z.0 y.0 z.3, x.3 ∙ ap (λ (l : List ℕ). two x.0 ++ l) z.4, z.5);
      from = λ m d w f k.
          p.from m (two d ++ w) (omega (arith, f.month.most))
          (shut (in_month 12 m) (day_of (days feb m) r) (two d ++ w) (of_month m f.month) ((q m).from d w (day_short feb m d g h f) (of_fits feb m d f) k));
    }

-- a year, and then l or c
record Years (s l c : Shape) : Type 0 where
  to : (v : List ℕ) → Matches s v → (y : ℕ) × (w : List ℕ) × (y < 10000) × (v ≡ four y ++ w) × Matches (pick (is_leap y) l c) w
  from : (y : ℕ) (w : List ℕ) → y < 10000 → Matches (pick (is_leap y) l c) w → Matches s (four y ++ w)

abbrev centuries : Shape → Shape → ℕ → Shape
centuries l c n = pick (eqb (n % 4) 0) (fours l c) (others l c)

abbrev leaps : Shape → Shape → ℕ → Shape
leaps l c n = pick (eqb (n % 4) 0) l c

abbrev lates : Shape → Shape → ℕ → Shape
lates l c n = pick (eqb (n % 4) 0 && not (eqb n 0)) l c

-- the last two digits of a year after its first two
century : (l c : Shape) → Pair (fours l c) (leaps l c) → Pair (others l c) (lates l c) → (h : ℕ)
    → Pair (centuries l c h) (λ n. pick (pick (eqb (h % 4) 0) (eqb (n % 4) 0) (eqb (n % 4) 0 && not (eqb n 0))) l c)
century l c p q h = by (eqb (h % 4) 0) (λ e. rw e p) (λ e. rw e q)

years : (s l c : Shape) → Pair s (centuries l c) → Pair (fours l c) (leaps l c) → Pair (others l c) (lates l c) → Years s l c
years s l c a p q =
    record {
      to = λ v k.
          let x = a.to v k in
          let z = (century l c p q x.0).to x.1 x.4 in
          let y = x.0 * 100 + z.0 in
          let high : y / 100 ≡ x.0 = omega (arith, z.2) in
          let rest : y % 100 ≡ z.0 = omega (arith, z.2) in
          let short : y < 10000 = omega (arith, x.2, z.2) in
          let leap : is_leap y ≡ pick (eqb (x.0 % 4) 0) (eqb (z.0 % 4) 0) (eqb (z.0 % 4) 0 && not (eqb z.0 0)) = leap_parts y short ∙ rw (high, rest) refl in
          (y, z.1, short, x.3 ∙ rw (high, rest) (ap (λ (w : List ℕ). two x.0 ++ w) z.3), rw leap z.4);
      from = λ y w short k.
          a.from (y / 100) (two (y % 100) ++ w) (omega arith)
          ((century l c p q (y / 100)).from (y % 100) w (omega arith) (subst (λ (t : Bool). Matches (pick t l c) w) (leap_parts y short) k));
    }

years_dates : Years (year leap_date common_date) leap_date common_date
unfolding upto starts led figured nullable derivative chain fork is_never holds is_digit among year fours others leap_date common_date months day28 day29
years_dates =
    years (year leap_date common_date) leap_date common_date
    (pair (year leap_date common_date) (centuries leap_date common_date) refl refl refl)
    (pair (fours leap_date common_date) (leaps leap_date common_date) refl refl refl)
    (pair (others leap_date common_date) (lates leap_date common_date) refl refl refl)

years_full : Years timestamp leap_full common_full
unfolding upto starts led figured nullable derivative chain fork is_never holds is_digit among timestamp year fours others leap_full common_full months day28 day29
years_full =
    years timestamp leap_full common_full
    (pair timestamp (centuries leap_full common_full) refl refl refl)
    (pair (fours leap_full common_full) (leaps leap_full common_full) refl refl refl)
    (pair (others leap_full common_full) (lates leap_full common_full) refl refl refl)

-- the time after a day
timed_to : (u v : List ℕ) → FullDate u → Matches timed v → DateAndOrTime (u ++ v)
unfolding timed Matches
timed_to u v f (inl h) =
    let x = led_to the_t 84 t_is clock v h in
    subst (λ (w : List ℕ). DateAndOrTime (u ++ w)) (sym x.1) (date_time f (clock_to x.0 x.2))
timed_to u v f (inr e) = subst (λ (w : List ℕ). DateAndOrTime (u ++ w)) (sym e) (subst DateAndOrTime (sym (append-nil u)) (dated (whole_date f)))

dated_leap : Dated (months (day29 timed) (day30 timed) (day31 timed)) 29 timed
dated_leap = dated_by _ 29 timed (omega arith) (omega arith) leap_months (λ m. day_timed 29 m (omega arith) (omega arith))

dated_common : Dated (months (day28 timed) (day30 timed) (day31 timed)) 28 timed
dated_common = dated_by _ 28 timed (omega arith) (omega arith) common_months (λ m. day_timed 28 m (omega arith) (omega arith))

full_leap : Dated leap_full 29 full_time
full_leap = dated_by _ 29 full_time (omega arith) (omega arith) leap_full_lem (λ m. day_full 29 m (omega arith) (omega arith))

full_common : Dated common_full 28 full_time
full_common = dated_by _ 28 full_time (omega arith) (omega arith) common_full_lem (λ m. day_full 28 m (omega arith) (omega arith))

-- the full form after a year, leap or not
full_year : (t : Bool) → Dated (pick t leap_full common_full) (pick t 29 28) full_time
full_year true = full_leap
full_year false = full_common

stamp_rest : (y m d : ℕ) (w : List ℕ) → y < 10000 → Fits (february y) m d → Matches full_time w → Timestamp (four y ++ (two m ++ (two d ++ w)))
unfolding full_time
stamp_rest y m d w l f k =
    let x = led_to the_t 84 t_is (hour (minute (second zoned))) w k in
    let a = hour_full.to x.0 x.2 in
    let b = minute_full.to a.1 a.5 in
    let c = second_zoned.to b.1 b.5 in
    let whole : w ≡ 84 ∷ (two a.0 ++ (two b.0 ++ (two c.0 ++ c.1))) =
    x.1 ∙ ap (λ (v : List ℕ). 84 ∷ v) (a.4 ∙ ap (λ (v : List ℕ). two a.0 ++ v) (b.4 ∙ ap (λ (v : List ℕ). two b.0 ++ v) c.4)) in
    subst (λ (v : List ℕ). Timestamp (four y ++ (two m ++ (two d ++ v)))) (sym whole)
    (stamp l f (low 24 a.0 a.3) (low 60 b.0 b.3) (over 60 c.0 c.3) (zone_to c.1 c.5))

feb_as : (y m d : ℕ) → Fits (pick (is_leap y) 29 28) m d → Fits (february y) m d
unfolding february
feb_as y m d f = f

as_feb : (y m d : ℕ) → Fits (february y) m d → Fits (pick (is_leap y) 29 28) m d
unfolding february
as_feb y m d f = f

stamp_to : (v : List ℕ) → Matches timestamp v → Timestamp v
stamp_to v h =
    let x = years_full.to v h in
    let y = (full_year (is_leap x.0)).to x.1 x.4 in
    subst Timestamp (sym (x.3 ∙ ap (λ (l : List ℕ). four x.0 ++ l) y.4)) (stamp_rest x.0 y.0 y.1 y.2 x.2 (feb_as x.0 y.0 y.1 y.3) y.5)

stamp_from : (v : List ℕ) → Timestamp v → Matches timestamp v
unfolding full_time
stamp_from v (stamp {y = y} {m = m} {d = d} {h = h} {n = n} {s = s} {z = z} l f a b c k) =
    years_full.from y (two m ++ (two d ++ (84 ∷ (two h ++ (two n ++ (two s ++ z)))))) l
    ((full_year (is_leap y)).from m d (84 ∷ (two h ++ (two n ++ (two s ++ z)))) (as_feb y m d f)
    (head_from the_t (hour (minute (second zoned))) 84 (84 ∷ (two h ++ (two n ++ (two s ++ z)))) (two h ++ (two n ++ (two s ++ z))) refl t_here
    (hour_full.from h (two n ++ (two s ++ z)) (omega arith) (lt-ltb h 24 a)
    (minute_full.from n (two s ++ z) (omega arith) (lt-ltb n 60 b) (second_zoned.from s z (omega arith) (lt-ltb s 61 (omega arith)) (zone_from z k))))))

pub timestamp_words : (v : List ℕ) → Matches timestamp v ↔ Timestamp v
timestamp_words v = (stamp_to v, stamp_from v)

month_to : (w : List ℕ) → Matches (one minus then month) w → (m : ℕ) × Month m × (w ≡ 45 ∷ two m)
unfolding Matches
month_to w h =
    let x = led_to minus 45 minus_is month w h in
    let y = month_alone.to x.0 x.2 in
    (y.0, month_of y.0 y.3, x.1 ∙ ap (λ (l : List ℕ). 45 ∷ l) (y.4 ∙ ap (λ (l : List ℕ). two y.0 ++ l) y.5))

month_from : (m : ℕ) → Month m → Matches (one minus then month) (45 ∷ two m)
unfolding Matches
month_from m h = head_from minus month 45 (45 ∷ two m) (two m) refl minus_here (month_alone.from m [] (omega (arith, h.most)) (of_month m h) refl)

-- what may follow a year
rest_to : (t : Bool) (w : List ℕ) → Matches (pick t leap_date common_date) w
    → ((m : ℕ) × (d : ℕ) × (u : List ℕ) × Fits (pick t 29 28) m d × (w ≡ two m ++ (two d ++ u)) × Matches timed u) ⊎ (((m : ℕ) × Month m × (w ≡ 45 ∷ two m)) ⊎ (w ≡ []))
unfolding leap_date common_date Matches
rest_to true w (inl h) = inl (dated_leap.to w h)
rest_to false w (inl h) = inl (dated_common.to w h)
rest_to true w (inr (inl h)) = inr (inl (month_to w h))
rest_to false w (inr (inl h)) = inr (inl (month_to w h))
rest_to true w (inr (inr e)) = inr (inr e)
rest_to false w (inr (inr e)) = inr (inr e)

rest_day : (t : Bool) (m d : ℕ) (u : List ℕ) → Fits (pick t 29 28) m d → Matches timed u → Matches (pick t leap_date common_date) (two m ++ (two d ++ u))
unfolding leap_date common_date Matches
rest_day true m d u f h = inl (dated_leap.from m d u f h)
rest_day false m d u f h = inl (dated_common.from m d u f h)

rest_month : (t : Bool) (m : ℕ) → Month m → Matches (pick t leap_date common_date) (45 ∷ two m)
unfolding leap_date common_date Matches
rest_month true m h = inr (inl (month_from m h))
rest_month false m h = inr (inl (month_from m h))

rest_none : (t : Bool) → Matches (pick t leap_date common_date) []
unfolding leap_date common_date Matches
rest_none true = inr (inr refl)
rest_none false = inr (inr refl)

-- after `--`
day_31 : (d : ℕ) → in_month 31 d ≡ true → (1 ≤ d) × (d ≤ 31)
day_31 d e =
    let h = and_both (leb 1 d) (leb d 31) e in
    (leb-true 1 d h.0, leb-true d 31 h.1)

yearless_to : (w : List ℕ) → Matches no_year w → DateAndOrTime (45 ∷ 45 ∷ w)
unfolding no_year Matches
yearless_to w (inl h) =
    let x = loose_months.to w h in
    let y = opened (in_month 12 x.0) (day_of (days 29 x.0) timed or empty) x.1 x.4 in
    subst (λ (l : List ℕ). DateAndOrTime (45 ∷ 45 ∷ l)) (sym x.3) (days_to x.0 x.1 y.0 y.1)
  where
    days_to : (m : ℕ) (u : List ℕ) → in_month 12 m ≡ true → Matches (day_of (days 29 m) timed or empty) u → DateAndOrTime (45 ∷ 45 ∷ (two m ++ u))
    days_to m u e (inl k) =
        let z = (day_timed 29 m (omega arith) (omega arith)).to u k in
        subst (λ (l : List ℕ). DateAndOrTime (45 ∷ 45 ∷ (two m ++ l))) (sym z.4)
        (timed_to (45 ∷ 45 ∷ (two m ++ two z.0)) z.1 (yearless (fits_of 29 m z.0 e z.3)) z.5)
    days_to m u e (inr f) = subst (λ (l : List ℕ). DateAndOrTime (45 ∷ 45 ∷ (two m ++ l))) (sym f) (dated (only_month (month_of m e)))
yearless_to w (inr h) =
    let x = led_to minus 45 minus_is (day31 timed) w h in
    let z = d31.to x.0 x.2 in
    let k = day_31 z.0 z.3 in
    subst (λ (l : List ℕ). DateAndOrTime (45 ∷ 45 ∷ l)) (sym (x.1 ∙ ap (λ (l : List ℕ). 45 ∷ l) z.4))
    (timed_to (45 ∷ 45 ∷ 45 ∷ two z.0) z.1 (monthless k.0 k.1) z.5)

year_to : (y : ℕ) (w : List ℕ) → y < 10000 → Matches (pick (is_leap y) leap_date common_date) w → DateAndOrTime (four y ++ w)
year_to y w l h =
    ⊎_elim
    (λ x. subst (λ (v : List ℕ). DateAndOrTime (four y ++ v)) (sym x.4)
    (timed_to (four y ++ (two x.0 ++ two x.1)) x.2 (full_date l (feb_as y x.0 x.1 x.3)) x.5))
    (λ k. ⊎_elim
    (λ x. subst (λ (v : List ℕ). DateAndOrTime (four y ++ v)) (sym x.2) (dated (year_month l x.1)))
    (λ e. subst (λ (v : List ℕ). DateAndOrTime (four y ++ v)) (sym e) (dated (only_year l))) k)
    (rest_to (is_leap y) w h)

any_to : (v : List ℕ) → Matches date_and_or_time v → DateAndOrTime v
unfolding date_and_or_time Matches
any_to v (inl h) =
    let x = years_dates.to v h in
    subst DateAndOrTime (sym x.3) (year_to x.0 x.1 x.2 x.4)
any_to v (inr (inl h)) =
    let x = led_to minus 45 minus_is (one minus then no_year) v h in
    let y = led_to minus 45 minus_is no_year x.0 x.2 in
    subst DateAndOrTime (sym (x.1 ∙ ap (λ (l : List ℕ). 45 ∷ l) y.1)) (yearless_to y.0 y.2)
any_to v (inr (inr h)) =
    let x = led_to the_t 84 t_is time v h in
    subst DateAndOrTime (sym x.1) (only_time (time_to x.0 x.2))

-- a full date, and then what may follow a day
date_from : (u v : List ℕ) → FullDate u → Matches timed v → Matches date_and_or_time (u ++ v)
unfolding date_and_or_time no_year Matches
date_from u v (full_date {y = y} {m = m} {d = d} l f) h = inl (years_dates.from y (two m ++ (two d ++ v)) l (rest_day (is_leap y) m d v (as_feb y m d f) h))
date_from u v (yearless {m = m} {d = d} f) h =
    inr (inl (head_from minus (one minus then no_year) 45 _ (45 ∷ (two m ++ (two d ++ v))) refl minus_here
    (head_from minus no_year 45 _ (two m ++ (two d ++ v)) refl minus_here
    (inl (loose_months.from m (two d ++ v) (omega (arith, f.month.most))
    (shut (in_month 12 m) (day_of (days 29 m) timed or empty) (two d ++ v) (of_month m f.month)
    (inl ((day_timed 29 m (omega arith) (omega arith)).from d v (day_short 29 m d (omega arith) (omega arith) f) (of_fits 29 m d f) h))))))))
date_from u v (monthless {d = d} a b) h =
    inr (inl (head_from minus (one minus then no_year) 45 _ (45 ∷ 45 ∷ (two d ++ v)) refl minus_here
    (head_from minus no_year 45 _ (45 ∷ (two d ++ v)) refl minus_here
    (inr (head_from minus (day31 timed) 45 _ (two d ++ v) refl minus_here (d31.from d v (omega arith) (rw (le-leb 1 d a, le-leb d 31 b) refl) h))))))

plain_from : (v : List ℕ) → Date v → Matches date_and_or_time v
unfolding date_and_or_time no_year timed Matches
plain_from v (whole_date f) = subst (Matches date_and_or_time) (append-nil v) (date_from v [] f (inr refl))
plain_from v (only_year {y = y} l) = subst (Matches date_and_or_time) (append-nil (four y)) (inl (years_dates.from y [] l (rest_none (is_leap y))))
plain_from v (year_month {y = y} {m = m} l h) = inl (years_dates.from y (45 ∷ two m) l (rest_month (is_leap y) m h))
plain_from v (only_month {m = m} h) =
    inr (inl (head_from minus (one minus then no_year) 45 _ (45 ∷ two m) refl minus_here
    (head_from minus no_year 45 _ (two m) refl minus_here
    (inl (loose_months.from m [] (omega (arith, h.most)) (shut (in_month 12 m) (day_of (days 29 m) timed or empty) [] (of_month m h) (inr refl)))))))

any_from : (v : List ℕ) → DateAndOrTime v → Matches date_and_or_time v
unfolding date_and_or_time timed Matches
any_from v (dated d) = plain_from v d
any_from v (date_time {u = u} {w = w} f c) = date_from u (84 ∷ w) f (inl (head_from the_t clock 84 (84 ∷ w) w refl t_here (clock_from w c)))
any_from v (only_time {v = w} t) = inr (inr (head_from the_t time 84 (84 ∷ w) w refl t_here (time_from w t)))

pub date_words : (v : List ℕ) → Matches date_and_or_time v ↔ DateAndOrTime v
date_words v = (any_to v, any_from v)

pub kind_9 : (e : Edition) (v : List ℕ) → (kind_in e 9 v ≡ fitting) ↔ DateAndOrTime v
unfolding shape_in
kind_9 e v = through (fits_kind e 9 v) (date_words v)

pub kind_10 : (e : Edition) (v : List ℕ) → (kind_in e 10 v ≡ fitting) ↔ Timestamp v
unfolding shape_in
kind_10 e v = through (fits_kind e 10 v) (timestamp_words v)

pub kind_11 : (e : Edition) (v : List ℕ) → (kind_in e 11 v ≡ fitting) ↔ Offset v
unfolding shape_in
kind_11 e v = through (fits_kind e 11 v) (offset_words v)

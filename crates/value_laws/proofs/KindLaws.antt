-- What the scans of values say: a value fits exactly where it matches its kind's shape, or its line's, and a place is the first octet
-- from which no continuation does. Assumes nothing.
use mathlib.Core.Path.{◌≡◌, refl}
use mathlib.Core.Bool.{Bool, true, false}
use mathlib.Core.List.{List}
use mathlib.Core.Logic.{◌↔◌}
use Prim.Native.Nat.{ℕ, ◌<◌}
use lib.Dec.{eqb}
use Rattle.numbers.specs.Kinds as kinds
use Rattle.octets.specs.Pick.{pick}
use Rattle.property_table.specs.declared.Edition.{Edition}
use Rattle.property_table.specs.declared.Edition.TheVariants.{First, Second}
use Rattle.value_kinds.specs.Shapes.{Shape, dead, Matches}
use Rattle.value_kinds.specs.Dates.{fours, others, year, months, month, day28, day29, day30, day31, hour, minute, second, last_minute, offset, zoned, past_minute, past_hour, clock, last_second, time, timed, leap_date, common_date, no_year, date_and_or_time, full_time, leap_full, common_full, timestamp}
use Rattle.value_kinds.specs.Kinds.{text, texts, uri, component, parts, up_to, spread, components, gender, pidmap, vcard, version, shape_in, line_shape, kind_in, value_in}
use Rattle.value_kinds.specs.declared.Fault.TheVariants.{Fits, Breaks}
use Rattle.octets.proofs.Upto.{upto, alike}
use Rattle.value_laws.proofs.Places.{Broken, fits, breaks}

module _ (e : Edition) where
  pub fits_kind : (k : ℕ) (v : List ℕ) → (kind_in e k v ≡ Fits) ↔ Matches (shape_in e k) v
  unfolding kind_in
  fits_kind k v = fits (shape_in e k) v

  pub fits_line : (row k : ℕ) (v : List ℕ) → (value_in e row k v ≡ Fits) ↔ Matches (line_shape e row k) v
  unfolding value_in
  fits_line row k v = fits (line_shape e row k) v

-- each kind and each fixed value has a text
kind_found : (e : Edition) (k : ℕ) → k < kinds.count → dead (shape_in e k) ≡ false
unfolding upto shape_in dead text texts uri component parts up_to spread components gender pidmap fours others year months month day28 day29 day30 day31 hour minute second last_minute offset zoned past_minute past_hour clock last_second time timed leap_date common_date no_year date_and_or_time full_time leap_full common_full timestamp
kind_found First k h = alike (λ j. dead (shape_in First j)) (λ j. false) kinds.count refl k h
kind_found Second k h = alike (λ j. dead (shape_in Second j)) (λ j. false) kinds.count refl k h

pick_found : (t : Bool) (a b : Shape) → dead a ≡ false → dead b ≡ false → dead (pick t a b) ≡ false
pick_found true a b e f = e
pick_found false a b e f = f

module _ (e : Edition) where
  line_found : (row k : ℕ) → k < kinds.count → dead (line_shape e row k) ≡ false
  unfolding line_shape dead vcard version
  line_found row k h =
      pick_found (eqb row 1) vcard _ refl (pick_found (eqb row 2) vcard _ refl (pick_found (eqb row 34) version (shape_in e k) refl (kind_found e k h)))

  pub breaks_kind : (k : ℕ) (v : List ℕ) (n : ℕ) → k < kinds.count → (kind_in e k v ≡ Breaks n) ↔ Broken (shape_in e k) v n
  unfolding kind_in
  breaks_kind k v n h = breaks (shape_in e k) v n (kind_found e k h)

  pub breaks_line : (row k : ℕ) (v : List ℕ) (n : ℕ) → k < kinds.count → (value_in e row k v ≡ Breaks n) ↔ Broken (line_shape e row k) v n
  unfolding value_in
  breaks_line row k v n h = breaks (line_shape e row k) v n (line_found row k h)

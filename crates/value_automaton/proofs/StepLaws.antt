-- One step of the scanner, and the last part of a URI. Assumes nothing.
use mathlib.Core.Path.{◌≡◌, refl, sym, ap, ◌∙◌}
use mathlib.Core.Bool.{true}
use mathlib.Core.List.{List, ◌∷◌}
use Prim.Native.Nat.{ℕ, ◌+◌, ◌*◌, ◌-◌, ◌/◌, ◌%◌, ◌<◌, ◌≤◌}
use native.Mathlib.Numerals.{add-one}
use native.Mathlib.Omega.{arith}
use lib.Dec.{eqb, leb}
use lib.ListN.{length, get_or, drop, drop_of_length-le}
use lib.Seq.{drop-cons}
use borrow.Author.Tests.{eq-eqb, ne_eqb, le-leb, lt-leb}
use Rattle.octets.specs.Pick.{pick}
use Rattle.octets.specs.Counts.{all_in}
use Rattle.value_kinds.specs.Octets.{Octets, graphic, holds}
use Rattle.value_kinds.specs.Shapes.{Shape, never, empty, one, ◌then◌, ◌or◌, many, nullable, dead, derivative, fault_from}
use Rattle.value_kinds.specs.Dates.{fours, others, year, months, month, day28, day29, day30, day31, hour, minute, second, last_minute, offset, zoned, past_minute, past_hour, clock, last_second, time, timed, leap_date, common_date, no_year, date_and_or_time, full_time, leap_full, common_full, timestamp}
use Rattle.value_kinds.specs.Kinds.{text, texts, uri, component, parts, up_to, spread, components, gender, pidmap, vcard, version}
use Rattle.value_automaton.specs.States.{state_count, uri_tail, first_nullable, stride, step_count, states, state_shape, representative, Whole, Next}
use Rattle.value_kinds.specs.declared.Fault.TheVariants.{Fits, Breaks}
use Rattle.octets.proofs.Upto.{upto, alike}
use Rattle.value_kinds.proofs.ShapeLaws.{fits_from}
use Rattle.value_kinds.proofs.QuietLaws.{run_many, itself}

-- the state 0 alone is dead, and those from first_nullable on are nullable
dead_right : (q : ℕ) → q < state_count → dead (state_shape q) ≡ eqb q 0
unfolding upto state_shape states dead text texts uri component parts up_to spread components gender pidmap vcard version fours others year months month day28 day29 day30 day31 hour minute second last_minute offset zoned past_minute past_hour clock last_second time timed leap_date common_date no_year date_and_or_time full_time leap_full common_full timestamp
dead_right q h = alike (λ j. dead (state_shape j)) (λ j. eqb j 0) state_count refl q h

ends_right : (q : ℕ) → q < state_count → nullable (state_shape q) ≡ leb first_nullable q
unfolding upto state_shape states nullable text texts uri component parts up_to spread components gender pidmap vcard version fours others year months month day28 day29 day30 day31 hour minute second last_minute offset zoned past_minute past_hour clock last_second time timed leap_date common_date no_year date_and_or_time full_time leap_full common_full timestamp
ends_right q h = alike (λ j. nullable (state_shape j)) (λ j. leb first_nullable j) state_count refl q h

-- octets in the same sets leave the same shape
derivative_alike : (x y : ℕ) → ((p : Octets) → holds p x ≡ holds p y) → (r : Shape) → derivative x r ≡ derivative y r
unfolding derivative
derivative_alike x y h never = refl
derivative_alike x y h empty = refl
derivative_alike x y h (one p) = rw (h p)
derivative_alike x y h (a then b) = rw (derivative_alike x y h a, derivative_alike x y h b)
derivative_alike x y h (a or b) = rw (derivative_alike x y h a, derivative_alike x y h b)
derivative_alike x y h (many a) = rw (derivative_alike x y h a)

-- an entry is its column at least, and less its column the next state
pub over : (t : List ℕ) (q b : ℕ) → Whole t → q < state_count → b < 256 → get_or t b 0 ≤ get_or t (256 + (q * stride + get_or t b 0)) 0
over t q b h hq hb =
    let c = get_or t b 0 in
    let low : c < stride = h.sort_low b hb in
    let k : q * stride + c < step_count = omega arith in
    let column : (q * stride + c) % stride ≡ c = omega arith in
    rw column at (h.step_over (q * stride + c) k)

pub next : (t : List ℕ) (q b : ℕ) → Whole t → q < state_count → b < 256 → Next q b (get_or t (256 + (q * stride + get_or t b 0)) 0 - get_or t b 0)
next t q b h hq hb =
    let c = get_or t b 0 in
    let low : c < stride = h.sort_low b hb in
    let k : q * stride + c < step_count = omega arith in
    let row : (q * stride + c) / stride ≡ q = omega arith in
    let column : (q * stride + c) % stride ≡ c = omega arith in
    record {
      inside = rw column at (h.step_low (q * stride + c) k);
      right = (rw (row, column) at (h.step (q * stride + c) k)) ∙ sym (derivative_alike b (representative c) (h.sort b hb) (state_shape q));
    }

module _ (s : List ℕ) (q i : ℕ) where
  fault_at : (r : Shape) → i < length s
      → fault_from r i (drop i s) ≡ pick (dead (derivative (get_or s i 0) r)) (Breaks i) (fault_from (derivative (get_or s i 0) r) (i + 1) (drop (i + 1) s))
  unfolding fault_from
  fault_at r h = ap (fault_from r i) (drop-cons s i 0 h ∙ ap (λ (n : ℕ). get_or s i 0 ∷ drop n s) (sym (add-one i)))

  pub fault_stop : (n : ℕ) → i < length s → Next q (get_or s i 0) n → n ≡ 0 → fault_from (state_shape q) i (drop i s) ≡ Breaks i
  fault_stop n h x e = rw (fault_at (state_shape q) h, sym x.right, dead_right n x.inside, eq-eqb n 0 e)

  pub fault_step : (n : ℕ) → i < length s → Next q (get_or s i 0) n → (n ≡ 0 → ⊥)
      → fault_from (state_shape q) i (drop i s) ≡ fault_from (state_shape n) (i + 1) (drop (i + 1) s)
  fault_step n h x e = rw (fault_at (state_shape q) h, sym x.right, dead_right n x.inside, ne_eqb n 0 e)

  pub fault_short : length s ≤ i → q < state_count → q < first_nullable → fault_from (state_shape q) i (drop i s) ≡ Breaks i
  unfolding fault_from
  fault_short h l e = rw (drop_of_length-le s h, ends_right q l, lt-leb first_nullable q e)

  pub fault_none : length s ≤ i → q < state_count → first_nullable ≤ q → fault_from (state_shape q) i (drop i s) ≡ Fits
  unfolding fault_from
  fault_none h l e = rw (drop_of_length-le s h, ends_right q l, le-leb first_nullable q e)

-- printing octets alone are left of a URI
pub uri_tail_lem : (v : List ℕ) (i n : ℕ) → n ≡ uri_tail → all_in (holds graphic) v ≡ true → fault_from (state_shape n) i v ≡ Fits
unfolding state_shape states
uri_tail_lem v i n e h = rw e (fits_from (many (one graphic)) i v (run_many (one graphic) (holds graphic) (itself graphic) v h))

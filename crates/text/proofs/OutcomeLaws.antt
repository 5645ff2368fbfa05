-- Refusals 1, 31 and 30 before the outcome that is left, by what was found. Assumes nothing.
use mathlib.Core.Path.{◌≡◌, refl, sym, ap, ◌∙◌}
use mathlib.Core.Bool.{Bool, true, false}
use mathlib.Core.List.{List, []}
use Prim.Native.Nat.{ℕ, ◌<◌, ◌≤◌}
use native.Mathlib.Omega.{arith}
use lib.ListN.{length}
use lib.Dec.{ltb}
use borrow.Author.Tests.{lt-ltb, le-ltb, ltb-false}
use Rattle.octets.specs.Room.{Filled, refuse, fill, fill_bounded}
use Rattle.octets.specs.Pick.{pick}
use Rattle.octets.proofs.Bools.{clash}
use Rattle.utf8.specs.Characters.{allowed, first_bad}
use Rattle.text_escaping.specs.Escaped.{escaped}
use Rattle.text_unescaping.specs.Unescaped.{first_fault, unescaped}
use Rattle.text_unescaping.specs.Measured.{measured}
use Rattle.std.proofs.Common.{Result, Ok, Err}
use Rattle.std.specs.Result.{MatchResult}
use Rattle.numbers.specs.Refusals.{number}
use Rattle.numbers.specs.declared.refusal.Reason.TheVariants.{TooLong, TextOctet}
use Rattle.numbers.specs.declared.refusal.Refusal.{Refusal}
use Rattle.octets.specs.Counts.{any}
use Rattle.utf8_screening.specs.Plain.{odd}
use Rattle.text_marks.specs.Seen.{held, seen_by}
use Rattle.text.specs.Screened.{refused, screened_by}
use Rattle.text.specs.Outcomes.{checked, faultless}
use Rattle.octets.proofs.RoomLaws.{within_bound}
use Rattle.text_marks.proofs.SeenLaws.{seen_low}
use Rattle.text_escaping.proofs.LengthLaws.{same_unmarked}
use Rattle.text_unescaping.proofs.BareLaws.{bare}
use Rattle.text_unescaping.proofs.MeasureLaws.{fault_told, octets_told}

-- by what screening answers: its refusal, or the outcome that is left
module _ (p : ℕ → Bool) (m : ℕ) (t room : List ℕ) (left : Filled) where
  -- what a refusal leaves
  abbrev refusing : Result ℕ Refusal → Filled
  refusing (Ok l) = left
  refusing (Err r) = refuse (number r.0) r.1 room

  refused_by : (r : Refusal) → screened_by p m t ≡ Err r → refuse (number r.0) r.1 room ≡ checked p t room left
  unfolding screened_by checked
  refused_by r e = by (ltb 16384 (length t)) (ltb (first_bad p t) (length t)) e
    where
      by : (a b : Bool) → pick a (refused TooLong 16384) (pick b (refused TextOctet (first_bad p t)) (Ok m)) ≡ Err r
          → refuse (number r.0) r.1 room ≡ pick a (refuse 1 16384 room) (pick b (refuse 31 (first_bad p t) room) left)
      by true b e = sym (ap refusing e)
      by false true e = sym (ap refusing e)
      by false false e = cc

  left_by : (l : ℕ) → screened_by p m t ≡ Ok l → (l ≡ m) × ((length t ≤ 16384) × (left ≡ checked p t room left))
  unfolding screened_by checked
  left_by l e = by (ltb 16384 (length t)) (ltb (first_bad p t) (length t)) refl e
    where
      by : (a b : Bool) → ltb 16384 (length t) ≡ a → pick a (refused TooLong 16384) (pick b (refused TextOctet (first_bad p t)) (Ok m)) ≡ Ok l
          → (l ≡ m) × ((length t ≤ 16384) × (left ≡ pick a (refuse 1 16384 room) (pick b (refuse 31 (first_bad p t) room) left)))
      by true b h e = clash cc
      by false true h e = clash cc
      by false false h e = (cc, (ltb-false 16384 (length t) h, refl))

module _ (t room : List ℕ) (left : Filled) (f : ℕ) (e : f ≡ first_fault t) where
  pub a_fault : f < length t → refuse 30 f room ≡ faultless t room left
  unfolding faultless
  a_fault l = simp (sym e, lt-ltb f (length t) l)

  pub no_fault : length t ≤ f → left ≡ faultless t room left
  unfolding faultless
  no_fault l = simp (sym e, le-ltb f (length t) l)

-- what a result was before its error was mapped: the same value, or an error that was mapped to this one
module _ {A E : Type 0} (F : Type 0) where
  pub was_ok : (m : Result A E) (x : A) → MatchResult m (λ y. ◌≡◌ {A = Result A F} (Ok x) (Ok y)) (λ e. ⊥) → m ≡ Ok x
  was_ok (Ok y) x h = cc
  was_ok (Err e) x h = absurd h

  pub was_err : {Q : E → Type 0} (m : Result A E) (r : F) → MatchResult m (λ y. ◌≡◌ {A = Result A F} (Err r) (Ok y)) Q → (e : E) × (m ≡ Err e) × Q e
  was_err (Ok y) r h = clash cc
  was_err (Err e) r h = (e, refl, h)

-- the outcome of unescaping after refusals 1 and 31, by what measuring answered
module _ (t room : List ℕ) {m : Result ℕ ℕ} (e : m ≡ measured t) where
  pub fault_outcome : {p : ℕ} → m ≡ Err p → refuse 30 p room ≡ faultless t room (fill (unescaped t) room)
  fault_outcome g = let h = fault_told t _ (sym e ∙ g) in a_fault t room (fill (unescaped t) room) _ h.0 h.1

  module _ {n : ℕ} (g : m ≡ Ok n) where
    pub told : (n ≡ length (unescaped t)) × (first_fault t ≡ length t)
    told = octets_told t n (sym e ∙ g)

    pub whole_outcome : {r : Filled} → r ≡ fill (unescaped t) room → r ≡ faultless t room (fill (unescaped t) room)
    whole_outcome h = h ∙ no_fault t room (fill (unescaped t) room) (first_fault t) refl (omega (arith, told.1))

-- an entry that changes a text: which octets it allows, which may be bad, which are held, and the outcome after refusals 1 and 31, which for
-- a text with no octet that is held is the text itself
pub record Change : Type 0 where
  pub allows : ℕ → Bool
  pub amiss : ℕ → Bool
  pub holds : ℕ → Bool
  pub left : List ℕ → List ℕ → Filled
  pub same : (t room : List ℕ) → length t ≤ 16384 → any holds t ≡ false → fill t room ≡ left t room

abbrev pub screened_for : Change → List ℕ → Result ℕ Refusal
screened_for k t = screened_by k.allows (seen_by k.amiss k.holds t) t

abbrev pub outcome : Change → List ℕ → List ℕ → Filled
outcome k t room = checked k.allows t room (k.left t room)

-- the outcome, by what screening answered
module _ (k : Change) (t room : List ℕ) {s : Result ℕ Refusal} (e : s ≡ screened_for k t) where
  pub refused_outcome : {r : Refusal} → s ≡ Err r → refuse (number r.0) r.1 room ≡ outcome k t room
  refused_outcome g = refused_by k.allows (seen_by k.amiss k.holds t) t room (k.left t room) _ (sym e ∙ g)

  module _ {l : ℕ} (g : s ≡ Ok l) where
    saw : (l ≡ seen_by k.amiss k.holds t) × ((length t ≤ 16384) × (k.left t room ≡ outcome k t room))
    saw = left_by k.allows (seen_by k.amiss k.holds t) t room (k.left t room) l (sym e ∙ g)

    pub left_outcome : {r : Filled} → r ≡ k.left t room → r ≡ outcome k t room
    left_outcome h = h ∙ saw.1.1

    pub same_outcome : {r : Filled} → l < 2 → r ≡ fill t room → r ≡ outcome k t room
    same_outcome low h = h ∙ k.same t room saw.1.0 (seen_low k.amiss k.holds t l saw.0 low) ∙ saw.1.1

-- a text that screening does not refuse is short
pub short_text : (k : Change) (t : List ℕ) {s : Result ℕ Refusal} {l : ℕ} → s ≡ screened_for k t → s ≡ Ok l → length t ≤ 16384
short_text k t e g = (left_by k.allows (seen_by k.amiss k.holds t) t [] (k.left t []) _ (sym e ∙ g)).1.0

pub escape_same : (t room : List ℕ) → length t ≤ 16384 → any (held 59 10) t ≡ false → fill t room ≡ fill_bounded (escaped t) room
escape_same t room h e = let q = same_unmarked t e in rw q (within_bound t room (length t) refl h)

abbrev pub escaping : Change
escaping = record { allows = allowed true; amiss = odd; holds = held 59 10; left = λ t room. fill_bounded (escaped t) room; same = escape_same }

pub unescape_same : (t room : List ℕ) → length t ≤ 16384 → any (held 44 44) t ≡ false → fill t room ≡ faultless t room (fill (unescaped t) room)
unescape_same t room h e =
    let q = bare t e in
    rw q.1 (no_fault t room (fill t room) (length t) (sym q.0) (omega arith))

abbrev pub unescaping : Change
unescaping = record { allows = allowed false; amiss = odd; holds = held 44 44; left = λ t room. faultless t room (fill (unescaped t) room); same = unescape_same }

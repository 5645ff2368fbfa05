-- RFC 3629, section 4: `char_length` and `first_bad` say of every list what the grammar says. No list is left out: a number above
-- 255 is in no range of the grammar. Assumes nothing.
use Prim.Native.Nat.{ℕ, zero, suc, ◌<◌, ◌≤◌}
use mathlib.Core.Path.{◌≡◌, refl, ◌∙◌}
use mathlib.Core.Logic.{◌↔◌}
use mathlib.Core.Bool.{Bool, false}
use mathlib.Core.List.{List, [], ◌∷◌}
use native.Mathlib.Omega.{arith}
use lib.ListN.{length, take, drop}
use lib.Seq.{take-length}
use Rattle.octets.specs.Scan.{scan}
use Rattle.octets.specs.Classes.{valued}
use Rattle.utf8.specs.Characters.{length_by, second, tail, rest, char_length, allowed, unit, first_bad}
use Rattle.utf8.specs.Rfc3629.{Characters}
use Rattle.utf8.proofs.Chars.{bad_le}
use Rattle.utf8_laws.specs.Texts.{Begins, Text, Stops, BadAt, Each}
use Rattle.utf8_laws.proofs.Starts.{char_found, char_parts}
use Rattle.utf8_laws.proofs.Walks.{begins, stops_zero, bad_none, place_parts, past_prefix, text_of, text_characters, text_each, allowed_high}

-- UTF8-char: the answer n + 1 is given exactly where a character of n + 1 octets begins the list
pub begins_length : (l : List ℕ) (n : ℕ) → (char_length l ≡ suc n) ↔ ((c : List ℕ) × Begins l c × (length c ≡ suc n))
begins_length l n = (char_found l n, λ f. begins l f.0 f.1 ∙ f.2)

-- and 0 exactly where no character does
pub begins_none : (l : List ℕ) → (char_length l ≡ 0) ↔ ((c : List ℕ) → Begins l c → ⊥)
begins_none l = (λ e c g. omega (arith, e, begins l c g, (char_parts c g.0).0), by (char_length l) refl)
  where
    by : (n : ℕ) → char_length l ≡ n → ((c : List ℕ) → Begins l c → ⊥) → char_length l ≡ 0
    by zero e no_one = e
    by (suc n) e no_one = let f = char_found l n e in absurd (no_one f.0 f.1)

module _ (p : ℕ → Bool) (l : List ℕ) where
  -- the place k is answered exactly where the octets before it are allowed characters and none begins at it
  pub bad_place : (k : ℕ) → (first_bad p l ≡ k) ↔ ((k ≤ length l) × Text p (take k l) × Stops p (drop k l))
  bad_place k = (
    place_parts p l k,
    λ h. omega (arith, past_prefix p l k h.0 h.1, bad_none p (drop k l) (stops_zero p (drop k l) h.2)),
  )

  -- so it is the length of the longest prefix that is made of allowed characters
  pub bad_longest : (k : ℕ) → k ≤ length l → Text p (take k l) → k ≤ first_bad p l
  bad_longest k h t = omega (arith, past_prefix p l k h t)

  -- UTF8-octets: the end is answered exactly at a text of allowed characters
  pub bad_nowhere : (first_bad p l ≡ length l) ↔ Text p l
  bad_nowhere = (
    λ e. rw take-length at (place_parts p l (length l) e).1,
    λ t. omega (arith, bad_longest (length l) (omega arith) (rw take-length t), bad_le p l),
  )

  -- a place within the list is answered exactly where a character is bad
  pub bad_at : first_bad p l < length l → BadAt p l (first_bad p l)
  bad_at h = let w = (bad_place (first_bad p l)).0 refl in record { inside = h; before = w.1; there = w.2 }

  pub bad_at_only : {k : ℕ} → BadAt p l k → first_bad p l ≡ k
  bad_at_only {k} b = let h = b.inside in (bad_place k).1 (omega arith, b.before, b.there)

-- with the octets of a value (and LF) allowed, exactly at UTF8-octets of allowed octets
pub allowed_only : (lf : Bool) (l : List ℕ) → (first_bad (allowed lf) l ≡ length l) ↔ (Characters l × Each (allowed lf) l)
allowed_only lf l = (
  λ e. let t = (bad_nowhere (allowed lf) l).0 e in (text_characters (allowed lf) l t, text_each (allowed lf) (allowed_high lf) l t),
  λ h. (bad_nowhere (allowed lf) l).1 (text_of (allowed lf) l h.0 h.1),
)

-- 61 62 E2 82 63: the bad character's first octet, and not the octet at which it goes wrong
pub bad_first_octet : first_bad (allowed false) (0x61 ∷ 0x62 ∷ 0xe2 ∷ 0x82 ∷ 0x63 ∷ []) ≡ 2
unfolding first_bad scan unit allowed valued char_length length_by rest second tail
bad_first_octet = refl

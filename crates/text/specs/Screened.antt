-- Refusals 1 and 31 of a text, or what is seen in it. Assumes nothing.
use Rattle.std.specs.Prelude.{ℕ, ◌≡◌, Bool, false, List, Result, Ok, Err, ltb, length}
use Rattle.numbers.specs.Limits as limit
use Rattle.numbers.specs.declared.refusal.Reason.{Reason}
use Rattle.numbers.specs.declared.refusal.Reason.TheVariants.{TooLong, TextOctet}
use Rattle.numbers.specs.declared.refusal.Refusal.{Refusal}
use Rattle.octets.specs.Pick.{pick}
use Rattle.octets.specs.Counts.{any}
use Rattle.utf8.specs.Characters.{first_bad}
use Rattle.text_marks.specs.Seen.{seen_by}

-- a refusal at a place
abbrev pub refused : Reason → ℕ → Result ℕ Refusal
refused n p = Err (record { 0 = n; 1 = p })

-- by the octets that are allowed, and what is seen
unfoldable pub screened_by : (ℕ → Bool) → ℕ → List ℕ → Result ℕ Refusal
screened_by p seen t =
    pick (ltb limit.octets (length t)) (refused TooLong limit.octets)
    (pick (ltb (first_bad p t) (length t)) (refused TextOctet (first_bad p t)) (Ok seen))

-- what screening answers, by what it saw and found: for any test of which octets are allowed, of those that may be bad and of the marks, where
-- a text in which none may be bad has none that is
abbrev pub Screens : (ℕ → Type 0) → (ℕ → Type 0) → List ℕ → Result ℕ Refusal → Type 0
Screens Saw Found t r =
    (allows amiss holds : ℕ → Bool)
    → ((n : ℕ) → Saw n → n ≡ seen_by amiss holds t)
    → ((n : ℕ) → Found n → n ≡ first_bad allows t)
    → (any amiss t ≡ false → first_bad allows t ≡ length t)
    → r ≡ screened_by allows (seen_by amiss holds t) t

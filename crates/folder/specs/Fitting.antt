-- What is written to room that may be too small: where there is room it holds the octets then, and where there is none the answer says so. Assumes
-- nothing.
use Rattle.std.specs.Prelude.{ℕ, ◌<◌, ◌≤◌, ◌≡◌, List, length}
use Rattle.numbers.specs.Limits as limit
use Rattle.numbers.specs.Refusals as refusal
use Rattle.octets.specs.Room.{overlay}
use Rattle.octets.specs.Room.{Written}
use Rattle.octets.specs.Room.{Wrote, Refused}

-- n octets are answered for xs, the room was d₀ and is d: over the room's length where xs is
pub record Fitted (xs d₀ d : List ℕ) (n : ℕ) : Type 0 where
  pub fits : length xs ≤ length d₀ → (n ≡ length xs) × (d ≡ overlay xs d₀)
  pub over : length d₀ < length xs → length d₀ < n

-- the same with 16 where there is no room
pub record Poured (xs d₀ d : List ℕ) (a : Written) : Type 0 where
  pub fits : length xs ≤ length d₀ → (a ≡ Wrote (length xs)) × (d ≡ overlay xs d₀)
  pub over : length d₀ < length xs → a ≡ Refused refusal.form_too_long limit.octets

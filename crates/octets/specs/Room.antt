-- Lent room: what it holds when a list was written to its start, and refusals 15 and 16 of REFERENCE, Refusals. Assumes nothing.
use Rattle.std.specs.Prelude.{ℕ, List, ◌++◌, Result, Ok, Err, ltb, length, drop}
use Rattle.numbers.specs.Limits as limit
use Rattle.numbers.specs.Refusals as refusal
use Rattle.numbers.specs.Refusals.{number}
use Rattle.numbers.specs.declared.refusal.Refusal.{Refusal}
use Rattle.octets.specs.Pick.{pick}

-- the list, and then the room as it was
abbrev pub overlay : {A : Type 0} → List A → List A → List A
overlay xs room = xs ++ drop (length xs) room

-- what a writer answers: how many octets were written, or a refusal's number and place
pub data Written : Type 0 where
  Wrote : ℕ → Written
  Refused : ℕ → ℕ → Written

-- the same of a result
abbrev pub written : Result ℕ Refusal → Written
written (Ok n) = Wrote n
written (Err r) = Refused (number r.0) r.1

-- an answer, and what the room holds then
pub record Filled : Type 0 where
  pub answer : Written
  pub room : List ℕ

abbrev pub filled : Written → List ℕ → Filled
filled a room = record { answer = a; room = room }

-- a refusal leaves the room as it was
abbrev pub refuse : ℕ → ℕ → List ℕ → Filled
refuse n p room = filled (Refused n p) room

-- 15 where the room is too small for the octets, else they are written to its start
unfoldable pub fill : List ℕ → List ℕ → Filled
fill xs room = pick (ltb (length room) (length xs)) (refuse refusal.room (length xs) room) (filled (Wrote (length xs)) (overlay xs room))

-- 16 where there are over 16,384 octets, before 15
unfoldable pub fill_bounded : List ℕ → List ℕ → Filled
fill_bounded xs room = pick (ltb limit.octets (length xs)) (refuse refusal.form_too_long limit.octets room) (fill xs room)

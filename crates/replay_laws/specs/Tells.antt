-- A log tells the answers: each number has 32 bits, and two replays write the same octets only where their answers are the same.
-- Assumes nothing.
use Rattle.std.specs.Prelude.{ℕ, ◌<◌, ◌≡◌, List, [], ◌∷◌, length, take}
use Rattle.numbers.specs.Limits as limit
use Rattle.desk_ledger.specs.Ledger.{Reply, refused, told, counts, part}
use Rattle.desk_ledger.specs.Ticks.{Ticked}
use Rattle.desk_ledger.specs.Desks.{ledger_answers}
use Rattle.replay_script.specs.Scripts.{calls_in}
use Rattle.replay_log.specs.Logs.{written}
use Rattle.replay.specs.Outcome.{replay_outcome}
use Rattle.replay.specs.Outcome.{Ran}

-- each number of an answer has 32 bits
abbrev pub Small : Reply → Type 0
Small (refused n p) = (n < limit.word) × (p < limit.word)
Small (told n) = n < limit.word
Small (counts k n) = (k < limit.word) × (n < limit.word)
Small (part o) = length o < limit.word

unfoldable pub AllSmall : List Reply → Type 0
AllSmall [] = Unit {0}
AllSmall (r ∷ rs) = Small r × AllSmall rs

-- the answers to the calls of a script, on a fresh desk of n slots
abbrev pub answers_to : ℕ → List ℕ → List Reply
answers_to n s = ledger_answers n (calls_in s 0)

-- replays that ran, of any scripts on desks of any size, whatever their pools and logs held
pub record Tells : Type 0 where
  pub small : (n : ℕ) (cs : List Ticked) → AllSmall (ledger_answers n cs)
  pub wrote : (n : ℕ) (s p l : List ℕ) (k w : ℕ) → (replay_outcome n s p l).answer ≡ Ran k w → take w (replay_outcome n s p l).log ≡ written (answers_to n s)
  pub injective : (n : ℕ) (s p l : List ℕ) (k w : ℕ) → (replay_outcome n s p l).answer ≡ Ran k w
      → (n' : ℕ) (s' p' l' : List ℕ) (k' w' : ℕ) → (replay_outcome n' s' p' l').answer ≡ Ran k' w'
      → take w (replay_outcome n s p l).log ≡ take w' (replay_outcome n' s' p' l').log → answers_to n s ≡ answers_to n' s'

-- How many calls a script has, and how many of them are shows. Assumes nothing.
use Rattle.std.specs.Prelude.{ℕ, ◌+◌, List, [], ◌∷◌, Result, Ok, Err, length}
use Rattle.numbers.specs.declared.refusal.Reason.TheVariants.{ReplayCall}
use Rattle.numbers.specs.declared.refusal.Refusal.{Refusal}
use Rattle.desk_ledger.specs.Ticks.{judging, showing, counting, releasing, Ticked, opens_at, adds_at, asks_of}
use Rattle.replay_script.specs.Scripts.{Decoded, calls, broken}
use Rattle.replay_script.specs.declared.Counted.{Counted}

-- 1 for a show, 0 for any other call
abbrev pub shows : Ticked → ℕ
shows (opens_at m τ) = 0
shows (adds_at t q τ) = 0
shows (asks_of t judging) = 0
shows (asks_of t showing) = 1
shows (asks_of t counting) = 0
shows (asks_of t releasing) = 0

unfoldable pub shown : List Ticked → ℕ
shown [] = 0
shown (c ∷ cs) = shows c + shown cs

-- both counts, or 90 at the first broken call
abbrev pub counted : Decoded → Result Counted Refusal
counted (calls cs) = Ok (record { calls = length cs; shows = shown cs })
counted (broken p) = Err (record { 0 = ReplayCall; 1 = p })

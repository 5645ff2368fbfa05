-- A desk with its pool under a list of calls, by the very steps of the contracts. Assumes nothing.
use Rattle.std.specs.Prelude.{ℕ, ◌*◌, ◌≤◌, ◌≡◌, List, length}
use Rattle.numbers.specs.Limits as limit
use Rattle.desk.specs.Steps.{Turned, new_step, open_step, add_step, release_step, show_step, held_step, judge_step}
use Rattle.desk.specs.declared.Desk.{Desk}
pub use Rattle.desk_ledger.specs.Answers.{said}
use Rattle.desk_ledger.specs.Ledger.{Reply, part, verdict, Out}
use Rattle.desk_ledger.specs.Ticks.{Ask, judging, showing, counting, releasing, Ticked, opens_at, adds_at, asks_of, Clocked, clocked_step, fresh_clocked, run_ticked, after_ticked}

pub record World : Type 0 where
  pub desk : Desk
  pub pool : List ℕ

abbrev pub took : Turned → Out World
took r = record { reply = said r.answer; then = record { desk = r.desk; pool = r.pool } }

abbrev pub ask_step : World → ℕ → Ask → Out World
ask_step w t judging = record { reply = verdict (judge_step w.desk w.pool t); then = w }
ask_step w t showing = record { reply = part (show_step w.desk w.pool t).octets; then = w }
ask_step w t counting = record { reply = said (held_step w.desk w.pool t); then = w }
ask_step w t releasing = took (release_step w.desk w.pool t)

abbrev pub desk_step : World → Ticked → Out World
desk_step w (opens_at m τ) = took (open_step w.desk w.pool m τ)
desk_step w (adds_at t q τ) = took (add_step w.desk w.pool t q τ)
desk_step w (asks_of t x) = ask_step w t x

-- a new desk with its pool
abbrev pub fresh : ℕ → List ℕ → World
fresh n p = record { desk = (new_step n).desk; pool = p }

-- a desk of n slots with its proper pool, whatever this holds
pub record Proper (n : ℕ) (p : List ℕ) : Type 0 where
  pub some : 1 ≤ n
  pub most : n ≤ limit.slots
  pub sized : length p ≡ n * limit.octets

abbrev pub answers : ℕ → List ℕ → List Ticked → List Reply
answers n p xs = run_ticked desk_step (fresh n p) xs

abbrev pub world : ℕ → List ℕ → List Ticked → World
world n p xs = after_ticked desk_step (fresh n p) xs

-- the ledger's answers to the same calls, and the ledger after them
abbrev pub ledger_answers : ℕ → List Ticked → List Reply
ledger_answers n xs = run_ticked clocked_step (fresh_clocked n) xs

abbrev pub ledger : ℕ → List Ticked → Clocked
ledger n xs = after_ticked clocked_step (fresh_clocked n) xs

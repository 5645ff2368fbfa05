-- Calls with the ledger's answers, and what an upload then holds, computed. Assumes nothing.
use Prim.Native.Nat.{ℕ}
use mathlib.Core.Path.{◌≡◌, refl}
use mathlib.Core.List.{List, [], ◌∷◌, map}
use lib.ListN.{replicate}
use Rattle.numbers.specs.Limits as limit
use Rattle.numbers.specs.Refusals as refusal
use Rattle.octets.specs.Ascii.{octets}
use Rattle.desk_ledger.specs.Ledger.{adds, judges, shows, asks, releases, Call, opens, on}
use Rattle.desk_ledger.specs.Ledger.{Reply, refused, told, part, Ledger, lookup, change, ledger_step, fresh_ledger, run}
use Rattle.desk_ledger.specs.Uploads.{joined}
use Rattle.desk_ledger.specs.Ticks.{counting, showing, releasing, Ticked, opens_at, adds_at, asks_of, stamp_of, idle, lowest_idle, clocked_step, fresh_clocked, run_ticked}

-- a call, and what the ledger answers
pub record Example : Type 0 where
  pub call : Call
  pub reply : Reply

abbrev example : Call → Reply → Example
example c r = record { call = c; reply = r }

-- a chunk that fills a slot
abbrev slotful : List ℕ
slotful = replicate limit.octets 0

-- one call after the other, on a fresh ledger of two slots
abbrev pub day : List Example
day =
    example (opens 71) (told 1)
    ∷ example (opens 72) (told 2)
    ∷ example (opens 73) (refused refusal.no_free_slot 0)
    ∷ example (on 1 (adds (octets "AB"))) (told 2)
    ∷ example (on 2 (adds (octets "X"))) (told 1)
    ∷ example (on 1 (adds (octets "CD"))) (told 4)
    ∷ example (on 1 shows) (part (octets "ABCD"))
    ∷ example (on 1 asks) (told 4)
    ∷ example (on 2 (adds slotful)) (refused refusal.slot_full 1)
    ∷ example (on 2 shows) (part (octets "X"))
    ∷ example (on 3 asks) (refused refusal.not_open 0)
    ∷ example (on 1 releases) (told 0)
    ∷ example (on 1 (adds (octets "E"))) (refused refusal.not_open 0)
    ∷ example (on 1 judges) (refused refusal.not_open 0)
    ∷ example (on 1 shows) (part [])
    ∷ example (on 1 asks) (refused refusal.not_open 0)
    ∷ example (on 1 releases) (refused refusal.not_open 0)
    ∷ example (opens 71) (told 3)
    ∷ example (on 3 shows) (part [])
    ∷ example (on 2 asks) (told 1)
    ∷ []

abbrev calls : List Call
calls = map (λ (x : Example). x.call) day

abbrev replies : List Reply
replies = map (λ (x : Example). x.reply) day

-- a full ledger whose tickets are used up
abbrev used_up : Ledger
used_up = record { slots = 1; next = limit.tickets; rows = record { ticket = 5; octets = [] } ∷ [] }

-- the same with ticks, on a fresh ledger of one slot
pub record TickedExample : Type 0 where
  pub call : Ticked
  pub reply : Reply

abbrev at : Ticked → Reply → TickedExample
at x r = record { call = x; reply = r }

-- an opening 599 ticks after the last add is refused and moves no tick; one tick later it takes the session, whose ticket is closed then; a lower tick
-- counts as the highest, and what asks of a ticket wakes nobody
abbrev pub watch : List TickedExample
watch =
    at (opens_at 71 100) (told 1)
    ∷ at (opens_at 72 699) (refused refusal.no_free_slot 0)
    ∷ at (asks_of 1 counting) (told 0)
    ∷ at (opens_at 72 700) (told 2)
    ∷ at (adds_at 1 (octets "A") 700) (refused refusal.not_open 0)
    ∷ at (adds_at 2 (octets "B") 5) (told 1)
    ∷ at (asks_of 2 showing) (part (octets "B"))
    ∷ at (opens_at 73 1299) (refused refusal.no_free_slot 0)
    ∷ at (opens_at 73 1300) (told 3)
    ∷ at (asks_of 2 releasing) (refused refusal.not_open 0)
    ∷ at (asks_of 3 showing) (part [])
    ∷ []

pub record Worked : Type 0 where
  -- each call is answered as the table says
  pub answered : run ledger_step (fresh_ledger 2) calls ≡ replies
  -- ticket 1 holds its two chunks in order, and ticket 2 the chunk that was accepted
  pub first : joined 1 calls replies ≡ octets "ABCD"
  pub second : joined 2 calls replies ≡ octets "X"
  -- 21 comes before 20
  pub used : (ledger_step used_up (opens 71)).reply ≡ refused refusal.tickets_used_up 0
  -- and so is each call with its tick
  pub watched : run_ticked clocked_step (fresh_clocked 1) (map (λ (x : TickedExample). x.call) watch) ≡ map (λ (x : TickedExample). x.reply) watch

pub worked : Worked
unfolding octets lookup change run joined run_ticked stamp_of idle lowest_idle
worked = record { answered = refl; first = refl; second = refl; used = refl; watched = refl }

-- The plain ledger, by REFERENCE, The plain ledger: it is fed the calls in order and knows no slots, no pool and no answers of a desk. Assumes nothing.
use Rattle.std.specs.Prelude.{ℕ, ◌+◌, List, [], ◌∷◌, ◌++◌, ltb, eqb, length}
use Rattle.numbers.specs.Limits as limit
use Rattle.numbers.specs.Refusals as refusal
use Rattle.octets.specs.Pick.{pick}
use Rattle.reader.specs.Outcome.{judge_of}
pub use Rattle.desk_ledger.specs.Answers.{Reply, refused, told, counts, part, verdict}

-- what is asked of a ticket: add a chunk, judge, show, say the octets held, release
pub data Deed : Type 0 where
  adds : List ℕ → Deed
  judges shows asks releases : Deed

-- a call with its arguments except desk and pool: an opening with its identifier, or a deed on a ticket
pub data Call : Type 0 where
  opens : ℕ → Call
  on : ℕ → Deed → Call

-- ---- one ticket: not open, or open with its octets

pub data Found : Type 0 where
  absent : Found
  present : List ℕ → Found

-- 22 of a ticket that is not open; from show an empty part
abbrev pub shut : Deed → Reply
shut (adds q) = refused refusal.not_open 0
shut judges = refused refusal.not_open 0
shut shows = part []
shut asks = refused refusal.not_open 0
shut releases = refused refusal.not_open 0

abbrev pub answer : Found → Deed → Reply
answer absent x = shut x
answer (present o) (adds q) = pick (ltb limit.octets (length o + length q)) (refused refusal.slot_full (length o)) (told (length o + length q))
answer (present o) judges = verdict (judge_of o)
answer (present o) shows = part o
answer (present o) asks = told (length o)
answer (present o) releases = told 0

abbrev pub leaves : Found → Deed → Found
leaves absent x = absent
leaves (present o) (adds q) = present (pick (ltb limit.octets (length o + length q)) o (o ++ q))
leaves (present o) judges = present o
leaves (present o) shows = present o
leaves (present o) asks = present o
leaves (present o) releases = absent

-- ---- all of them

pub record Row : Type 0 where
  pub ticket : ℕ
  pub octets : List ℕ

pub record Ledger : Type 0 where
  pub slots : ℕ
  pub next : ℕ
  pub rows : List Row

unfoldable pub lookup : List Row → ℕ → Found
lookup [] t = absent
lookup (r ∷ rs) t = pick (eqb r.ticket t) (present r.octets) (lookup rs t)

abbrev pub renew : Row → Found → List Row → List Row
renew r absent rs = rs
renew r (present o) rs = record { ticket = r.ticket; octets = o } ∷ rs

-- the rows with a ticket's row made so
unfoldable pub change : List Row → ℕ → Found → List Row
change [] t x = []
change (r ∷ rs) t x = pick (eqb r.ticket t) (renew r x rs) (r ∷ change rs t x)

-- an answer, and what is there then
pub record Out (S : Type 0) : Type 0 where
  pub reply : Reply
  pub then : S

abbrev pub opening : Ledger → Out Ledger
opening l =
    pick (eqb l.next limit.tickets) (record { reply = refused refusal.tickets_used_up 0; then = l })
    (pick (eqb (length l.rows) l.slots) (record { reply = refused refusal.no_free_slot 0; then = l })
    (record { reply = told l.next; then = record { slots = l.slots; next = l.next + 1; rows = record { ticket = l.next; octets = [] } ∷ l.rows } }))

abbrev pub ledger_step : Ledger → Call → Out Ledger
ledger_step l (opens m) = opening l
ledger_step l (on t x) =
    record {
      reply = answer (lookup l.rows t) x;
      then = record { slots = l.slots; next = l.next; rows = change l.rows t (leaves (lookup l.rows t) x) };
    }

abbrev pub fresh_ledger : ℕ → Ledger
fresh_ledger n = record { slots = n; next = 1; rows = [] }

-- ---- a list of calls

-- the answers, in order
unfoldable pub run : {S : Type 0} → (S → Call → Out S) → S → List Call → List Reply
run step s [] = []
run step s (c ∷ cs) = (step s c).reply ∷ run step (step s c).then cs

-- what is there afterwards
unfoldable pub after : {S : Type 0} → (S → Call → Out S) → S → List Call → S
after step s [] = s
after step s (c ∷ cs) = after step (step s c).then cs

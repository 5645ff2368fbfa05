-- Demand of request 11: what the planner and the checker answer and write, in plain words. Every outcome named here is the one that the
-- entry's contract equates with its answer and with all lent memory at exit. Assumes nothing.
use Rattle.std.specs.Prelude.{ℕ, ◌*◌, ◌<◌, ◌≤◌, ◌≡◌, List, ◌⊎◌, ◌↔◌, length, take}
use Rattle.numbers.specs.Refusals as refusal
use Rattle.octets.specs.Room.{overlay}
use Rattle.reader_grammar.specs.Inputs.{InputOf}
use Rattle.reader_grammar.specs.Refusals.{RefusedBy, Judging}
use Rattle.merge_sources.specs.declared.Source.{Source}
use Rattle.merge_partners.specs.Pairs.{Pair, pair}
use Rattle.merge.specs.Plans.{flatten}
use Rattle.merge.specs.Outcome.{planned, plan_outcome, check_outcome}
use Rattle.merge.specs.Paired.{Pairs, Refused}
use Rattle.merge_words.specs.Lists.{Member, At}
use Rattle.merge_words.specs.Sources.{RowOf, Over}
use Rattle.merge_laws.specs.Plans.{Demanded, Passes}

-- both inputs are accepted
pub record Both (i j : List ℕ) : Type 0 where
  pub cards : ℕ
  pub lines : ℕ
  pub first : InputOf i cards lines
  pub cards_too : ℕ
  pub lines_too : ℕ
  pub second : InputOf j cards_too lines_too

-- 71 of either
abbrev pub TooMuch : {i j : List ℕ} → Both i j → List Source → List Source → Type 0
TooMuch b m n = Over b.cards b.first.lines m ⊎ Over b.cards_too b.second.lines n

-- 72 of either
abbrev pub WrongRow : {i j : List ℕ} → Both i j → List Source → List Source → Type 0
WrongRow b m n = (RowOf 0 b.first.lines m → ⊥) ⊎ (RowOf 0 b.second.lines n → ⊥)

-- both are accepted, neither is over a limit, and both rows are right
pub record Ready (i j : List ℕ) (m n : List Source) : Type 0 where
  pub both : Both i j
  pub within : TooMuch both m n → ⊥
  pub row_first : RowOf 0 both.first.lines m
  pub row_second : RowOf 0 both.second.lines n

abbrev pub Passing : {i j : List ℕ} {m n : List Source} → Ready i j m n → List ℕ → Type 0
Passing r plan = Passes r.both.first.lines r.both.second.lines plan

-- the demanded pairs alone, by the first card's lines in order
pub record Proposed {i j : List ℕ} {m n : List Source} (r : Ready i j m n) (ps : List Pair) : Type 0 where
  pub passes : Passing r (flatten ps)
  pub alone : (q : Pair) → Member q ps → Demanded r.both.first.lines r.both.second.lines q.left q.right
  pub each : (a b : ℕ) → Demanded r.both.first.lines r.both.second.lines a b → Member (pair a b) ps
  pub rises : (a b : ℕ) (p q : Pair) → At ps a p → At ps b q → a < b → p.left < q.left

-- a judge's refusal: the first card's before the second's, with its place in its own input
pub data Judged (i j : List ℕ) (a p : ℕ) : Type 0 where
  first : RefusedBy i a p → Judged i j a p
  second : (k n : ℕ) → InputOf i k n → RefusedBy j a p → Judged i j a p

-- for all inputs, rows, plans and rooms
pub record Demand11 : Type 0 where
  -- the checker accepts exactly the plans that pass, and answers the count of pairs
  pub pairs : (i j : List ℕ) (m n : List Source) (plan : List ℕ) (k : ℕ) → (check_outcome i j m n plan ≡ Pairs k)
      ↔ ((r : Ready i j m n) × Passing r plan × (length plan ≡ k * 2))
  -- 70 exactly where no plan passes, whatever this one,
  pub none : (i j : List ℕ) (m n : List Source) (plan : List ℕ) → (check_outcome i j m n plan ≡ Refused refusal.no_plan 0)
      ↔ ((r : Ready i j m n) × ((p : List ℕ) → Passing r p → ⊥))
  -- and 73 exactly where this one doesn't and another would
  pub another : (i j : List ℕ) (m n : List Source) (plan : List ℕ) → (check_outcome i j m n plan ≡ Refused refusal.plan 0)
      ↔ ((r : Ready i j m n) × (Passing r plan → ⊥) × ((p : List ℕ) × Passing r p))
  -- 72 and 71 exactly
  pub row : (i j : List ℕ) (m n : List Source) (plan : List ℕ) → (check_outcome i j m n plan ≡ Refused refusal.source_row 0)
      ↔ ((b : Both i j) × (TooMuch b m n → ⊥) × WrongRow b m n)
  pub limits : (i j : List ℕ) (m n : List Source) (plan : List ℕ) → (check_outcome i j m n plan ≡ Refused refusal.merge_limit 0)
      ↔ ((b : Both i j) × TooMuch b m n)
  -- a judge's refusal exactly as the judge gives it; and there is no other refusal
  pub first_refusals : (i j : List ℕ) (m n : List Source) (plan : List ℕ) (a p : ℕ) → Judging a → (check_outcome i j m n plan ≡ Refused a p) ↔ Judged i j a p
  pub no_other : (i j : List ℕ) (m n : List Source) (plan : List ℕ) (a p : ℕ) → check_outcome i j m n plan ≡ Refused a p
      → Judging a ⊎ ((refusal.no_plan ≤ a) × (a ≤ refusal.plan) × (p ≡ 0))
  -- the planner writes the demanded pairs alone, in line order, to the start of the room, which stays as it was past them
  pub plans : (i j : List ℕ) (m n : List Source) (out room : List ℕ) (k : ℕ) → (plan_outcome i j m n out ≡ planned (Pairs k) room)
      ↔ ((r : Ready i j m n) × ((ps : List Pair) × Proposed r ps × (k ≡ length ps) × (k * 2 ≤ length out) × (room ≡ overlay (flatten ps) out)))
  -- 14 exactly where these do not fit, with twice their count
  pub no_room : (i j : List ℕ) (m n : List Source) (out room : List ℕ) (p : ℕ) → (plan_outcome i j m n out ≡ planned (Refused refusal.record_room p) room)
      ↔ ((r : Ready i j m n) × ((ps : List Pair) × Proposed r ps × (p ≡ length ps * 2) × (length out < p) × (room ≡ out)))
  -- any other refusal of the planner is the checker's of every plan, 73 left out, and the room stays as it was
  pub none_planned : (i j : List ℕ) (m n : List Source) (out room : List ℕ) (a p : ℕ) → (a ≡ refusal.record_room → ⊥) → (a ≡ refusal.plan → ⊥)
      → (plan_outcome i j m n out ≡ planned (Refused a p) room) ↔ (((plan : List ℕ) → check_outcome i j m n plan ≡ Refused a p) × (room ≡ out))
  pub never_another : (i j : List ℕ) (m n : List Source) (out room : List ℕ) (p : ℕ) → plan_outcome i j m n out ≡ planned (Refused refusal.plan p) room → ⊥
  -- what the planner writes the checker accepts, with the same count
  pub agree : (i j : List ℕ) (m n : List Source) (out room : List ℕ) (k : ℕ) → plan_outcome i j m n out ≡ planned (Pairs k) room
      → check_outcome i j m n (take (k * 2) room) ≡ Pairs k

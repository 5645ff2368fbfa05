-- What a line that is judged, and the lines of a chunk, make of the card's state and the buffer. Assumes nothing.
use Rattle.std.specs.Prelude.{ℕ, ◌+◌, ◌-◌, ◌≤◌, ◌≡◌, List, ◌∷◌, ◌++◌, length, take, drop, replicate}
use Rattle.numbers.specs.Limits as limit
use Rattle.line_folds.specs.Folds.{unfolded}
use Rattle.property_table.specs.declared.Edition.TheVariants.{First}
use Rattle.card_state.specs.State.{Step}
use Rattle.card_state.specs.Kept.{Lies, card_of, step_of, Holds}
use Rattle.card_state.specs.declared.Card.{Card as Kept}
use Rattle.card_state.specs.Kept.{KeptStep}
use Rattle.card_state.specs.Kept.{next as next_kept}
use Rattle.card_judge.specs.Judge.{judge_line}
use Rattle.reader_walk.specs.Walk.{settled, judge_lines}
use Rattle.watch_buffer.specs.Buffer.{padded}
use Rattle.watch_lines.specs.Parting.{ended_lines, open_line}
use Rattle.watch_lines.specs.Values.{values_on, values_next, values_from, laid_in, buffers_from}

-- the values that the state keeps, at the front of the buffer
abbrev pub kept : Kept → List ℕ → List ℕ
kept c b = take c.used b

-- the judgement of the line s, which starts at `at` in the input, and the values after it
abbrev pub judgement : Kept → List ℕ → List ℕ → ℕ → Step
judgement c b s at = judge_line First (card_of c b) at (unfolded s)

abbrev pub values_after : Kept → List ℕ → List ℕ → ℕ → List ℕ
values_after c b s at = values_on (judgement c b s at) (values_next (kept c b) (card_of c b) s)

-- the line s was judged with the buffer b, and led to r and the buffer b': up to `to` it holds the values alone, so all of it where b was 0 from `to` on
pub record Took (c : Kept) (s b b' : List ℕ) (at to : ℕ) (r : KeptStep) : Type 0 where
  pub step : step_of b' r ≡ settled at s (judgement c b s at)
  pub holds : Holds (c.used + length s) r
  pub buffer : drop to b ≡ replicate (limit.octets - to) 0 → b' ≡ padded (values_after c b s at)
  pub whole : b' ≡ laid_in to (values_after c b s at) b
  pub front : (d : Kept) → r ≡ next_kept d → (d.used ≡ length (values_after c b s at)) × (take d.used b' ≡ values_after c b s at)

-- the counts and values of a state lie within the first n octets of the input
pub record Within (c : Kept) (n : ℕ) : Type 0 where
  pub lies : Lies c
  pub used : c.used ≤ n
  pub cards : c.cards ≤ c.lines
  pub lines : c.lines ≤ n

-- the open line, which stands in the buffer behind the values, with the octets x that end it, without its CR LF
abbrev pub joined_line : Kept → ℕ → List ℕ → List ℕ → List ℕ
joined_line c left b x = take (left + length x - 2) (take left (drop c.used b) ++ x)

-- the line s, at `at` in the input, and the lines of l after it that have ended were judged: what they led to, the octets of the line that has not
-- ended, and the buffer, which holds the values alone where it was 0 behind the octets of s with its CR LF
pub record Went (c : Kept) (s l b b' : List ℕ) (at : ℕ) (r : KeptStep) (left : List ℕ) : Type 0 where
  pub step : step_of b' r ≡ judge_lines First (s ∷ ended_lines l) at (card_of c b)
  pub rest : (d : Kept) → r ≡ next_kept d → (left ≡ open_line l) × Within d (at + (length s + 2) + (length l - length left))
  pub buffer : drop (c.used + length s + 2) b ≡ replicate (limit.octets - (c.used + length s + 2)) 0
      → b' ≡ padded (values_from (s ∷ ended_lines l) at (card_of c b) (kept c b))
  pub sized : (d : Kept) → r ≡ next_kept d → d.used ≡ length (values_from (s ∷ ended_lines l) at (card_of c b) (kept c b))
  pub whole : b' ≡ buffers_from (s ∷ ended_lines l) at (card_of c b) (kept c b) b

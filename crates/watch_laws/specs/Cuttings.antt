-- Chunks one after the other, each call with the state and the buffer that the one before left, and what holds of every cutting. Assumes nothing.
use Rattle.std.specs.Prelude.{ℕ, ◌-◌, ◌<◌, ◌≤◌, ◌≡◌, true, false, List, [], ◌∷◌, ◌++◌, length, take, replicate}
use Rattle.numbers.specs.Limits as limit
use Rattle.line_breaks.specs.Lone.{first_lone, ends_cr_lf}
use Rattle.line_folds.specs.Logical.{raw_lines}
use Rattle.line_parser.specs.Grammar.{Line}
use Rattle.card_state.specs.State.{Card, Next, before_begin}
use Rattle.reader.specs.Outcome.{judge_of, ended}
use Rattle.reader.specs.Outcome.{Verdict}
use Rattle.watch_lines.specs.Parting.{ended_lines, open_line}
use Rattle.watch.specs.Octets.{judged, altid_octets, known, buffer_after}
use Rattle.watch.specs.State.{fresh_watch, claims, After}
use Rattle.watch.specs.Outcome.{ChunkOf, EndOf}
use Rattle.watch.specs.declared.Watch.{Watch}
use Rattle.watch.specs.declared.Arrived.TheVariants.{Next as goes_on}
use Rattle.watch_laws.specs.Altids.{Ended, altids_after, buffer_with}

-- the chunks joined
unfoldable pub joined : List (List ℕ) → List ℕ
joined [] = []
joined (c ∷ cs) = c ++ joined cs

-- from the state w and the buffer b the chunks lead to another state and buffer; each call meets its contract
pub data Fed : Watch → List ℕ → List (List ℕ) → Watch → List ℕ → Type 0 where
  none : {w : Watch} {b : List ℕ} → Fed w b [] w b
  more : {w v u : Watch} {b d e c : List ℕ} {cs : List (List ℕ)} → ChunkOf w b c (goes_on v) d → Fed v d cs u e → Fed w b (c ∷ cs) u e

-- what holds of every cutting of every input
pub record Demand6 : Type 0 where
  -- the end answers as the reader does for the joined chunks, whatever the buffer held at first
  pub same : (b : List ℕ) (cs : List (List ℕ)) (w : Watch) (d : List ℕ) (v : Verdict) → length b ≡ limit.octets → Fed fresh_watch b cs w d → EndOf w d v → v ≡ judge_of (joined cs)
  -- after a chunk the buffer is that of the octets so far, and the state says what is known of them
  pub holds : (b c : List ℕ) (cs : List (List ℕ)) (w : Watch) (d : List ℕ) → length b ≡ limit.octets → Fed fresh_watch b (c ∷ cs) w d → After w d (joined (c ∷ cs))
  -- 46 is not met by a state that was handed on
  pub fits : (b : List ℕ) (cs : List (List ℕ)) (w : Watch) (d : List ℕ) → length b ≡ limit.octets → Fed fresh_watch b cs w d → (claims w ≤ limit.octets) × (length d ≡ limit.octets)
  -- an input is its ended lines, each with its CR LF, and the open line
  pub parts : (i : List ℕ) → i ≡ ended (ended_lines i) ++ open_line i
  -- where the input has ended, the reader's lines are those and the open one without its CR LF
  pub last : (i : List ℕ) → 0 < length i → first_lone i ≡ length i → ends_cr_lf i ≡ true → raw_lines i ≡ ended_lines i ++ (take (length (open_line i) - 2) (open_line i) ∷ [])
  -- once a fault is known the buffer is all 0, and it stays known
  pub zero : (i : List ℕ) → known i ≡ true → buffer_after i ≡ replicate limit.octets 0
  pub stays : (i c : List ℕ) → known i ≡ true → known (i ++ c) ≡ true
  -- while no fault is known the ended lines are lines of the grammar; the ALTID values are those of the lines since the last END that has ended, and the
  -- buffer holds them, then the open line, then 0
  pub read : (i : List ℕ) → known i ≡ false → (xs : List Line) × Ended i xs
  pub alts : (i : List ℕ) (xs : List Line) → known i ≡ false → Ended i xs → altid_octets i ≡ altids_after xs
  pub laid : (i : List ℕ) (xs : List Line) → known i ≡ false → Ended i xs → buffer_after i ≡ buffer_with xs (open_line i)
  -- no ALTID value is kept outside a card
  pub gone : (i : List ℕ) (d : Card) → judged i ≡ Next d → d.phase ≡ before_begin → altid_octets i ≡ []

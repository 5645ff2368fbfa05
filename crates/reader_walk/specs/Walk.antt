-- The judgement of logical lines one after the other, up to the first refusal. Assumes nothing.
use Rattle.std.specs.Prelude.{ℕ, ◌+◌, ◌≤◌, ◌≡◌, List, [], ◌∷◌, ◌++◌, length, take, drop}
use Rattle.numbers.specs.Limits as limit
use Rattle.octets.specs.Room.{overlay}
use Rattle.line_folds.specs.Folds.{unfolded}
use Rattle.line_folds.specs.Places.{place_of}
use Rattle.property_table.specs.declared.Edition.{Edition}
use Rattle.card_judge.specs.Judge.{judge_line, added_by, KeepsOn}
use Rattle.card_state.specs.Kept.{Lies}
use Rattle.card_state.specs.declared.Card.{Card as Kept}
use Rattle.card_state.specs.Kept.{KeptStep}
use Rattle.card_state.specs.Kept.{next as next_kept}
use Rattle.card_state.specs.State.{Card, Step, Next, Refused as Halted, Flawed}

-- a refusal is handed up unchanged
abbrev pub onward : Step → (Card → Step) → Step
onward (Next c) f = f c
onward (Halted n p) f = Halted n p
onward (Flawed n o) f = Flawed n o

-- the judgement of the line l, which starts at p: a refusal that names an octet of the unfolded line has that octet's place in the input
abbrev pub settled : ℕ → List ℕ → Step → Step
settled p l (Next c) = Next c
settled p l (Halted n q) = Halted n q
settled p l (Flawed n o) = Halted n (p + place_of l o)

-- the lines judged one after the other; they are as they came, and p is the place of the first of them in the input as given
unfoldable pub judge_lines : Edition → List (List ℕ) → ℕ → Card → Step
judge_lines e [] p c = Next c
judge_lines e (l ∷ ls) p c = onward (settled p l (judge_line e c p (unfolded l))) (judge_lines e ls (p + length l + 2))

-- a list d with xs in the place of as many octets from a place on
unfoldable pub behind : ℕ → List ℕ → List ℕ → List ℕ
behind used xs d = take used d ++ overlay xs (drop used d)

-- the scratch has the values that the state keeps, and room for the line behind them
pub record Roomy (c : Kept) (l scratch : List ℕ) : Type 0 where
  pub lies : Lies c
  pub room : c.used + length l ≤ length scratch
  pub short : length scratch ≤ limit.octets

-- the octets that the line l, as it came, adds to the values that the state keeps
abbrev pub added_of : Edition → Kept → List ℕ → List ℕ
added_of e c l = added_by e c.seen (unfolded l)

-- what the scratch holds when the line l was judged behind the values that the state c keeps, and led to r: where that is a state, the values with the
-- octets that the line adds; and behind the line what it held before
pub record Left (e : Edition) (c : Kept) (l before after : List ℕ) (r : KeptStep) : Type 0 where
  pub front : (d : Kept) → r ≡ next_kept d → take (c.used + length (added_of e c l)) after ≡ take c.used before ++ added_of e c l
  pub short : (d : Kept) → r ≡ next_kept d → length (added_of e c l) ≤ length l
  pub counts : KeepsOn (c.used + length (added_of e c l)) r
  pub rest : drop (c.used + length l) after ≡ drop (c.used + length l) before

-- One turn of the walk over the logical lines of an input. Assumes nothing.
use mathlib.Core.Path.{◌≡◌, refl, sym, ap, ◌∙◌}
use mathlib.Core.List.{List}
use Prim.Native.Nat.{ℕ, ◌+◌, ◌-◌, ◌<◌, ◌≤◌}
use native.Mathlib.Omega.{arith}
use lib.ListN.{length, take, drop}
use Rattle.line_folds.specs.Folds.{line_length, unfolded}
use Rattle.line_folds.specs.Logical.{raw_lines}
use Rattle.line_folds.proofs.SpanLaws.{lines_turn, part_length}
use Rattle.version3_parameters.specs.declared.Way.{Way}
use Rattle.version3_judge.specs.declared.Set.{Set}
use Rattle.card_state.specs.declared.Flaw.{Flaw}
use Rattle.card_state.specs.declared.Flaw.TheVariants.{Placed, Octet}
use Rattle.version3_judge.specs.Judge.{Step, Next, Refused, Flawed, stopped, judge_line, onward, settled, judge_lines}

-- the line from `at` to e is the first of those that are left; it was judged r
module _ (w : Way) (s : List ℕ) (at e : ℕ) (lt : at < length s) (he : e ≡ at + line_length (drop at s)) (le : e ≤ length s) where
  pub judged : (c : Set) (r : Step) → r ≡ judge_line w c at (unfolded (take (e - at) (drop at s)))
      → judge_lines w (raw_lines (drop at s)) at c ≡ onward (settled at (take (e - at) (drop at s)) r) (judge_lines w (raw_lines (drop (e + 2) s)) (e + 2))
  unfolding judge_lines
  judged c r hr =
      let m : at + length (take (e - at) (drop at s)) + 2 ≡ e + 2 = rw (part_length s at e lt he le) (omega arith) in
      ap (λ (ls : List (List ℕ)). judge_lines w ls at c) (lines_turn s at e lt he le)
      ∙ ap (λ (q : ℕ). onward (settled at (take (e - at) (drop at s)) (judge_line w c at (unfolded (take (e - at) (drop at s))))) (judge_lines w (raw_lines (drop (e + 2) s)) q)) m
      ∙ ap (λ (q : Step). onward (settled at (take (e - at) (drop at s)) q) (judge_lines w (raw_lines (drop (e + 2) s)) (e + 2))) (sym hr)

-- a refusal is handed up with its place, and the lines after it are not judged
pub stopped_step : (p : ℕ) (l : List ℕ) (f : Set → Step) (r : Step) → ((c : Set) → r ≡ Next c → ⊥) → onward (settled p l r) f ≡ settled p l r
stopped_step p l f (Next c) h = absurd (h c refl)
stopped_step p l f (Refused n q) h = refl
stopped_step p l f (Flawed n o) h = refl

-- the same of a refused line's result
pub stopped_flaw : (p : ℕ) (l : List ℕ) (f : Set → Step) (k : Flaw) → onward (settled p l (stopped k)) f ≡ settled p l (stopped k)
stopped_flaw p l f (Placed r q) = refl
stopped_flaw p l f (Octet n o) = refl

-- a step that names no octet of the line is settled already
pub settled_step : (p : ℕ) (l : List ℕ) (r : Step) → ((n o : ℕ) → r ≡ Flawed n o → ⊥) → r ≡ settled p l r
settled_step p l (Next c) h = refl
settled_step p l (Refused n q) h = refl
settled_step p l (Flawed n o) h = absurd (h n o refl)

-- An accepted input is short, and each of its logical lines has whatever each line has that was passed. Assumes nothing.
use mathlib.Core.Path.{◌≡◌}
use mathlib.Core.List.{List, [], ◌∷◌, map}
use Prim.Native.Nat.{ℕ, ◌+◌, ◌≤◌}
use lib.ListN.{length}
use Rattle.property_table.specs.declared.Edition.{Edition}
use Rattle.line_folds.specs.Folds.{unfolded}
use Rattle.line_folds.specs.Logical.{raw_lines, logical_lines}
use Rattle.card_state.specs.State.{Card, Next, fresh_card}
use Rattle.card_judge.specs.Judge.{judge_line}
use Rattle.card_judge.proofs.CardLaws.{line_clean}
use Rattle.reader_walk.specs.Walk.{judge_lines}
use Rattle.reader.specs.Outcome.{judge_in}
use Rattle.reader.specs.Outcome.{Accepted}
use Rattle.reader_walk.proofs.WalkLaws.{onward_next}
use Rattle.reader.proofs.AcceptLaws.{accepting}
use Rattle.folder_line.specs.Pieces.{Clean, All}

module _ (ed : Edition) (P : List ℕ → Type 0) (each : (c c' : Card) (p : ℕ) (l : List ℕ) → judge_line ed c p l ≡ Next c' → P l) where
  all_judged : (ls : List (List ℕ)) (p : ℕ) (c c' : Card) → judge_lines ed ls p c ≡ Next c' → All P (map unfolded ls)
  unfolding judge_lines All
  all_judged [] p c c' e = tt
  all_judged (l ∷ ls) p c c' e =
      onward_next p l (judge_line ed c p (unfolded l)) (judge_lines ed ls (p + length l + 2)) c' e
      (λ d q r. (each c d p (unfolded l) q, all_judged ls (p + length l + 2) d c' r))

  pub all_lines : (i : List ℕ) (k n : ℕ) → judge_in ed i ≡ Accepted k n → All P (logical_lines i)
  unfolding logical_lines
  all_lines i k n e = let a = accepting ed i k n e in all_judged (raw_lines i) 0 fresh_card a.last a.walked

line_whole : (ed : Edition) (c c' : Card) (p : ℕ) (l : List ℕ) → judge_line ed c p l ≡ Next c' → Clean l
unfolding Clean
line_whole ed c c' p l e = (line_clean ed c c' p l e).0

pub accepted : (ed : Edition) (i : List ℕ) (k n : ℕ) → judge_in ed i ≡ Accepted k n → All Clean (logical_lines i) × (length i ≤ 16384)
accepted ed i k n e = (all_lines ed Clean (line_whole ed) i k n e, (accepting ed i k n e).short)

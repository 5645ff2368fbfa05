-- A logical line from its start to its end: found from its first CR on, and the first of those that are left. Assumes nothing.
use mathlib.Core.Path.{◌≡◌, ap, ◌∙◌}
use mathlib.Core.Bool.{false, not}
use mathlib.Core.List.{List, ◌∷◌}
use Prim.Native.Nat.{ℕ, ◌+◌, ◌-◌, ◌<◌, ◌≤◌}
use native.Mathlib.Omega.{arith}
use lib.Dec.{eqb}
use lib.ListN.{length, take, drop, length-drop}
use lib.Seq.{drop-drop, length-take-le}
use borrow.Author.Tests.{eqb-true, not-false}
use Rattle.octets.specs.Classes.{run}
use Rattle.line_folds.specs.Folds.{not_cr, line_length, unfolded}
use Rattle.line_folds.specs.Logical.{raw_lines}
use Rattle.line_folds.proofs.QuickLaws.{no_fold, line_reach}
use Rattle.line_folds.proofs.LineLaws.{lines_step}

module _ (s : List ℕ) (at : ℕ) where
  -- the line's end is found from its first CR on
  pub end_from : (cr : ℕ) → cr ≡ at + run not_cr (drop at s) → cr + line_length (drop cr s) ≡ at + line_length (drop at s)
  end_from cr e =
      let k = run not_cr (drop at s) in
      rw (e, line_reach (drop at s), drop-drop k at s) (omega arith)

  -- up to its first CR the line has no fold
  pub whole : (cr end : ℕ) → cr ≡ at + run not_cr (drop at s) → not (eqb cr end) ≡ false
      → unfolded (take (end - at) (drop at s)) ≡ take (end - at) (drop at s)
  whole cr end e h =
      let q : cr ≡ end = eqb-true cr end (not-false _ h) in
      no_fold (drop at s) (end - at) (omega arith)

-- the line from `at` to e is the first of those that are left
module _ (s : List ℕ) (at e : ℕ) (lt : at < length s) (he : e ≡ at + line_length (drop at s)) (le : e ≤ length s) where
  pub lines_turn : raw_lines (drop at s) ≡ take (e - at) (drop at s) ∷ raw_lines (drop (e + 2) s)
  lines_turn =
      let k : e - at ≡ line_length (drop at s) = omega arith in
      let n : at + (e - at + 2) ≡ e + 2 = omega arith in
      lines_step s at lt (e - at) k ∙ ap (λ (q : ℕ). take (e - at) (drop at s) ∷ raw_lines (drop q s)) n

  pub part_length : length (take (e - at) (drop at s)) ≡ e - at
  part_length = length-take-le (e - at) (drop at s) (rw (length-drop at s) (omega arith))

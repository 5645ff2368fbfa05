-- The logical lines of a text from a place on, folded. Assumes nothing.
use mathlib.Core.Path.{◌≡◌, refl, sym, ap, ◌∙◌}
use mathlib.Core.List.{List, [], ◌∷◌, ◌++◌, map}
use Prim.Native.Nat.{ℕ, ◌+◌, ◌-◌, ◌<◌, ◌≤◌}
use lib.ListN.{length, take, drop, length-append}
use lib.Seq.{take-append_seam, drop-append_seam}
use Rattle.octets.specs.Room.{overlay}
use Rattle.line_folds.specs.Folds.{line_length, unfolded}
use Rattle.line_folds.proofs.LineLaws.{lines_end}
use Rattle.line_folds.proofs.SpanLaws.{lines_turn}
use Rattle.line_folds.specs.Logical.{logical_lines}
use Rattle.folder_line.specs.Pieces.{folded, folded_lines, Clean, All}
use Rattle.folder_raising.specs.declared.Style.TheVariants.{Raised}
use Rattle.folder_raising.specs.Walk.{raised}
use Rattle.folder_raising.proofs.Kept.{raised_folded, styled_folded}

-- one turn: the line from `at` to e is the first of those that are left
module _ (s : List ℕ) (at e : ℕ) (lt : at < length s) (he : e ≡ at + line_length (drop at s)) (le : e ≤ length s) where
  turn : logical_lines (drop at s) ≡ unfolded (take (e - at) (drop at s)) ∷ logical_lines (drop (e + 2) s)
  unfolding logical_lines
  turn = ap (map unfolded) (lines_turn s at e lt he le)

  pub fold_length : length (folded_lines (logical_lines (drop at s)))
      ≡ length (folded (unfolded (take (e - at) (drop at s)))) + length (folded_lines (logical_lines (drop (e + 2) s)))
  unfolding folded_lines
  fold_length =
      ap (λ (ls : List (List ℕ)). length (folded_lines ls)) turn
      ∙ length-append (folded (unfolded (take (e - at) (drop at s)))) (folded_lines (logical_lines (drop (e + 2) s)))

  -- the same with f done to each line
  pub fold_turn : (f : List ℕ → List ℕ) → folded_lines (map f (logical_lines (drop at s)))
      ≡ folded (f (unfolded (take (e - at) (drop at s)))) ++ folded_lines (map f (logical_lines (drop (e + 2) s)))
  unfolding folded_lines
  fold_turn f = ap (λ (ls : List (List ℕ)). folded_lines (map f ls)) turn

  pub clean_turn : All Clean (logical_lines (drop at s)) → Clean (unfolded (take (e - at) (drop at s))) × All Clean (logical_lines (drop (e + 2) s))
  unfolding All
  clean_turn c = rw turn at c

pub none_left : (s : List ℕ) (at : ℕ) → length s ≤ at → logical_lines (drop at s) ≡ []
unfolding logical_lines
none_left s at h = ap (map unfolded) (lines_end s at h)

pub nothing : folded_lines [] ≡ []
unfolding folded_lines
nothing = refl

-- a folded line that stands at the start of a room, raised there, is the raised line folded
pub raise_written : (l d e f : List ℕ) (n : ℕ) → n ≡ length (folded l) → e ≡ overlay (folded l) d → f ≡ raised (take n e) ++ drop n e
    → (n ≡ length (folded (raised l))) × (f ≡ overlay (folded (raised l)) d)
raise_written l d e f n h q r =
    let k : length (folded (raised l)) ≡ length (folded l) = styled_folded Raised l in
    let t : take n e ≡ folded l = rw (h, q) (take-append_seam (folded l) (drop (length (folded l)) d)) in
    let u : drop n e ≡ drop (length (folded l)) d = rw (h, q) (drop-append_seam (folded l) (drop (length (folded l)) d)) in
    (h ∙ sym k, r ∙ rw (t, u, k) (ap (λ (x : List ℕ). x ++ drop (length (folded l)) d) (raised_folded l)))

-- A text shown character by character. Assumes nothing.
use mathlib.Core.Path.{◌≡◌, sym, ◌∙◌}
use mathlib.Core.List.{List, [], ◌∷◌, ◌++◌}
use Prim.Native.Nat.{ℕ, zero, suc, ◌+◌, ◌<◌, ◌≤◌}
use native.Mathlib.Nat.{add-zero}
use native.Mathlib.Omega.{arith}
use lib.Dec.{eqb}
use lib.ListN.{length, drop, get_or, replicate}
use lib.Seq.{get_or-drop}
use borrow.Author.Tests.{eq-eqb, ne_eqb}
use Rattle.octets.specs.Pick.{pick}
use Rattle.octets.proofs.Scans.{gather_step, gather_end}
use Rattle.program_visible.proofs.VisibleLaws.{character_inside}
use Rattle.program_visible.specs.Visible.{character, passed}
use Rattle.cabbook_cells.specs.Ranges.{ranges, cells_in}
use Rattle.cabbook_cells.specs.Cells.{code_by, code_of, blank, blanks}

-- how far a character goes, or an octet that is none
abbrev pub step_of : ℕ → ℕ
step_of n = pick (eqb n 0) 1 n

pub step_some : (n : ℕ) → 1 ≤ step_of n
step_some zero = omega arith
step_some (suc n) = rw (ne_eqb (suc n) 0 (λ e. absurd (omega arith))) (omega arith)

module _ (s : List ℕ) (i n : ℕ) where
  pub code_here : code_of n (drop i s) ≡ code_by n (get_or s i 0) (get_or s (i + 1) 0) (get_or s (i + 2) 0) (get_or s (i + 3) 0)
  unfolding code_of
  code_here = simp (get_or-drop, add-zero)

  module _ (h : i < length s) (e : n ≡ character (drop i s)) where
    pub step_inside : i + step_of n ≤ length s
    step_inside = inside n (character_inside s i n e (omega arith))
      where
        inside : (m : ℕ) → i + m ≤ length s → i + step_of m ≤ length s
        inside zero g = omega arith
        inside (suc m) g = rw (ne_eqb (suc m) 0 (λ q. absurd (omega arith))) g

    pub blanks_step : blanks (drop i s) ≡ blank (drop i s) ++ blanks (drop (i + step_of n) s)
    unfolding blanks passed
    blanks_step = gather_step passed blank s i (step_of n) h (rw e) (step_some n)

    pub in_digits : n ≡ 0 → blank (drop i s) ≡ replicate 4 32
    unfolding blank
    in_digits z = rw (eq-eqb (character (drop i s)) 0 (sym e ∙ z))

    pub at_tab : (n ≡ 0 → ⊥) → get_or s i 0 ≡ 9 → blank (drop i s) ≡ 9 ∷ []
    unfolding blank
    at_tab z t = rw (ne_eqb (character (drop i s)) 0 (λ q. z (e ∙ q)), get_or-drop i s 0 0, add-zero, t)

    pub at_character : (n ≡ 0 → ⊥) → (get_or s i 0 ≡ 9 → ⊥) → blank (drop i s) ≡ replicate (cells_in ranges (code_of n (drop i s))) 32
    unfolding blank
    at_character z t =
        rw (ne_eqb (character (drop i s)) 0 (λ q. z (e ∙ q)), get_or-drop i s 0 0, add-zero, ne_eqb (get_or s i 0) 9 t, ← e)

pub blanks_end : (s : List ℕ) (i : ℕ) → length s ≤ i → blanks (drop i s) ≡ []
unfolding blanks
blanks_end s i h = gather_end passed blank s i h

-- Counting lines by their property numbers: one turn of the walk, and its end. Assumes nothing.
use mathlib.Core.Path.{◌≡◌, refl, sym, ap, ◌∙◌}
use mathlib.Core.Bool.{Bool, true, false}
use mathlib.Core.List.{List, [], ◌∷◌, map}
use Prim.Native.Nat.{ℕ, zero, suc, ◌+◌, ◌-◌, ◌<◌, ◌≤◌}
use native.Mathlib.Nat.{add-zero}
use native.Mathlib.Omega.{arith}
use lib.Dec.{eqb}
use lib.ListN.{length, get_or, take, drop, set, length-set}
use lib.Seq.{get_or-set_same, get_or-set_other, ext_get_or}
use borrow.Author.Tests.{eqb-true, eqb-false}
use Rattle.line_folds.specs.Folds.{line_length, unfolded}
use Rattle.line_folds.specs.Logical.{raw_lines, logical_lines}
use Rattle.line_folds.proofs.SpanLaws.{lines_turn}
use Rattle.line_folds.proofs.LineLaws.{lines_end}
use Rattle.report_lines.specs.Rows.{row_of_name, one, lines_with, numbers_from, line_counts}

-- the lines of s that stand from `at` on
abbrev pub left : List ℕ → ℕ → List (List ℕ)
left s at = map unfolded (raw_lines (drop at s))

-- the counts have the lines before `at`, no more than there are octets before it
pub record Counted (s : List ℕ) (at : ℕ) (counts : List ℕ) : Type 0 where
  pub size : length counts ≡ 39
  pub few : (m : ℕ) → m < 39 → get_or counts m 0 ≤ at
  pub sum : (m : ℕ) → m < 39 → get_or counts m 0 + lines_with m (left s at) ≡ lines_with m (logical_lines s)

-- a line with that number is counted there, and nowhere else
module _ (counts : List ℕ) (row m : ℕ) (low : row < length counts) where
  bumped : get_or (set counts row (get_or counts row 0 + 1)) m 0 ≡ get_or counts m 0 + one (eqb row m)
  bumped = by (eqb row m) refl
    where
      by : (t : Bool) → eqb row m ≡ t → get_or (set counts row (get_or counts row 0 + 1)) m 0 ≡ get_or counts m 0 + one t
      by true e =
          let q : row ≡ m = eqb-true row m e in
          rw (← q) (get_or-set_same counts row (get_or counts row 0 + 1) 0 low)
      by false e =
          get_or-set_other counts row m (get_or counts row 0 + 1) 0 (λ q. eqb-false row m e (sym q)) ∙ sym (add-zero (get_or counts m 0))

one_le : (t : Bool) → one t ≤ 1
one_le true = omega arith
one_le false = omega arith

-- one turn: the line from `at` to e has the number row
module _ (s : List ℕ) (at e : ℕ) (lt : at < length s) (he : e ≡ at + line_length (drop at s)) (le : e ≤ length s) where
  first : left s at ≡ unfolded (take (e - at) (drop at s)) ∷ left s (e + 2)
  first = ap (map unfolded) (lines_turn s at e lt he le)

  pub counted_turn : (counts : List ℕ) (row : ℕ) → row ≡ row_of_name (unfolded (take (e - at) (drop at s))) → row < 39 → Counted s at counts
      → Counted s (e + 2) (set counts row (get_or counts row 0 + 1))
  unfolding lines_with
  counted_turn counts row hr low c =
      let inside : row < length counts = omega (arith, c.size) in
      record {
        size = length-set counts row (get_or counts row 0 + 1) ∙ c.size;
        few = λ m h. omega (arith, bumped counts row m inside, one_le (eqb row m), c.few m h);
        sum = λ m h.
            let f : lines_with m (left s at) ≡ one (eqb row m) + lines_with m (left s (e + 2)) =
            ap (lines_with m) first ∙ ap (λ (r : ℕ). one (eqb r m) + lines_with m (left s (e + 2))) (sym hr) in
            omega (arith, bumped counts row m inside, f, c.sum m h);
      }

-- the numbers from i on
pub from_length : (i n : ℕ) → length (numbers_from i n) ≡ n
unfolding numbers_from
from_length i zero = refl
from_length i (suc n) = ap suc (from_length (suc i) n)

pub from_at : (f : ℕ → ℕ) (i n k : ℕ) → k < n → get_or (map f (numbers_from i n)) k 0 ≡ f (i + k)
unfolding numbers_from
from_at f i zero k h = absurd (omega arith)
from_at f i (suc n) zero h = rw (add-zero i)
from_at f i (suc n) (suc k) h =
    let there : suc i + k ≡ i + suc k = omega arith in
    from_at f (suc i) n k (omega arith) ∙ ap f there

pub map_length : (f : ℕ → ℕ) (l : List ℕ) → length (map f l) ≡ length l
map_length f [] = refl
map_length f (x ∷ xs) = ap suc (map_length f xs)

pub counts_length : (ls : List (List ℕ)) → length (line_counts ls) ≡ 39
unfolding line_counts
counts_length ls = map_length (λ m. lines_with m ls) (numbers_from 0 39) ∙ from_length 0 39

-- what is counted of a number
pub counts_at : (ls : List (List ℕ)) (m : ℕ) → m < 39 → get_or (line_counts ls) m 0 ≡ lines_with m ls
unfolding line_counts
counts_at ls m h =
    let there : 0 + m ≡ m = omega arith in
    from_at (λ m. lines_with m ls) 0 39 m h ∙ ap (λ (k : ℕ). lines_with k ls) there

pub counted_none : (s zeros : List ℕ) → length zeros ≡ 39 → ((m : ℕ) → m < 39 → get_or zeros m 0 ≡ 0) → Counted s 0 zeros
unfolding logical_lines
counted_none s zeros n z =
    record {
      size = n;
      few = λ m h. omega (arith, z m h);
      sum = λ m h. omega (arith, z m h);
    }

pub counted_all : (s : List ℕ) (at : ℕ) (counts : List ℕ) → length s ≤ at → Counted s at counts → counts ≡ line_counts (logical_lines s)
unfolding lines_with
counted_all s at counts h c =
    ext_get_or 0 counts (line_counts (logical_lines s)) (c.size ∙ sym (counts_length (logical_lines s))) (λ m lt.
    let low : m < 39 = omega (arith, c.size) in
    let none_left : lines_with m (left s at) ≡ 0 = ap (λ (ls : List (List ℕ)). lines_with m (map unfolded ls)) (lines_end s at h) in
    omega (arith, c.sum m low, counts_at (logical_lines s) m low))

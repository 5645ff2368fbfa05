-- The bars of a report, place by place. Assumes nothing.
use mathlib.Core.Path.{◌≡◌, refl, sym, ap, ◌∙◌}
use mathlib.Core.Bool.{Bool, true, false}
use mathlib.Core.List.{List, [], ◌∷◌, ◌++◌}
use Prim.Native.Nat.{ℕ, zero, suc, ◌+◌, ◌-◌, ◌*◌, ◌/◌, ◌<◌, ◌≤◌}
use native.Mathlib.Nat.{div-lt_iff_lt-mul}
use native.Mathlib.Numerals.{add-one}
use native.Mathlib.Omega.{arith}
use lib.ListN.{get_or, take, drop}
use Rattle.octets.specs.Ascii as ascii
use borrow.Author.Tests.{eq-eqb, ne_eqb, le-leb, lt-leb, lt-ltb, le-ltb}
use Rattle.program_output.specs.Pages.{Page, added}
use Rattle.report_lines.specs.Rows.{numbers_from}
use Rattle.report_weights.specs.Counts.{count_at}
use Rattle.report.specs.Text.{has, shown}
use Rattle.cabbook_report.specs.Bars.{bar_length, whole_of, cell, barred, bars}

-- the places from p on
abbrev pub left : ℕ → List ℕ
left p = numbers_from p (59 - p)

from_next : (p n : ℕ) → 0 < n → numbers_from p n ≡ p ∷ numbers_from (p + 1) (n - 1)
unfolding numbers_from
from_next p zero h = absurd (omega arith)
from_next p (suc n) h =
    let e : suc n - 1 ≡ n = omega arith in
    rw (add-one, e)

pub left_next : (p : ℕ) → p < 59 → left p ≡ p ∷ left (p + 1)
left_next p h =
    let e : 59 - p - 1 ≡ 59 - (p + 1) = omega arith in
    rw e at (from_next p (59 - p) (omega arith))

module _ (ns : List ℕ) where
  pub bars_turn : (p n k : ℕ) → p < 59 → n ≡ get_or ns p 0 → k ≡ bar_length n (get_or ns (whole_of p) 0)
      → bars ns (left p) ≡ barred p n k ++ bars ns (left (p + 1))
  unfolding bars
  bars_turn p n k h e q = ap (bars ns) (left_next p h) ∙ rw (q, e)

  pub bars_done : (p : ℕ) (o : Page) → 59 ≤ p → added (bars ns (left p)) o ≡ o
  unfolding bars added numbers_from
  bars_done p o h =
      let e : 59 - p ≡ 0 = omega arith in
      rw e

pub not_barred : (p n k : ℕ) (o : Page) → has (count_at p) n ≡ false → o ≡ added (barred p n k) o
unfolding barred added
not_barred p n k o e = rw e

pub is_barred : (p n k : ℕ) → has (count_at p) n ≡ true → cell k ++ shown (count_at p) n ≡ barred p n k
unfolding barred
is_barred p n k e = rw e

-- the octets of a bar's cell
pub cell_text : (k : ℕ) → take (40 - k + 41 - (40 - k)) (drop (40 - k) (ascii.octets "########################################                                         ")) ≡ cell k
unfolding cell
cell_text k =
    let e : 40 - k + 41 - (40 - k) ≡ 41 = omega arith in
    rw e

-- a part of a whole has at most as many marks
pub bar_low : (n whole : ℕ) → n < whole → 40 * n / whole ≤ 40
bar_low n whole h =
    let q : 40 * n / whole < 41 = (div-lt_iff_lt-mul {k = whole} {x = 40 * n} {y = 41} (omega arith)).1 (omega arith) in
    omega arith

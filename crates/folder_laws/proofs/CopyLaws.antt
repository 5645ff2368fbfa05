-- A line's length where its octets are no CR, at a fold and at its end; the lines of a copy of clean lines. Assumes nothing.
use mathlib.Core.Path.{◌≡◌, sym, ap, ◌∙◌}
use mathlib.Core.List.{List, [], ◌∷◌, ◌++◌}
use Prim.Native.Nat.{ℕ, suc, ◌+◌, ◌<◌}
use native.Mathlib.Nat.{zero-add}
use native.Mathlib.Omega.{arith}
use lib.ListN.{length, get_or, drop, length-append}
use lib.Seq.{take-append_seam, drop-append-add}
use borrow.Author.Tests.{ne_eqb}
use Rattle.octets.specs.Scan.{scan, after}
use Rattle.utf8.proofs.Chains.{NoEnd, none, more, no_end}
use Rattle.line_folds.specs.Folds.{fold_at, line_step, line_length}
use Rattle.line_folds.specs.Logical.{raw_lines}
use Rattle.line_folds.proofs.FoldLaws.{line_octet}
use Rattle.line_folds.proofs.LineLaws.{lines_step, lines_end}
use Rattle.folder_line.specs.Pieces.{Clean, All}
use Rattle.folder_line.proofs.Turns.{clean_chars}
use Rattle.reader.specs.Outcome.{ended}
use Rattle.line_laws.specs.Lined.{Unled}

length_goes : (x : ℕ) (xs : List ℕ) → (x ≡ 13 → ⊥) → line_length (x ∷ xs) ≡ suc (line_length xs)
unfolding line_length scan
length_goes x xs h = ap (λ (k : ℕ). after k (scan line_step xs)) (line_octet (x ∷ xs) 0 h)

pub line_run : {p : List ℕ} → NoEnd p → (t : List ℕ) → line_length (p ++ t) ≡ length p + line_length t
line_run none t = sym (zero-add _)
line_run (more {x} {xs} a b n) t = omega (arith, length_goes x (xs ++ t) a, line_run n t)

pub line_stop : (t : List ℕ) → Unled t → line_length (13 ∷ 10 ∷ t) ≡ 0
unfolding line_length scan line_step fold_at Unled
line_stop t u = simp (ne_eqb (get_or t 0 0) 32 u.0, ne_eqb (get_or t 0 0) 9 u.1)

-- a line b that ends where its length says, with more behind its CR LF
pub first_line : (b t : List ℕ) → line_length (b ++ (13 ∷ 10 ∷ t)) ≡ length b → raw_lines (b ++ (13 ∷ 10 ∷ t)) ≡ b ∷ raw_lines t
first_line b t n =
    let s = b ++ (13 ∷ 10 ∷ t) in
    let pos : 0 < length s = omega (arith, length-append b (13 ∷ 10 ∷ t)) in
    lines_step s 0 pos (length b) (sym n)
    ∙ ap (λ (r : List ℕ). r ∷ raw_lines (drop (0 + (length b + 2)) s)) (take-append_seam b (13 ∷ 10 ∷ t))
    ∙ ap (λ (k : ℕ). b ∷ raw_lines (drop k s)) (zero-add (length b + 2))
    ∙ ap (λ (r : List ℕ). b ∷ raw_lines r) (drop-append-add b (13 ∷ 10 ∷ t) 2)

pub unled_none : Unled []
unfolding Unled
unled_none = (λ e. omega arith, λ e. omega arith)

pub unled_line : (l t : List ℕ) → Unled l → Unled (l ++ (13 ∷ 10 ∷ t))
unfolding Unled
unled_line [] t u = (λ e. omega arith, λ e. omega arith)
unled_line (x ∷ xs) t u = u

ended_unled : (ls : List (List ℕ)) → All Unled ls → Unled (ended ls)
unfolding ended All
ended_unled [] u = unled_none
ended_unled (l ∷ ls) u = unled_line l (ended ls) u.0

-- The copy of clean lines that are led by no space or tab has these lines.
pub copy_lines : (ls : List (List ℕ)) → All Clean ls → All Unled ls → raw_lines (ended ls) ≡ ls
unfolding ended All
copy_lines [] c u = lines_end [] 0 (omega arith)
copy_lines (l ∷ ls) c u =
    let n = line_run (no_end (clean_chars l c.0)) (13 ∷ 10 ∷ ended ls) in
    let z = line_stop (ended ls) (ended_unled ls u.1) in
    first_line l (ended ls) (omega arith) ∙ ap (λ (r : List (List ℕ)). l ∷ r) (copy_lines ls c.1 u.1)

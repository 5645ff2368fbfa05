-- How long the folded form of a text can be. Assumes nothing.
use mathlib.Core.Path.{◌≡◌, refl}
use mathlib.Core.Bool.{Bool, true, false}
use mathlib.Core.List.{List, [], ◌∷◌, ◌++◌, map, append_assoc}
use Prim.Native.Nat.{ℕ, zero, suc, pred, ◌+◌, ◌*◌, ◌≤◌}
use native.Mathlib.Omega.{arith}
use lib.Dec.{leb}
use lib.ListN.{length, take, drop, length-append, length-take, length-drop, drop_of_length-le}
use borrow.Author.Tests.{leb-true, leb-false}
use Rattle.octets.specs.Pick.{pick}
use Rattle.octets.proofs.Scans.{scan_le}
use Rattle.line_folds.specs.Folds.{line_step, line_length, unfolded}
use Rattle.line_folds.specs.Logical.{lines_by, raw_lines, logical_lines}
use Rattle.line_folds.proofs.FoldLaws.{unfold_shorter}
use Rattle.folder_line.specs.Pieces.{over, first, behind_first, later, pieces, joined, folded, folded_lines}

-- the pieces joined, with p before the first one
joined_most : (l p : List ℕ) (r : ℕ) → length (joined ((p ++ first l r) ∷ later l r)) ≤ length p + 4 * length l
unfolding joined first later
joined_most [] p r = simp length-append (omega arith)
joined_most (x ∷ xs) p r = by (over (x ∷ xs) r) (joined_most xs (x ∷ []) behind_first) (rw append_assoc at (joined_most xs (p ++ (x ∷ [])) (pred r)))
  where
    by : (t : Bool) → length (joined ((x ∷ first xs behind_first) ∷ later xs behind_first)) ≤ 1 + 4 * length xs
        → length (joined ((p ++ (x ∷ first xs (pred r))) ∷ later xs (pred r))) ≤ length (p ++ (x ∷ [])) + 4 * length xs
        → length (joined ((p ++ pick t [] (x ∷ first xs (pred r))) ∷ pick t ((x ∷ first xs behind_first) ∷ later xs behind_first) (later xs (pred r))))
        ≤ length p + 4 * length (x ∷ xs)
    by true h g = simp length-append (omega arith)
    by false h g = omega (arith, length-append p (x ∷ []))

pub folded_most : (l : List ℕ) → length (folded l) ≤ 4 * length l + 2
unfolding folded pieces
folded_most l = simp length-append (omega (arith, joined_most l [] 75))

line_inside : (l : List ℕ) → line_length l ≤ length l
unfolding line_length
line_inside l = scan_le line_step l 0

nothing_left : (n : ℕ) → length (folded_lines (map unfolded (lines_by n []))) ≡ 0
unfolding lines_by folded_lines
nothing_left zero = refl
nothing_left (suc n) = refl

-- the first line
line_most : (l : List ℕ) → length (folded (unfolded (take (line_length l) l))) ≤ 4 * line_length l + 2
line_most l =
    let t = take (line_length l) l in
    let short : length t ≤ line_length l = simp length-take (omega arith) in
    omega (arith, folded_most (unfolded t), unfold_shorter t)

-- the first line and those behind it
both : (l : List ℕ) (n : ℕ) → length (folded_lines (map unfolded (lines_by n (drop (line_length l + 2) l)))) ≤ 4 * length (drop (line_length l + 2) l) + 2
    → length (folded (unfolded (take (line_length l) l)) ++ folded_lines (map unfolded (lines_by n (drop (line_length l + 2) l)))) ≤ 4 * length l + 2
both l n h = simp length-append (by (leb (length l) (line_length l + 2)) refl)
  where
    by : (t : Bool) → leb (length l) (line_length l + 2) ≡ t
        → length (folded (unfolded (take (line_length l) l))) + length (folded_lines (map unfolded (lines_by n (drop (line_length l + 2) l)))) ≤ 4 * length l + 2
    by true e =
        let none : length (folded_lines (map unfolded (lines_by n (drop (line_length l + 2) l)))) ≡ 0 = rw (drop_of_length-le l (leb-true (length l) (line_length l + 2) e)) (nothing_left n) in
        omega (arith, line_most l, line_inside l)
    by false e = omega (arith, h, length-drop (line_length l + 2) l, line_most l, leb-false (length l) (line_length l + 2) e)

lines_most : (n : ℕ) (l : List ℕ) → length (folded_lines (map unfolded (lines_by n l))) ≤ 4 * length l + 2
unfolding lines_by folded_lines
lines_most zero l = omega arith
lines_most (suc n) [] = omega arith
lines_most (suc n) (x ∷ xs) = both (x ∷ xs) n (lines_most n (drop (line_length (x ∷ xs) + 2) (x ∷ xs)))

pub text_most : (s : List ℕ) → length (folded_lines (logical_lines s)) ≤ 4 * length s + 2
unfolding logical_lines raw_lines
text_most s = lines_most (length s) s

-- No parts of a line, cut between characters to fit physical lines, are fewer than its pieces. Assumes nothing.
use mathlib.Core.Path.{◌≡◌, refl, sym, ◌∙◌}
use mathlib.Core.Bool.{Bool, true, false}
use mathlib.Core.List.{List, [], ◌∷◌, ◌++◌, flatten}
use Prim.Native.Nat.{ℕ, suc, pred, ◌≤◌}
use native.Mathlib.Omega.{arith}
use lib.ListN.{length}
use borrow.Author.Tests.{ltb-true, lt-ltb}
use Rattle.utf8.specs.Characters.{char_length}
use Rattle.utf8.proofs.Chains.{Chars, end, start, inner, char_more, char_inside, nope}
use Rattle.folder_line.specs.Pieces.{over, later, pieces, Clean, All}
use Rattle.folder_line.proofs.PieceLaws.{later_over, later_goes, over_no, over_tail}
use Rattle.folder_line.proofs.Turns.{clean_chars}
use Rattle.folder_laws.specs.Foldings.{Parts}
use Rattle.folder_laws.proofs.CutLaws.{Pieces, nil, one, to_pieces}
use Rattle.folder_laws.proofs.CuttingLaws.{parts_clean}

-- a test, with what it is
data Two (t : Bool) : Type 0 where
  yes : t ≡ true → Two t
  no : t ≡ false → Two t

two : (t : Bool) → Two t
two true = yes refl
two false = no refl

-- how many pieces come after the one begun, where r octets are left
abbrev more : List ℕ → ℕ → ℕ
more l r = length (later l r)

-- what does not fit more room does not fit less
over_less : (l : List ℕ) (r q : ℕ) → q ≤ r → over l r ≡ true → over l q ≡ true
unfolding over
over_less l r q h e = lt-ltb q (char_length l) (omega (arith, ltb-true r (char_length l) e))

-- Two ways through one line. More room gives no more pieces; and a piece begun anew, with at most 74 octets left, gains at most one.
record Ahead (l : List ℕ) : Type 0 where
  less : (r q : ℕ) → q ≤ r → more l r ≤ more l q
  gain : (r q : ℕ) → q ≤ 74 → more l r ≤ suc (more l q)

ahead : (l : List ℕ) → Ahead l
unfolding later
ahead [] = record { less = λ r q h. omega arith; gain = λ r q h. omega arith }
ahead (x ∷ xs) =
    record {
      less = λ r q h. less' r q h (two (over (x ∷ xs) r)) (two (over (x ∷ xs) q)) (ahead xs);
      gain = λ r q h. gain' r q h (two (over (x ∷ xs) r)) (two (over (x ∷ xs) q)) (ahead xs);
    }
  where
    less' : (r q : ℕ) → q ≤ r → Two (over (x ∷ xs) r) → Two (over (x ∷ xs) q) → Ahead xs → more (x ∷ xs) r ≤ more (x ∷ xs) q
    less' r q h (yes a) (yes b) i = rw (later_over x xs r a, later_over x xs q b) (omega arith)
    less' r q h (yes a) (no b) i = absurd (nope (sym (over_less (x ∷ xs) r q h a) ∙ b))
    less' r q h (no a) (yes b) i = rw (later_goes x xs r a, later_over x xs q b) (omega (arith, i.gain (pred r) 73 (omega arith)))
    less' r q h (no a) (no b) i = rw (later_goes x xs r a, later_goes x xs q b) (i.less (pred r) (pred q) (omega arith))

    gain' : (r q : ℕ) → q ≤ 74 → Two (over (x ∷ xs) r) → Two (over (x ∷ xs) q) → Ahead xs → more (x ∷ xs) r ≤ suc (more (x ∷ xs) q)
    gain' r q h (yes a) (yes b) i = rw (later_over x xs r a, later_over x xs q b) (omega arith)
    gain' r q h (yes a) (no b) i = rw (later_over x xs r a, later_goes x xs q b) (omega (arith, i.less 73 (pred q) (omega arith)))
    gain' r q h (no a) (yes b) i = rw (later_goes x xs r a, later_over x xs q b) (omega (arith, i.gain (pred r) 73 (omega arith)))
    gain' r q h (no a) (no b) i = rw (later_goes x xs r a, later_goes x xs q b) (i.gain (pred r) (pred q) (omega arith))

-- through a part of another cutting ours cuts nowhere, if it has room for it
through : {p : ℕ → Bool} {k : ℕ} {q : List ℕ} → Chars p k q → (t : List ℕ) (n r : ℕ) → length q ≤ r → ((s : ℕ) → more t s ≤ n) → more (q ++ t) r ≤ n
through end t n r h f = f r
through (start {x} {m} {xs} a e c) t n r h f =
    rw (later_goes x (xs ++ t) r (over_no x (xs ++ t) r m (char_more (x ∷ xs) t m e) (omega (arith, char_inside (x ∷ xs) m e))))
    (through c t n (pred r) (omega arith) f)
through (inner {x} {k} {xs} e c) t n r h f =
    rw (later_goes x (xs ++ t) r (over_tail x (xs ++ t) r e)) (through c t n (pred r) (omega arith) f)

others : {qs : List (List ℕ)} → Pieces 74 qs → (s : ℕ) → more (flatten qs) s ≤ length qs
unfolding flatten later
others nil s = omega arith
others (one {p} {ps} w b g) s =
    omega (arith, (ahead (p ++ flatten ps)).gain s 74 (omega arith), through w (flatten ps) (length ps) 74 b (λ z. others g z))

-- No parts of a line are fewer than its pieces.
pub least : (l q : List ℕ) (qs : List (List ℕ)) → Clean l → Parts l q qs → length (pieces l) ≤ length (q ∷ qs)
unfolding pieces flatten All
least l q qs c f =
    let e = f.whole in
    let a = parts_clean l (q ∷ qs) c e f.characters in
    rw (← e) (omega (arith, through (clean_chars q a.0) (flatten qs) (length qs) 75 f.start (others (to_pieces 74 qs a.1 f.others))))

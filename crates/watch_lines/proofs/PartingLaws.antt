-- The lines of an input that goes on: one more line, and octets that come later. Assumes nothing.
use mathlib.Core.Path.{◌≡◌, refl, sym, ap, ◌∙◌}
use mathlib.Core.List.{List, [], ◌∷◌, ◌++◌}
use Prim.Native.Nat.{ℕ, zero, suc, ◌-◌, ◌<◌, ◌≤◌}
use native.Mathlib.Omega.{arith}
use lib.Dec.{ltb}
use lib.ListN.{length, take, drop, length-drop, length-append}
use lib.Seq.{drop-append-le, take-append-le}
use borrow.Author.Tests.{ltb-true, ltb-false, lt-ltb, le-ltb}
use Rattle.octets.proofs.Bools.{by}
use Rattle.watch_arrivals.specs.Arrivals.{next_from}
use Rattle.watch_arrivals.proofs.ArrivalLaws.{next_known}
use Rattle.watch_lines.specs.Parting.{Parting, with_line, opened, part_by, parted, ended_lines, open_line}

-- a line has an octet
next_pos : (l : List ℕ) → 0 < length l → 1 ≤ next_from 0 l
unfolding next_from
next_pos [] h = absurd (omega arith)
next_pos (x ∷ xs) h = omega arith

pub none_parted : (n : ℕ) (l : List ℕ) → length l ≤ next_from 0 l → part_by n l ≡ opened l
unfolding part_by
none_parted zero l h = refl
none_parted (suc n) l h = rw (le-ltb (next_from 0 l) (length l) h)

-- the bound does not matter where it is enough
more : (n m : ℕ) (l : List ℕ) → length l ≤ n → length l ≤ m → part_by n l ≡ part_by m l
unfolding part_by
more zero m l h g = sym (none_parted m l (omega arith))
more (suc n) zero l h g = none_parted (suc n) l (omega arith)
more (suc n) (suc m) l h g =
    by (ltb (next_from 0 l) (length l))
    (λ p.
    let k = next_pos l (omega (arith, ltb-true (next_from 0 l) (length l) p)) in
    rw p (ap (with_line (take (next_from 0 l - 2) l)) (more n m (drop (next_from 0 l) l) (rw length-drop (omega (arith, k))) (rw length-drop (omega (arith, k))))))
    (λ p. rw p)

one_line : (n : ℕ) (l : List ℕ) → next_from 0 l < length l → part_by (suc n) l ≡ with_line (take (next_from 0 l - 2) l) (part_by n (drop (next_from 0 l) l))
unfolding part_by
one_line n l h = rw (lt-ltb (next_from 0 l) (length l) h)

-- the first line has ended
pub parted_step : (l : List ℕ) → next_from 0 l < length l → parted l ≡ with_line (take (next_from 0 l - 2) l) (parted (drop (next_from 0 l) l))
unfolding parted
parted_step l h =
    let k = next_pos l (omega arith) in
    let n : length (drop (next_from 0 l) l) ≡ length l - next_from 0 l = length-drop (next_from 0 l) l in
    more (length l) (suc (length l)) l (omega arith) (omega arith)
    ∙ one_line (length l) l h
    ∙ ap (with_line (take (next_from 0 l - 2) l)) (more (length l) (length (drop (next_from 0 l) l)) (drop (next_from 0 l) l) (omega (arith, n)) (omega arith))

-- it has not
pub parted_open : (l : List ℕ) → length l ≤ next_from 0 l → parted l ≡ opened l
unfolding parted
parted_open l h = none_parted (length l) l h

-- lines before others
abbrev pub joined : List (List ℕ) → Parting → Parting
joined ds p = record { ended = ds ++ p.ended; left = p.left }

append_by : (n : ℕ) (i c : List ℕ) → length i ≤ n → parted (i ++ c) ≡ joined (parted i).ended (parted ((parted i).left ++ c))
append_by zero i c h =
    let e = parted_open i (omega arith) in
    rw e
append_by (suc n) i c h =
    by (ltb (next_from 0 i) (length i))
    (λ p.
    let lt = ltb-true (next_from 0 i) (length i) p in
    let k = next_pos i (omega (arith, lt)) in
    let m : length (drop (next_from 0 i) i) ≡ length i - next_from 0 i = length-drop (next_from 0 i) i in
    let e = parted_step i lt in
    let x : next_from 0 (i ++ c) ≡ next_from 0 i = next_known 0 i c lt in
    let f = parted_step (i ++ c) (rw (x, length-append i c) (omega (arith, lt))) in
    let rest = append_by n (drop (next_from 0 i) i) c (omega (arith, m, k, h)) in
    let d : drop (next_from 0 i) (i ++ c) ≡ drop (next_from 0 i) i ++ c = drop-append-le (next_from 0 i) i c (omega (arith, lt)) in
    let t : take (next_from 0 i - 2) (i ++ c) ≡ take (next_from 0 i - 2) i = take-append-le (next_from 0 i - 2) i c (omega (arith, lt)) in
    f ∙ rw (x, d, t, e) (ap (with_line (take (next_from 0 i - 2) i)) rest))
    (λ p. let e = parted_open i (ltb-false (next_from 0 i) (length i) p) in rw e)

-- octets that come later: the lines that have ended stay, and the open line goes on
pub parted_append : (i c : List ℕ) → parted (i ++ c) ≡ joined (ended_lines i) (parted (open_line i ++ c))
parted_append i c = append_by (length i) i c (omega arith)

-- A plan as numbers: how pairs are written, and how a plan's pairs are entered. Assumes nothing.
use Rattle.std.specs.Prelude.{ℕ, zero, suc, ◌+◌, ◌-◌, Bool, true, false, List, [], ◌∷◌, eqb, ltb, length, get_or, set}
use Rattle.numbers.specs.Limits as limit
use Rattle.octets.specs.Pick.{pick}
use Rattle.merge_pids.specs.Marks.{Marked, marked}
use Rattle.merge_sides.specs.Lines.{same_property}
use Rattle.merge_partners.specs.Pairs.{Pair, Joined, joined}

-- two numbers a pair, the first card's line first
unfoldable pub flatten : List Pair → List ℕ
flatten [] = []
flatten (q ∷ qs) = q.left ∷ q.right ∷ flatten qs

-- the pair of a line with a partner is written where it fits
unfoldable pub put_partner : Marked → ℕ → ℕ → Marked
put_partner s i partner =
    pick (eqb partner 0) s
    (pick (ltb (length s.room) 2) s
    (pick (ltb (length s.room - 2) s.next) s (marked (s.next + 2) (set (set s.room s.next i) (s.next + 1) (partner - 1)))))

-- of k lines from i on
unfoldable pub put_partners : Marked → List ℕ → ℕ → ℕ → Marked
put_partners s p i zero = s
put_partners s p i (suc k) = put_partners (put_partner s i (get_or p i 0)) p (i + 1) k

-- a pair of lines of both cards, neither of which stands in the plan yet
unfoldable pub enter_to : ℕ → ℕ → List ℕ → List ℕ → ℕ → ℕ → Joined
enter_to na nb p t i j =
    pick (ltb i na)
    (pick (ltb j nb)
    (pick (ltb i limit.lines)
    (pick (ltb j limit.lines)
    (pick (eqb (get_or p i 0) 0)
    (pick (eqb (get_or t j 0) 0) (joined true (set p i (j + 1)) (set t j (i + 1))) (joined false p t))
    (joined false p t))
    (joined false p t))
    (joined false p t))
    (joined false p t))
    (joined false p t)

-- and of one property
unfoldable pub enter_step : List ℕ → List ℕ → ℕ → List ℕ → List ℕ → ℕ → List ℕ → List ℕ → ℕ → ℕ → Joined
enter_step ca ra na cb rb nb p t i j = pick (same_property ca ra i cb rb j) (enter_to na nb p t i j) (joined false p t)

-- the pairs of a plan, up to the first that can't be entered; an odd count of numbers never can
unfoldable pub enter_all : List ℕ → List ℕ → ℕ → List ℕ → List ℕ → ℕ → Joined → List ℕ → Joined
enter_all ca ra na cb rb nb s [] = s
enter_all ca ra na cb rb nb s (x ∷ []) = joined false s.first s.second
enter_all ca ra na cb rb nb s (x ∷ y ∷ r) = pick s.ok (enter_all ca ra na cb rb nb (enter_step ca ra na cb rb nb s.first s.second x y) r) s

unfoldable pub is_kept : ℕ → ℕ → Bool
is_kept partner other = pick (eqb partner 0) true (eqb partner other)

-- each of k lines from i on with a partner in p has the same one in q
unfoldable pub covers_from : List ℕ → List ℕ → ℕ → ℕ → Bool
covers_from p q i zero = true
covers_from p q i (suc k) = pick (is_kept (get_or p i 0) (get_or q i 0)) (covers_from p q (i + 1) k) false

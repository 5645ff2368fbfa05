-- The search for a line that tells a card's version, or starts or ends a card. Assumes nothing.
use mathlib.Core.Path.{◌≡◌}
use mathlib.Core.Bool.{true, false}
use mathlib.Core.List.{List}
use Prim.Native.Nat.{ℕ, suc, ◌+◌, ◌-◌, ◌<◌, ◌≤◌}
use native.Mathlib.Omega.{arith}
use lib.ListN.{length}
use Rattle.cabbook_reasons.specs.Reasons.{marking, mark_from}

-- how many octets there are from i on, of which one is at i
one_more : (s : List ℕ) (i : ℕ) → i < length s → length s - i ≡ suc (length s - (i + 1))
one_more s i h = omega arith

none_left : (s : List ℕ) (i : ℕ) → length s ≤ i → length s - i ≡ 0
none_left s i h = omega arith

pub mark_here : (s : List ℕ) (i : ℕ) → i < length s → marking s i ≡ true → mark_from s i (length s - i) ≡ i
unfolding mark_from
mark_here s i h m = rw (one_more s i h, m)

pub mark_on : (s : List ℕ) (i : ℕ) → i < length s → marking s i ≡ false → mark_from s i (length s - i) ≡ mark_from s (i + 1) (length s - (i + 1))
unfolding mark_from
mark_on s i h m = rw (one_more s i h, m)

pub mark_end : (s : List ℕ) (i : ℕ) → length s ≤ i → mark_from s i (length s - i) ≡ i
unfolding mark_from
mark_end s i h = rw (none_left s i h)

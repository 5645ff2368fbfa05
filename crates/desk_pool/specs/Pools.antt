-- A pool of 16,384 octets a slot: parts of it, and what it holds when octets were put into it. Assumes nothing.
use Rattle.std.specs.Prelude.{ℕ, ◌+◌, ◌*◌, ◌≡◌, List, ◌++◌, take, drop, replicate}
use Rattle.std.specs.Borrow.{Bor}
use Rattle.numbers.specs.Limits as limit
use Rattle.octets.specs.Room.{overlay}

-- p with q in the place of as many octets from a on
unfoldable pub patch : List ℕ → ℕ → List ℕ → List ℕ
patch p a q = take a p ++ overlay q (drop a p)

-- what a released slot holds
unfoldable pub zeros : List ℕ
zeros = replicate limit.octets 0

-- a part of the pool: where it starts, and its octets
pub record Part : Type 0 where
  pub start : ℕ
  pub octets : List ℕ

-- the first octets of a slot
abbrev pub part_of : List ℕ → ℕ → ℕ → Part
part_of p slot held = record { start = slot * limit.octets; octets = take held (drop (slot * limit.octets) p) }

-- r is that part of s itself: in the same block of memory, so far behind its start, with those octets
pub record Lies (s r : Bor (List ℕ)) (part : Part) : Type 0 where
  pub block : r.ref_ptr.0 ≡ s.ref_ptr.0
  pub offset : r.ref_ptr.1 ≡ s.ref_ptr.1 + part.start
  pub octets : r.now ≡ part.octets

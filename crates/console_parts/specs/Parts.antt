-- PARTS: how octets come apart into parts, and the rows and the plan among them, by CONSOLE, Two edits of one card. Assumes nothing.
use Rattle.std.specs.Prelude.{ℕ, zero, suc, ◌+◌, ◌-◌, ◌*◌, ◌%◌, Bool, false, List, [], ◌∷◌, eqb, ltb, length, get_or, set, replicate}
use Rattle.octets.specs.Pick.{pick}
use Rattle.octets.specs.Slices.{part}
use Rattle.merge_sources.specs.Row.{none}
use Rattle.merge_sources.specs.declared.Source.{Source}

-- how many octets a number has
abbrev pub number_length : ℕ
number_length = 4

-- how many octets an entry of a row has: number, place and length
abbrev pub entry_length : ℕ
entry_length = 12

-- how many entries of a row are lent: one more than a row may have
abbrev pub most_lent : ℕ
most_lent = 17

-- the most octets that a line of the console sends
abbrev pub most_octets : ℕ
most_octets = 70000

-- a number with one more octet behind it
abbrev pub shifted : ℕ → ℕ → ℕ
shifted n x = n * 256 + x

-- the number of four octets at a place, the highest first; octets past the end are 0
unfoldable pub number_at : List ℕ → ℕ → ℕ
number_at s p = shifted (shifted (shifted (shifted 0 (get_or s p 0)) (get_or s (p + 1) 0)) (get_or s (p + 2) 0)) (get_or s (p + 3) 0)

-- ---- parts

-- where the part at a place ends: after its length and so many octets; past all octets where it does not lie there
unfoldable pub part_end : List ℕ → ℕ → ℕ
part_end s p =
    pick (ltb (length s) (p + number_length)) (length s + 1)
    (pick (ltb (length s - (p + number_length)) (number_at s p)) (length s + 1) (p + number_length + number_at s p))

-- where the first k parts end
unfoldable pub end_of : List ℕ → ℕ → ℕ
end_of s zero = 0
end_of s (suc k) = part_end s (end_of s k)

-- part k, counted from 0, without its length
unfoldable pub part_of : List ℕ → ℕ → List ℕ
part_of s k = part s (end_of s k + number_length) (end_of s (suc k))

-- whole pieces of so many octets
abbrev pub whole : List ℕ → ℕ → Bool
whole s n = eqb (length s % n) 0

-- k parts and nothing else, the third and the fourth of whole entries
unfoldable pub holds_edits : List ℕ → ℕ → Bool
holds_edits s k = pick (eqb (end_of s k) (length s)) (pick (whole (part_of s 2) entry_length) (whole (part_of s 3) entry_length) false) false

-- ---- rows and plans

-- entry i of a row; zeros past its end
unfoldable pub source_at : List ℕ → ℕ → Source
source_at s i =
    record { number = number_at s (i * entry_length); place = number_at s (i * entry_length + 4); length = number_at s (i * entry_length + 8) }

-- the first k entries, and zeros up to seventeen
unfoldable pub sources_up_to : List ℕ → ℕ → List Source
sources_up_to s zero = replicate most_lent none
sources_up_to s (suc k) = set (sources_up_to s k) k (source_at s k)

-- k numbers from a place on
unfoldable pub numbers_from : List ℕ → ℕ → ℕ → List ℕ
numbers_from s p zero = []
numbers_from s p (suc k) = number_at s p ∷ numbers_from s (p + number_length) k

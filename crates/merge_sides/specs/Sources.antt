-- A card's own row of sources: its CLIENTPIDMAP lines in order. Assumes nothing.
use Rattle.std.specs.Prelude.{ℕ, zero, suc, ◌+◌, ◌-◌, Bool, true, false, List, [], eqb, ltb, length, get_or, take}
use Rattle.numbers.specs.Limits as limit
use Rattle.numbers.specs.Fields as field
use Rattle.numbers.specs.Properties as property
use Rattle.octets.specs.Pick.{pick}
use Rattle.octets.specs.Classes.{run, digit}
use Rattle.merge_sources.specs.Row.{none, filled, put}
use Rattle.merge_sources.specs.declared.Source.{Source}
use Rattle.merge_sources.specs.declared.Row.{Row}
use Rattle.merge_pids.specs.Numbers.{digits}
use Rattle.merge_sides.specs.Lines.{field_at, value_at}

-- in 32 bits
unfoldable pub narrowed : ℕ → ℕ
narrowed n = pick (ltb limit.largest n) limit.largest n

-- digits, a semicolon and the URI, the value being v and standing at a place
unfoldable pub source_in : List ℕ → ℕ → Source
source_in v at =
    pick (ltb (run digit v) (length v))
    (record { number = digits 0 (take (run digit v) v); place = narrowed (at + run digit v + 1); length = narrowed (length v - run digit v - 1) })
    (record { number = digits 0 (take (run digit v) v); place = narrowed (at + run digit v); length = 0 })

-- the source of line i
unfoldable pub source_at : List ℕ → List ℕ → ℕ → Source
source_at c rs i = source_in (value_at c rs i) (field_at rs i field.value)

-- one source more; the entry itself only where it is one of the first sixteen
unfoldable pub with_source : Row → Source → Row
with_source r e =
    pick (ltb r.count limit.sources)
    (put (record { count = r.count + 1; entries = r.entries }) r.count e)
    (record { count = r.count + 1; entries = r.entries })

unfoldable pub with_line : Row → List ℕ → List ℕ → ℕ → Row
with_line r c rs i = pick (eqb (field_at rs i field.property) property.clientpidmap) (with_source r (source_at c rs i)) r

-- with those of k lines from i on
unfoldable pub with_lines : Row → List ℕ → List ℕ → ℕ → ℕ → Row
with_lines r c rs i zero = r
with_lines r c rs i (suc k) = with_lines (with_line r c rs i) c rs (i + 1) k

-- the row of a card of n lines
unfoldable pub own_row : List ℕ → List ℕ → ℕ → Row
own_row c rs n = with_lines (filled 0 [] 0) c rs 0 n

-- one of k entries from i on has a number over 65,535
unfoldable pub over_entries : List Source → ℕ → ℕ → Bool
over_entries es i zero = false
over_entries es i (suc k) = pick (ltb limit.source_number (get_or es i none).number) true (over_entries es (i + 1) k)

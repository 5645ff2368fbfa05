-- What a copy and its records say of a line: its fields, name and value, and when two lines have one property. Assumes nothing.
use Rattle.std.specs.Prelude.{ℕ, zero, suc, ◌+◌, ◌*◌, Bool, true, false, List, eqb, ltb, length, get_or}
use Rattle.numbers.specs.Limits as limit
use Rattle.numbers.specs.Fields as field
use Rattle.numbers.specs.Properties as property
use Rattle.octets.specs.Pick.{pick}
use Rattle.octets.specs.Cases.{same}
use Rattle.octets.specs.Slices.{part}

-- a field of the record of line i; 0 where there is none
unfoldable pub field_at : List ℕ → ℕ → ℕ → ℕ
field_at rs i k = pick (ltb limit.lines i) 0 (get_or rs (i * limit.record_length + k) 0)

-- where its name starts: after the group and its dot, where there is one
unfoldable pub name_start_at : List ℕ → ℕ → ℕ
name_start_at rs i = pick (eqb (field_at rs i field.group) 0) (field_at rs i field.start) (field_at rs i field.start + field_at rs i field.group + 1)

unfoldable pub name_at : List ℕ → List ℕ → ℕ → List ℕ
name_at c rs i = part c (name_start_at rs i) (name_start_at rs i + field_at rs i field.name)

unfoldable pub value_at : List ℕ → List ℕ → ℕ → List ℕ
value_at c rs i = part c (field_at rs i field.value) (field_at rs i field.start + field_at rs i field.length)

-- the same k octets from i on
unfoldable pub same_from : List ℕ → List ℕ → ℕ → ℕ → Bool
same_from xs ys i zero = true
same_from xs ys i (suc k) = pick (eqb (get_or xs i 0) (get_or ys i 0)) (same_from xs ys (i + 1) k) false

unfoldable pub same_octets : List ℕ → List ℕ → Bool
same_octets xs ys = pick (eqb (length xs) (length ys)) (same_from xs ys 0 (length xs)) false

-- the same property number, and for number 0 the same name without case
unfoldable pub same_property : List ℕ → List ℕ → ℕ → List ℕ → List ℕ → ℕ → Bool
same_property ca ra i cb rb j =
    pick (eqb (field_at ra i field.property) (field_at rb j field.property))
    (pick (eqb (field_at ra i field.property) property.other) (same (name_at ca ra i) (name_at cb rb j)) true)
    false

-- the first of k lines from i on with the property number; the line behind them where there is none
unfoldable pub first_line : List ℕ → ℕ → ℕ → ℕ → ℕ
first_line rs row i zero = i
first_line rs row i (suc k) = pick (eqb (field_at rs i field.property) row) i (first_line rs row (i + 1) k)

abbrev pub one : Bool → ℕ
one true = 1
one false = 0

-- how many of k lines from i on have it
unfoldable pub count_lines : List ℕ → ℕ → ℕ → ℕ → ℕ
count_lines rs row i zero = 0
count_lines rs row i (suc k) = one (eqb (field_at rs i field.property) row) + count_lines rs row (i + 1) k

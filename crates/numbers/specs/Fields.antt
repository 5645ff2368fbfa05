-- Fields of a record: which of its eight numbers is which. Assumes nothing.
use Rattle.std.specs.Prelude.{ℕ}

-- the number of the line's property
abbrev pub property : ℕ
property = 0

-- where the line starts in the copy
abbrev pub start : ℕ
start = 1

-- how long the line is, without CR LF
abbrev pub length : ℕ
length = 2

-- how long the group is, 0 for none
abbrev pub group : ℕ
group = 3

-- how long the name is
abbrev pub name : ℕ
name = 4

-- how many parameters there are
abbrev pub parameters : ℕ
parameters = 5

-- where the value starts in the copy
abbrev pub value : ℕ
value = 6

-- the kind of the value
abbrev pub kind : ℕ
kind = 7

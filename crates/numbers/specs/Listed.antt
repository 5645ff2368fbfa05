-- Listed: which numbers a refusal has, by the table in docs/REFERENCE.md. Assumes nothing.
use Rattle.std.specs.Prelude.{ℕ, Bool, true, false, leb}

abbrev pub or_else : Bool → Bool → Bool
or_else true b = true
or_else false b = b

abbrev pub within_by : Bool → Bool → Bool
within_by true b = b
within_by false b = false

-- n is one of a to b
abbrev pub within : ℕ → ℕ → ℕ → Bool
within a b n = within_by (leb a n) (leb n b)

-- whether a refusal has the number n
unfoldable pub is_listed : ℕ → Bool
is_listed n =
    or_else (within 1 5 n)
    (or_else (within 7 16 n)
    (or_else (within 20 26 n)
    (or_else (within 30 31 n)
    (or_else (within 40 46 n)
    (or_else (within 50 51 n)
    (or_else (within 70 73 n)
    (or_else (within 80 80 n)
    (within 90 92 n))))))))

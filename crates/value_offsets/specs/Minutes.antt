-- The minutes that an offset's octets give, or its refusal. Assumes nothing.
use Rattle.std.specs.Prelude.{ℕ, ◌+◌, ◌*◌, ◌-◌, ◌≤◌, Bool, true, false, List, eqb, ℤ, pos, neg_ℤ, nat_abs, get_or}
use Rattle.numbers.specs.Kinds as kind
use Rattle.numbers.specs.Refusals as refusal
use Rattle.octets.specs.Ascii.{hyphen}
use Rattle.value_kinds.specs.Kinds.{kind_scan}
use Rattle.value_kinds.specs.declared.Fault.{Fault}
use Rattle.value_kinds.specs.declared.Fault.TheVariants.{Fits, Breaks}
use Rattle.value_offsets.specs.declared.Offset.{Offset}
use Rattle.value_offsets.specs.declared.Offset.TheVariants.{Minutes, Refused}

-- the digit at i; 0 past the end
unfoldable pub digit_at : List ℕ → ℕ → ℕ
digit_at v i = get_or v i 0 - 48

-- the number that the two digits from i on make
unfoldable pub pair_at : List ℕ → ℕ → ℕ
pair_at v i = digit_at v i * 10 + digit_at v (i + 1)

-- how many minutes the hours and minutes after the sign are
unfoldable pub time_of : List ℕ → ℕ
time_of v = pair_at v 1 * 60 + pair_at v 3

-- the sign is a minus
unfoldable pub is_behind : List ℕ → Bool
is_behind v = eqb (get_or v 0 0) hyphen

unfoldable pub signed : Bool → ℕ → ℤ
signed true n = neg_ℤ (pos n)
signed false n = pos n

-- the most minutes that four octets give as digits, 255 less 48 each at most, and more
abbrev pub most_minutes : ℕ
most_minutes = 171105

-- an answer that fits 32 bits with either sign
abbrev pub Bounded : Offset → Type 0
Bounded (Minutes z) = nat_abs z ≤ most_minutes
Bounded (Refused n p) = Unit {0}

-- 7 where the value is no offset, at the octet where it breaks the kind, or at its end
abbrev pub minutes_by : Fault → List ℕ → Offset
minutes_by Fits v = Minutes (signed (is_behind v) (time_of v))
minutes_by (Breaks o) v = Refused refusal.value o

unfoldable pub minutes_of : List ℕ → Offset
minutes_of v = minutes_by (kind_scan kind.offset v) v

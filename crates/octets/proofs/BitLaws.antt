-- Tests joined as bits: a test as a byte, and bytes joined, are the joined test. Assumes nothing.
use mathlib.Core.Path.{◌≡◌, refl}
use mathlib.Core.Bool.{Bool, true, false, not, ◌&&◌, ◌||◌}
use Prim.Native.Nat.{ℕ, ◌≤◌}
use native.Mathlib.Omega.{arith}
use lib.Dec.{eqb}
use lib.Bits.{bit_or, bit_and, or_add_and, and_le_l, and_le_r}
use mir.Val.{bool_byte}
use Rattle.octets.specs.Classes.{bit}

pub or_bytes : (x y : Bool) → bit_or (bool_byte x) (bool_byte y) ≡ bool_byte (x || y)
or_bytes true true = refl
or_bytes true false = refl
or_bytes false true = refl
or_bytes false false = refl

pub and_bytes : (x y : Bool) → bit_and (bool_byte x) (bool_byte y) ≡ bool_byte (x && y)
and_bytes true true = refl
and_bytes true false = refl
and_bytes false true = refl
and_bytes false false = refl

pub byte_bit : (x : Bool) → bool_byte x ≡ bit x 1
byte_bit true = refl
byte_bit false = refl

pub byte_zero : (x : Bool) → eqb (bool_byte x) 0 ≡ not x
byte_zero true = refl
byte_zero false = refl

pub bit_le : (t : Bool) → bit t 1 ≤ 1
bit_le true = omega arith
bit_le false = omega arith

-- where no bit is set no test holds
pub or_zero_left : (a b : ℕ) → bit_or a b ≡ 0 → a ≡ 0
or_zero_left a b e = omega (arith, or_add_and a b, and_le_l a b, and_le_r a b)

pub or_zero_right : (a b : ℕ) → bit_or a b ≡ 0 → b ≡ 0
or_zero_right a b e = omega (arith, or_add_and a b, and_le_l a b, and_le_r a b)

pub byte_no : (t : Bool) → bool_byte t ≡ 0 → t ≡ false
byte_no true e = absurd (omega arith)
byte_no false e = refl

pub bit_no : (t : Bool) → bit t 1 ≡ 0 → t ≡ false
bit_no true e = absurd (omega arith)
bit_no false e = refl

-- one of four tests
pub or_four : (a b c d : Bool) → bit_or (bit_or (bool_byte a) (bool_byte b)) (bit_or (bool_byte c) (bool_byte d)) ≡ bool_byte ((a || b) || (c || d))
or_four a b c d = rw (or_bytes a b, or_bytes c d) (or_bytes (a || b) (c || d))

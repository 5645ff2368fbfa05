-- The fixed values VCARD and 4.0, compared octet by octet. Assumes nothing.
use mathlib.Core.Path.{◌≡◌, refl, sym, ap, ◌∙◌}
use mathlib.Core.Bool.{Bool, true, false, not, ◌&&◌}
use mathlib.Core.List.{List, [], ◌∷◌}
use Prim.Native.Nat.{ℕ, suc, ◌+◌, ◌<◌, ◌≤◌}
use native.Mathlib.Numerals.{add-one}
use native.Mathlib.Omega.{arith}
use lib.Dec.{eqb}
use lib.Bits.{bit_or}
use lib.ListN.{length, get_or, drop, drop_of_length-le}
use lib.Seq.{drop-cons}
use mir.Val.{bool_byte}
use borrow.Author.Tests.{eqb-true, eq-eqb, not-false}
use Rattle.octets.specs.Cases.{lower}
use Rattle.octets.specs.Classes.{bit}
use Rattle.octets.proofs.Bools.{clash}
use Rattle.octets.proofs.BitLaws.{or_zero_left, or_zero_right, byte_no, bit_no}
use Rattle.octets.proofs.CaseLaws.{lower_above, lower_capital}
use Rattle.value_kinds.specs.Octets.{Octets, neither, holds, the_v, the_c, the_a, the_r, the_d, four, point, nought}
use Rattle.value_kinds.specs.Shapes.{Shape, one, ◌then◌, Matches}
use Rattle.value_kinds.specs.Kinds.{vcard, version}

-- the octet at i is the next one of the value, or its last
module _ (s : List ℕ) (i : ℕ) (p : Octets) (e : holds p (get_or s i 0) ≡ true) where
  next : (r : Shape) → i < length s → Matches r (drop (i + 1) s) → Matches (one p then r) (drop i s)
  unfolding Matches
  next r h k = rw (drop-cons s i 0 h) (get_or s i 0 ∷ [], drop (suc i) s, refl, (get_or s i 0, e, refl), rw (add-one i) at k)

  last : length s ≡ i + 1 → Matches (one p) (drop i s)
  unfolding Matches
  last h =
      let l : i < length s = omega arith in
      let k : length s ≤ suc i = omega arith in
      rw (drop-cons s i 0 l, drop_of_length-le s k) (get_or s i 0, e, refl)

-- a letter in either case, r the mark of any other octet
letter : (c x r : ℕ) → 65 ≤ c → c ≤ 90 → r ≡ bit (neither c (c + 32) x) 1 → r ≡ 0 → eqb (lower x) (c + 32) ≡ true
letter c x r g h e z = either (eqb x c) (eqb x (c + 32)) refl refl (bit_no (neither c (c + 32) x) (sym e ∙ z))
  where
    either : (a b : Bool) → eqb x c ≡ a → eqb x (c + 32) ≡ b → (not a && not b) ≡ false → eqb (lower x) (c + 32) ≡ true
    either true b p q w = eq-eqb (lower x) (c + 32) (ap lower (eqb-true x c p) ∙ lower_capital c g h)
    either false true p q w = eq-eqb (lower x) (c + 32) (ap lower (eqb-true x (c + 32) q) ∙ lower_above (c + 32) (omega arith) (omega arith))
    either false false p q w = clash cc

pub vcard_matches : (s : List ℕ) (v c a r d : ℕ) → length s ≡ 5
    → v ≡ bit (neither 86 118 (get_or s 0 0)) 1 → c ≡ bit (neither 67 99 (get_or s 1 0)) 1 → a ≡ bit (neither 65 97 (get_or s 2 0)) 1
    → r ≡ bit (neither 82 114 (get_or s 3 0)) 1 → d ≡ bit (neither 68 100 (get_or s 4 0)) 1
    → bit_or (bit_or v c) (bit_or (bit_or a r) d) ≡ 0 → Matches vcard s
unfolding vcard holds lower
vcard_matches s v c a r d n ev ec ea er ed z =
    let vc = or_zero_left (bit_or v c) (bit_or (bit_or a r) d) z in
    let ard = or_zero_right (bit_or v c) (bit_or (bit_or a r) d) z in
    let ar = or_zero_left (bit_or a r) d ard in
    next s 0 the_v (letter 86 (get_or s 0 0) v (omega arith) (omega arith) ev (or_zero_left v c vc)) _ (omega arith)
    (next s 1 the_c (letter 67 (get_or s 1 0) c (omega arith) (omega arith) ec (or_zero_right v c vc)) _ (omega arith)
    (next s 2 the_a (letter 65 (get_or s 2 0) a (omega arith) (omega arith) ea (or_zero_left a r ar)) _ (omega arith)
    (next s 3 the_r (letter 82 (get_or s 3 0) r (omega arith) (omega arith) er (or_zero_right a r ar)) _ (omega arith)
    (last s 4 the_d (letter 68 (get_or s 4 0) d (omega arith) (omega arith) ed (or_zero_right (bit_or a r) d ard)) n))))

-- an octet whose mark is not set
same : (t : Bool) → bool_byte (not t) ≡ 0 → t ≡ true
same t e = not-false t (byte_no (not t) e)

pub version_matches : (s : List ℕ) (x y z : Bool) → length s ≡ 3
    → x ≡ eqb (get_or s 0 0) 52 → y ≡ eqb (get_or s 1 0) 46 → z ≡ eqb (get_or s 2 0) 48
    → bit_or (bit_or (bool_byte (not x)) (bool_byte (not y))) (bool_byte (not z)) ≡ 0 → Matches version s
unfolding version holds
version_matches s x y z n ex ey ez w =
    let xy = or_zero_left (bit_or (bool_byte (not x)) (bool_byte (not y))) (bool_byte (not z)) w in
    let zz = or_zero_right (bit_or (bool_byte (not x)) (bool_byte (not y))) (bool_byte (not z)) w in
    next s 0 four (sym ex ∙ same x (or_zero_left (bool_byte (not x)) (bool_byte (not y)) xy)) _ (omega arith)
    (next s 1 point (sym ey ∙ same y (or_zero_right (bool_byte (not x)) (bool_byte (not y)) xy)) _ (omega arith)
    (last s 2 nought (sym ez ∙ same z zz) n))

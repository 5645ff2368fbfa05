-- Small laws of tests. Assumes nothing.
use mathlib.Core.Path.{◌≡◌, refl, sym, ap, ◌∙◌}
use mathlib.Core.Bool.{Bool, true, false, not, ◌&&◌, ◌||◌, false≢true, true≢false}
use mathlib.Core.Logic.{◌⊎◌, inl, inr}
use Prim.Native.Nat.{ℕ}
use native.Mathlib.Omega.{arith}
use lib.Dec.{leb, ltb}
use lib.Bits.{bit_or}
use mir.Val.{bool_byte}
use borrow.Author.Tests.{ltb-true, ltb-false, le-leb, lt-leb}
use Rattle.octets.specs.Classes.{bit}

-- what follows where two different constructors are equal
pub clash : {A : Type 0} → ◌≡◌ {A = ℕ} 0 1 → A
clash e = absurd (omega arith)

pub by : {A : Type 0} (s : Bool) → (s ≡ true → A) → (s ≡ false → A) → A
by true f g = f refl
by false f g = g refl

pub and_both : (s t : Bool) → (s && t) ≡ true → (s ≡ true) × (t ≡ true)
and_both true t e = (refl, e)
and_both false t e = absurd (false≢true e)

pub or_some : (s t : Bool) → (s || t) ≡ true → (s ≡ true) ⊎ (t ≡ true)
or_some true t e = inl refl
or_some false t e = inr e

pub or_left : (s t : Bool) → s ≡ true → (s || t) ≡ true
or_left true t e = refl
or_left false t e = absurd (false≢true e)

pub or_right : (s t : Bool) → t ≡ true → (s || t) ≡ true
or_right true t e = refl
or_right false t e = e

pub or_none_left : (s t : Bool) → (s || t) ≡ false → s ≡ false
or_none_left true t e = e
or_none_left false t e = refl

pub or_none_right : (s t : Bool) → (s || t) ≡ false → t ≡ false
or_none_right true t e = absurd (true≢false e)
or_none_right false t e = e

-- a test against is the other test's negation
pub leb_not : (a b : ℕ) → leb a b ≡ not (ltb b a)
leb_not a b = by (ltb b a) (λ e. lt-leb a b (ltb-true b a e) ∙ sym (ap not e)) (λ e. le-leb a b (ltb-false b a e) ∙ sym (ap not e))

-- a bit that is set where one of two tests holds
pub two_bits : (x y : Bool) → bit_or (bool_byte x) (bool_byte y) ≡ bit (not (not x && not y)) 1
two_bits true true = refl
two_bits true false = refl
two_bits false true = refl
two_bits false false = refl

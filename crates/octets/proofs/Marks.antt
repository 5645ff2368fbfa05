-- The laws of a mark that is kept once it is set, as a loop with no way out keeps it. Assumes nothing.
use mathlib.Core.Path.{◌≡◌, sym, ap, ◌∙◌}
use mathlib.Core.Bool.{Bool, true, false, not, ◌&&◌, and-true, and-false, and_assoc}
use Prim.Native.Nat.{ℕ}
use native.Mathlib.Omega.{arith}
use lib.Dec.{eqb}
use lib.Bits.{bit_or, or_zero_r, or_add_and, and_le_l}
use borrow.Author.Tests.{ne_eqb}
use Rattle.octets.specs.Classes.{bit}

or_mark : (a : ℕ) (t : Bool) → eqb (bit_or a (bit t 1)) 0 ≡ (eqb a 0 && not t)
or_mark a true = ne_eqb (bit_or a 1) 0 (λ e. omega (arith, or_add_and a 1, and_le_l a 1)) ∙ sym (and-false (eqb a 0))
or_mark a false = ap (λ (n : ℕ). eqb n 0) (or_zero_r a) ∙ sym (and-true (eqb a 0))

-- a has the marks so far, t is the next one and r says that none follows
pub mark_step : (a x : ℕ) (t r : Bool) → x ≡ bit t 1 → (eqb a 0 && (not t && r)) ≡ (eqb (bit_or a x) 0 && r)
mark_step a x t r e =
    sym (and_assoc (eqb a 0) (not t) r) ∙ ap (λ (u : Bool). u && r) (sym (or_mark a t) ∙ ap (λ (n : ℕ). eqb (bit_or a n) 0) (sym e))

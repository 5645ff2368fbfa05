-- The answer of measuring a text, by its first fault, and what it tells of the text. Assumes nothing.
use mathlib.Core.Path.{◌≡◌, refl, sym}
use mathlib.Core.Bool.{Bool, true, false}
use mathlib.Core.List.{List}
use Prim.Native.Nat.{ℕ, ◌<◌}
use native.Mathlib.Omega.{arith}
use lib.Dec.{ltb}
use lib.ListN.{length}
use borrow.Author.Tests.{lt-ltb, le-ltb, ltb-true, ltb-false}
use Rattle.octets.specs.Pick.{pick}
use Rattle.octets.proofs.Bools.{clash}
use Rattle.text_unescaping.specs.Unescaped.{first_fault, unescaped}
use Rattle.std.proofs.Common.{Ok, Err}
use Rattle.text_unescaping.specs.Measured.{measured}
use Rattle.text_unescaping.proofs.UnescapeLaws.{fault_le}

module _ (t : List ℕ) (n : ℕ) where
  pub at_fault : n ≡ first_fault t → n < length t → Err n ≡ measured t
  unfolding measured
  at_fault e l = simp (sym e, lt-ltb n (length t) l)

  pub at_end : first_fault t ≡ length t → n ≡ length (unescaped t) → Ok n ≡ measured t
  unfolding measured
  at_end f e = simp (f, le-ltb (length t) (length t) (omega arith), sym e)

  pub fault_told : measured t ≡ Err n → (n ≡ first_fault t) × (n < length t)
  unfolding measured
  fault_told e = by (ltb (first_fault t) (length t)) refl e
    where
      by : (b : Bool) → ltb (first_fault t) (length t) ≡ b → pick b (Err (first_fault t)) (Ok (length (unescaped t))) ≡ Err n
          → (n ≡ first_fault t) × (n < length t)
      by true h e = let q : n ≡ first_fault t = cc in (q, omega (arith, q, ltb-true (first_fault t) (length t) h))
      by false h e = clash cc

  pub octets_told : measured t ≡ Ok n → (n ≡ length (unescaped t)) × (first_fault t ≡ length t)
  unfolding measured
  octets_told e = by (ltb (first_fault t) (length t)) refl e
    where
      by : (b : Bool) → ltb (first_fault t) (length t) ≡ b → pick b (Err (first_fault t)) (Ok (length (unescaped t))) ≡ Ok n
          → (n ≡ length (unescaped t)) × (first_fault t ≡ length t)
      by true h e = clash cc
      by false h e = (cc, omega (arith, ltb-false (first_fault t) (length t) h, fault_le t))

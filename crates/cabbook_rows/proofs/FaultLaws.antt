-- A refusal that is of no line rule. Assumes nothing.
use mathlib.Core.Path.{◌≡◌}
use mathlib.Core.Bool.{false}
use Prim.Native.Nat.{ℕ}
use native.Mathlib.Omega.{arith}
use borrow.Author.Tests.{lt-ltb, le-ltb, lt-leb}
use Rattle.numbers.specs.Refusals.{number}
use Rattle.numbers.specs.declared.refusal.Reason.{Reason}
use Rattle.numbers.specs.declared.refusal.Reason.TheVariants.{Name, Parameter, Quote, NoColon}
use Rattle.numbers.proofs.Reasons.{same_reason}
use Rattle.cabbook_rows.specs.Faults.{is_fault}

outside : (n : ℕ) → (n ≡ 40 → ⊥) → (n ≡ 41 → ⊥) → (n ≡ 42 → ⊥) → (n ≡ 43 → ⊥) → is_fault n ≡ false
unfolding is_fault
outside n a b c d = grind arith

pub no_fault : (r : Reason) → (r ≡ Name → ⊥) → (r ≡ Parameter → ⊥) → (r ≡ Quote → ⊥) → (r ≡ NoColon → ⊥) → is_fault (number r) ≡ false
no_fault r a b c d = outside (number r) (λ e. a (same_reason r Name e)) (λ e. b (same_reason r Parameter e)) (λ e. c (same_reason r Quote e)) (λ e. d (same_reason r NoColon e))

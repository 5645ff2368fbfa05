-- Small laws that several of the others cite. Assumes nothing.
use mathlib.Core.Path.{◌≡◌, refl, sym, ◌∙◌}
use mathlib.Core.Bool.{Bool, true, false, true≢false}
use mathlib.Core.List.{List, ◌∷◌}
use Prim.Native.Nat.{ℕ}
use native.Mathlib.Omega.{arith}
use Rattle.version3_judge.specs.declared.Set.{Set}
use Rattle.version3_judge.specs.Judge.{Next, Refused}
use Rattle.version3_laws.specs.Says.{worded}

-- a test does not both hold and fail
pub clash : {A : Type 0} {b : Bool} → b ≡ true → b ≡ false → A
clash p q = absurd (true≢false (sym p ∙ q))

pub both : {A : Type 0} {a b : A} {us vs : List A} → a ≡ b → us ≡ vs → a ∷ us ≡ b ∷ vs
both p q = λ i. p i ∷ q i

-- the kinds that are text
pub worded_text : worded 1 ≡ true
unfolding worded
worded_text = refl

pub worded_name : worded 4 ≡ true
unfolding worded
worded_name = refl

pub worded_address : worded 5 ≡ true
unfolding worded
worded_address = refl

pub worded_organization : worded 6 ≡ true
unfolding worded
worded_organization = refl

-- a refusal has one number and one place, and is no next state
pub same_step : {n p m q : ℕ} → Refused n p ≡ Refused m q → (n ≡ m) × (p ≡ q)
same_step e = (cc, cc)

pub no_step : {A : Type 0} {c : Set} {m q : ℕ} → Next c ≡ Refused m q → A
no_step e = let z : ◌≡◌ {A = ℕ} 0 1 = cc in absurd (omega arith)

-- A choice between a refusal and what is left, by cases. Assumes nothing.
use Prim.Native.Nat.{ℕ}
use mathlib.Core.Path.{◌≡◌, refl}
use mathlib.Core.Bool.{Bool, true, false}
use native.Mathlib.Omega.{arith}
use mathlib.Core.List.{List}
use Rattle.octets.specs.Pick.{pick}
use Rattle.octets.specs.Room.{Filled, refuse}
use Rattle.desk.specs.Steps.{Turned, refused}
use Rattle.desk.specs.declared.Desk.{Desk}

pub clash : {A : Type 0} → ◌≡◌ {A = ℕ} 0 1 → A
clash e = absurd (omega arith)

pub not-true : (b : Bool) → (b ≡ true → ⊥) → b ≡ false
not-true true n = absurd (n refl)
not-true false n = refl

-- `Exactly` by an enum's own cases: the whole outcome, lent memory too, is that of the refusal
pub record ByCase {A B : Type 0} (answer : A → B) (outcome : A) (refusal : ℕ → ℕ → A) (By : ℕ → ℕ → Type 0) : Type 0 where
  pub only : (n p : ℕ) → answer outcome ≡ answer (refusal n p) → By n p
  pub unchanged : (n p : ℕ) → By n p → outcome ≡ refusal n p

abbrev pub FillingByCase : Filled → List ℕ → (ℕ → ℕ → Type 0) → Type 0
FillingByCase outcome room By = ByCase (λ (f : Filled). f.answer) outcome (λ n p. refuse n p room) By

abbrev pub TurningByCase : Turned → Desk → List ℕ → (ℕ → ℕ → Type 0) → Type 0
TurningByCase outcome d pool By = ByCase (λ (r : Turned). r.answer) outcome (λ n p. refused d pool p n) By

-- of outcomes with an answer, refusals are told apart by number and place
pub record Telling {A B : Type 0} (answer : A → B) (refusal : ℕ → ℕ → A) : Type 0 where
  pub number : (m q n p : ℕ) → answer (refusal m q) ≡ answer (refusal n p) → m ≡ n
  pub place : (m q n p : ℕ) → answer (refusal m q) ≡ answer (refusal n p) → q ≡ p

module _ {A B : Type 0} {answer : A → B} {refusal : ℕ → ℕ → A} (tells : Telling answer refusal) (By : ℕ → ℕ → Type 0) where
  -- the refusal itself
  pub itself : (m q n p : ℕ) → answer (refusal m q) ≡ answer (refusal n p) → By m q → By n p
  itself m q n p e b =
      let f : m ≡ n = tells.number m q n p e in
      let g : q ≡ p = tells.place m q n p e in
      rw (← f, ← g) b

  -- the refusal comes first
  pub first : (t : Bool) (m q n p : ℕ) (f : A) → answer (pick t (refusal m q) f) ≡ answer (refusal n p)
      → (t ≡ true → By m q) → (t ≡ false → answer f ≡ answer (refusal n p) → By n p) → By n p
  first true m q n p f e y z = itself m q n p e (y refl)
  first false m q n p f e y z = z refl e

  -- the refusal comes last
  pub last : (t : Bool) (m q n p : ℕ) (f : A) → answer (pick t f (refusal m q)) ≡ answer (refusal n p)
      → (t ≡ false → By m q) → (t ≡ true → answer f ≡ answer (refusal n p) → By n p) → By n p
  last true m q n p f e y z = z refl e
  last false m q n p f e y z = itself m q n p e (y refl)

-- A plan's pairs entered one after the other. Assumes nothing.
use mathlib.Core.Path.{◌≡◌, refl, sym, ap, ◌∙◌}
use mathlib.Core.Bool.{Bool, true, false}
use mathlib.Core.List.{List, [], ◌∷◌}
use Prim.Native.Nat.{ℕ, suc, ◌+◌, ◌-◌, ◌<◌, ◌≤◌}
use native.Mathlib.Omega.{arith}
use lib.ListN.{length, get_or, drop, drop_of_length-le}
use lib.Seq.{drop-cons}
use Rattle.merge_partners.specs.Pairs.{Joined, joined}
use Rattle.merge.specs.Plans.{enter_step, enter_all}

module _ (ca ra : List ℕ) (na : ℕ) (cb rb : List ℕ) (nb : ℕ) where
  abbrev All : Joined → List ℕ → Joined
  All = enter_all ca ra na cb rb nb

  abbrev Step : List ℕ → List ℕ → ℕ → ℕ → Joined
  Step = enter_step ca ra na cb rb nb

  -- what could not be entered stays so
  pub enter_stopped : (p t r : List ℕ) → All (joined false p t) r ≡ joined false p t
  unfolding enter_all
  enter_stopped p t [] = refl
  enter_stopped p t (x ∷ []) = refl
  enter_stopped p t (x ∷ y ∷ r) = refl

  module _ (plan : List ℕ) (at : ℕ) (p t : List ℕ) where
    pub enter_end : length plan ≤ at → All (joined true p t) (drop at plan) ≡ joined true p t
    unfolding enter_all
    enter_end h = rw (drop_of_length-le plan h)

    pub enter_odd : at < length plan → length plan - at < 2 → All (joined true p t) (drop at plan) ≡ joined false p t
    unfolding enter_all
    enter_odd h g =
        let last : length plan ≤ suc at = omega arith in
        rw (drop-cons plan at 0 h, drop_of_length-le plan last)

    pub enter_turn : at + 1 < length plan → All (joined true p t) (drop at plan) ≡ All (Step p t (get_or plan at 0) (get_or plan (at + 1) 0)) (drop (at + 2) plan)
    unfolding enter_all
    enter_turn h =
        let here : at < length plan = omega arith in
        let there : suc at < length plan = omega arith in
        let one : at + 1 ≡ suc at = omega arith in
        let two : at + 2 ≡ suc (suc at) = omega arith in
        rw (drop-cons plan at 0 here, drop-cons plan (suc at) 0 there, one, two)

    module _ (ok : Bool) (q u : List ℕ) (e : joined ok q u ≡ Step p t (get_or plan at 0) (get_or plan (at + 1) 0)) (h : at + 1 < length plan) where
      pub enter_on : ok ≡ true → All (joined true p t) (drop at plan) ≡ All (joined true q u) (drop (at + 2) plan)
      enter_on y =
          enter_turn h ∙ ap (λ (s : Joined). All s (drop (at + 2) plan)) (sym e) ∙ ap (λ (b : Bool). All (joined b q u) (drop (at + 2) plan)) y

      pub enter_off : ok ≡ false → All (joined true p t) (drop at plan) ≡ joined false q u
      enter_off y =
          enter_turn h ∙ ap (λ (s : Joined). All s (drop (at + 2) plan)) (sym e) ∙ ap (λ (b : Bool). All (joined b q u) (drop (at + 2) plan)) y
          ∙ enter_stopped q u (drop (at + 2) plan)

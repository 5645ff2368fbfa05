-- Whether a line is refused does not go by its place. Assumes nothing.
use mathlib.Core.Path.{◌≡◌}
use mathlib.Core.Bool.{Bool, true, false, not, ◌&&◌}
use mathlib.Core.List.{List}
use mathlib.Core.Option.{Option}
use Prim.Native.Nat.{ℕ, ◌≤◌}
use native.Mathlib.Omega.{arith}
use lib.Dec.{eqb}
use lib.ListN.{length}
use borrow.Author.Tests.{le-ltb}
use Rattle.octets.specs.Pick.{pick}
use Rattle.utf8.specs.Characters.{allowed, first_bad}
use Rattle.property_table.specs.declared.Edition.{Edition}
use Rattle.property_table.specs.Rows.{is_group}
use Rattle.card_state.specs.State.{Card, Next, second_instance, noted, closed}
use Rattle.card_line.specs.Parts.{row_of_line, altid_of}
use Rattle.card_judge.specs.Judge.{entered, judge_parts, judge_line}
use Rattle.card_judge.proofs.CardLaws.{unless, only, passed}

module _ (c c' : Card) (p q : ℕ) where
  closed_anywhere : closed c p ≡ Next c' → closed c q ≡ Next c'
  unfolding closed
  closed_anywhere e =
      only 11 p c.has_fn _ e (λ t r. unless 12 p (c.has_member && not c.is_group) _ r (λ u s. simp (t, u) s))

  noted_anywhere : (row : ℕ) (altid : Option (List ℕ)) (group : Bool) → noted c p row altid group ≡ Next c' → noted c q row altid group ≡ Next c'
  unfolding noted
  noted_anywhere row altid group e = unless 10 p (second_instance c row altid) _ e (λ t r. simp t r)

  entered_anywhere : (row : ℕ) (altid : Option (List ℕ)) (v : List ℕ) → entered c p row altid v ≡ Next c' → entered c q row altid v ≡ Next c'
  unfolding entered
  entered_anywhere row altid v e = by (eqb row 2) e
    where
      by : (t : Bool) → pick t (closed c p) (noted c p row altid (is_group v)) ≡ Next c' → pick t (closed c q) (noted c q row altid (is_group v)) ≡ Next c'
      by true r = closed_anywhere r
      by false r = noted_anywhere row altid (is_group v) r

  pub any_place : (ed : Edition) (l : List ℕ) → judge_line ed c p l ≡ Next c' → judge_line ed c q l ≡ Next c'
  unfolding judge_line judge_parts
  any_place ed l e =
      let w = passed ed c c' p l e in
      let h : length l ≤ first_bad (allowed false) l = omega (arith, w.clean) in
      simp (le-ltb (first_bad (allowed false) l) (length l) h, w.parsed, w.order, w.unladen, w.fits)
      (entered_anywhere (row_of_line ed w.parts) (altid_of w.parts) w.parts.value w.after)

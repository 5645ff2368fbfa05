-- The parameters of a line, one after the other. Assumes nothing.
use mathlib.Core.Path.{◌≡◌, refl, ap, ◌∙◌}
use mathlib.Core.List.{List, [], ◌++◌}
use Prim.Native.Nat.{ℕ, zero, suc, ◌+◌, ◌-◌, ◌<◌}
use native.Mathlib.Omega.{arith}
use lib.ListN.{get_or, take, drop}
use lib.Seq.{drop-drop}
use Rattle.octets.specs.Classes.{run, named, has}
use Rattle.octets.proofs.Runs.{run_has}
use Rattle.octets.proofs.Masks.{has_named}
use Rattle.line_parser.specs.Parse.{got, bad}
use Rattle.line_parser.specs.Grammar.{Param}
use Rattle.line_parser.specs.Rule.{param}
use Rattle.line_parser.proofs.Steps.{is, isnt}
use Rattle.merge_pids.specs.Marks.{Marked, put_all, named_marks, params_marks}
use Rattle.merge_pids.proofs.MarkLaws.{put_append}

module _ (i : ℕ) (s : List ℕ) (place : ℕ) where
  pub params_none : (n : ℕ) → (get_or s place 0 ≡ 59 → ⊥) → params_marks i n (drop place s) ≡ []
  unfolding params_marks
  params_none zero h = refl
  params_none (suc n) h = rw (isnt s place 59 h)

  pub params_bad : (n x : ℕ) → get_or s place 0 ≡ 59 → param (drop (place + 1) s) ≡ bad x → params_marks i n (drop place s) ≡ []
  unfolding params_marks
  params_bad zero x h q = refl
  params_bad (suc n) x h q = rw (is s place 59 h, drop-drop 1 place s, q)

  abbrev M : List ℕ
  M = drop (place + 1) s

  params_turn : (n : ℕ) (p : Param) (k : ℕ) → 0 < n → get_or s place 0 ≡ 59 → param M ≡ got p k
      → params_marks i n (drop place s) ≡ named_marks i (take (run named M) M) (drop (run named M + 1) M) ++ params_marks i (n - 1) (drop (place + 1 + k) s)
  unfolding params_marks
  params_turn zero p k pos h q = absurd (omega arith)
  params_turn (suc n) p k pos h q =
      let e : suc n - 1 ≡ n = omega arith in
      rw (is s place 59 h, drop-drop 1 place s, q, e, drop-drop k (place + 1) s)

  -- the name ends at e
  pub params_on : (n : ℕ) (p : Param) (k e : ℕ) (st : Marked) → 0 < n → get_or s place 0 ≡ 59 → param M ≡ got p k → e ≡ place + 1 + run (has 7) M
      → put_all st (params_marks i n (drop place s)) ≡ put_all (put_all st (named_marks i (take (e - (place + 1)) M) (drop (e + 1) s))) (params_marks i (n - 1) (drop (place + 1 + k) s))
  params_on n p k e st pos h q he =
      let r : run (has 7) M ≡ run named M = run_has 7 named has_named M in
      let a : e - (place + 1) ≡ run named M = omega (arith, he, r) in
      let b : place + 1 + (run named M + 1) ≡ e + 1 = omega (arith, he, r) in
      let rest : drop (run named M + 1) M ≡ drop (e + 1) s = drop-drop (run named M + 1) (place + 1) s ∙ ap (λ (n : ℕ). drop n s) b in
      ap (put_all st) (params_turn n p k pos h q)
      ∙ put_append st (named_marks i (take (run named M) M) (drop (run named M + 1) M)) (params_marks i (n - 1) (drop (place + 1 + k) s))
      ∙ rw (a, rest)

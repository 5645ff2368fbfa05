-- What an accepted input satisfies, and how many lines it has. Assumes nothing.
use mathlib.Core.Path.{◌≡◌, refl}
use mathlib.Core.Bool.{Bool, true, false}
use mathlib.Core.List.{List, [], ◌∷◌}
use Prim.Native.Nat.{ℕ, zero, suc, ◌+◌, ◌≤◌}
use native.Mathlib.Omega.{arith}
use lib.Dec.{eqb, ltb}
use lib.ListN.{length, drop}
use borrow.Author.Tests.{ltb-false, eqb-true, eqb-false}
use Rattle.octets.specs.Pick.{pick}
use Rattle.octets.proofs.Scans.{scan_le}
use Rattle.property_table.specs.declared.Edition.{Edition}
use Rattle.line_folds.specs.Folds.{line_length}
use Rattle.line_folds.specs.Logical.{lines_by, raw_lines}
use Rattle.card_state.specs.State.{Card, Step, Next, Refused as Halted, Flawed, fresh_card}
use Rattle.line_breaks.specs.Lone.{lone_step, first_lone, ends_cr_lf}
use Rattle.reader_walk.specs.Walk.{judge_lines}
use Rattle.reader_walk.proofs.WalkLaws.{counted}
use Rattle.reader.specs.Outcome.{verdict_of, judge_in}
use Rattle.reader.specs.Outcome.{Accepted, Refused}

clash : {A : Type 0} → ◌≡◌ {A = ℕ} 0 1 → A
clash e = absurd (omega arith)

few : (n : ℕ) (l : List ℕ) → length (lines_by n l) ≤ n
unfolding lines_by
few zero l = omega arith
few (suc n) [] = omega arith
few (suc n) (x ∷ xs) = omega (arith, few n (drop (line_length (x ∷ xs) + 2) (x ∷ xs)))

-- an input has no more lines than octets
pub lines_few : (i : List ℕ) → length (raw_lines i) ≤ length i
unfolding raw_lines
lines_few i = few (length i) i

-- an accepted input has passed 1 to 4, its lines were judged, and it does not end inside a card
pub record Accepting (ed : Edition) (i : List ℕ) (k n : ℕ) : Type 0 where
  pub short : length i ≤ 16384
  pub some : length i ≡ 0 → ⊥
  pub unlone : first_lone i ≡ length i
  pub ends : ends_cr_lf i ≡ true
  pub last : Card
  pub walked : judge_lines ed (raw_lines i) 0 fresh_card ≡ Next last
  pub outside : last.phase ≡ 0
  pub cards : last.cards ≡ k
  pub lines : last.lines ≡ n

closed : {A : Type 0} (m k n : ℕ) (t : Bool) (c : Card) → pick t (Accepted c.cards c.lines) (Refused 9 m) ≡ Accepted k n
    → (t ≡ true → c.cards ≡ k → c.lines ≡ n → A) → A
closed m k n true c e f =
    let x : c.cards ≡ k = cc in
    let y : c.lines ≡ n = cc in
    f refl x y
closed m k n false c e f = clash cc

-- what the last line leaves, where the input is accepted
pub verdict_next : {A : Type 0} (m k n : ℕ) (r : Step) → verdict_of m r ≡ Accepted k n
    → ((c : Card) → r ≡ Next c → c.phase ≡ 0 → c.cards ≡ k → c.lines ≡ n → A) → A
unfolding verdict_of
verdict_next m k n (Next c) e f =
    closed m k n (eqb c.phase 0) c e (λ t p q. f c refl (eqb-true c.phase 0 t) p q)
verdict_next m k n (Halted a p) e f = clash cc
verdict_next m k n (Flawed a o) e f = clash cc

module _ (ed : Edition) (i : List ℕ) (k n : ℕ) where
  passed : (a b t d : Bool) → ltb 16384 (length i) ≡ a → eqb (length i) 0 ≡ b → ltb (first_lone i) (length i) ≡ t → ends_cr_lf i ≡ d
      → pick a (Refused 1 16384) (pick b (Refused 2 0) (pick t (Refused 3 (first_lone i))
      (pick d (verdict_of (length i) (judge_lines ed (raw_lines i) 0 fresh_card)) (Refused 4 (length i))))) ≡ Accepted k n
      → Accepting ed i k n
  unfolding first_lone
  passed true b t d p q r u e = clash cc
  passed false true t d p q r u e = clash cc
  passed false false true d p q r u e = clash cc
  passed false false false false p q r u e = clash cc
  passed false false false true p q r u e =
      let h = ltb-false 16384 (length i) p in
      let g = ltb-false (first_lone i) (length i) r in
      let s : first_lone i ≤ length i = scan_le lone_step i 0 in
      verdict_next (length i) k n (judge_lines ed (raw_lines i) 0 fresh_card) e
      (λ c w z x y. record {
        short = h;
        some = eqb-false (length i) 0 q;
        unlone = omega arith;
        ends = u;
        last = c;
        walked = w;
        outside = z;
        cards = x;
        lines = y;
      })

  pub accepting : judge_in ed i ≡ Accepted k n → Accepting ed i k n
  unfolding judge_in
  accepting e = passed (ltb 16384 (length i)) (eqb (length i) 0) (ltb (first_lone i) (length i)) (ends_cr_lf i) refl refl refl refl e

  -- the count that is answered is that of the lines
  pub lines_counted : judge_in ed i ≡ Accepted k n → n ≡ length (raw_lines i)
  lines_counted e =
      let a = accepting e in
      omega (arith, a.lines, counted ed (raw_lines i) 0 fresh_card a.last a.walked)

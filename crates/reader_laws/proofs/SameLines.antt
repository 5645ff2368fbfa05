-- An accepted input: acceptance goes by the logical lines alone, whatever their places.
-- Assumes nothing.
use mathlib.Core.Path.{◌≡◌, sym, ap, ◌∙◌}
use mathlib.Core.Bool.{true}
use mathlib.Core.List.{List, [], ◌∷◌, map}
use Prim.Native.Nat.{ℕ, ◌+◌, ◌≤◌}
use native.Mathlib.Omega.{arith}
use lib.ListN.{length}
use borrow.Author.Tests.{ne_eqb, eq-eqb, le-ltb}
use Rattle.property_table.specs.declared.Edition.{Edition}
use Rattle.line_folds.specs.Folds.{unfolded}
use Rattle.line_folds.specs.Logical.{raw_lines, logical_lines}
use Rattle.card_state.specs.State.{Card, Step, Next, fresh_card}
use Rattle.card_judge.specs.Judge.{judge_line}
use Rattle.line_breaks.specs.Lone.{first_lone, ends_cr_lf}
use Rattle.reader_walk.specs.Walk.{onward, settled, judge_lines}
use Rattle.reader.specs.Outcome.{verdict_of, judge_in, copy_of, records_in}
use Rattle.reader.specs.Outcome.{Accepted}
use Rattle.reader_walk.proofs.WalkLaws.{onward_next}
use Rattle.reader.proofs.AcceptLaws.{Accepting, accepting}
use Rattle.reader_laws.proofs.Anywhere.{any_place}

-- the converse of `accepting`: what it says is all that acceptance asks
pub accepted : (ed : Edition) (i : List ℕ) (k n : ℕ) → Accepting ed i k n → judge_in ed i ≡ Accepted k n
unfolding judge_in verdict_of
accepted ed i k n a =
    simp (
      le-ltb 16384 (length i) a.short,
      ne_eqb (length i) 0 a.some,
      le-ltb (first_lone i) (length i) (rw a.unlone (omega arith)),
      a.ends,
      a.walked,
      eq-eqb a.last.phase 0 a.outside,
      a.cards,
      a.lines,
    )

ends_some : (i : List ℕ) → ends_cr_lf i ≡ true → length i ≡ 0 → ⊥
unfolding ends_cr_lf
ends_some [] e h = let z : ◌≡◌ {A = ℕ} 0 1 = cc in omega arith
ends_some (x ∷ xs) e h = omega arith

same_judged : (ed : Edition) (ls ms : List (List ℕ)) (p q : ℕ) (c c' : Card) → map unfolded ms ≡ map unfolded ls → judge_lines ed ls p c ≡ Next c' → judge_lines ed ms q c ≡ Next c'
unfolding judge_lines
same_judged ed [] [] p q c c' m e = e
same_judged ed [] (y ∷ ys) p q c c' m e = let z : ◌≡◌ {A = ℕ} 0 1 = cc in absurd (omega arith)
same_judged ed (l ∷ ls) [] p q c c' m e = let z : ◌≡◌ {A = ℕ} 0 1 = cc in absurd (omega arith)
same_judged ed (l ∷ ls) (y ∷ ys) p q c c' m e =
    let h : unfolded y ≡ unfolded l = cc in
    let t : map unfolded ys ≡ map unfolded ls = cc in
    onward_next p l (judge_line ed c p (unfolded l)) (judge_lines ed ls (p + length l + 2)) c' e
    (λ d j r. ap (λ (s : Step). onward (settled q y s) (judge_lines ed ys (q + length y + 2))) (ap (judge_line ed c q) h ∙ any_place c d p q ed (unfolded l) j)
    ∙ same_judged ed ls ys (p + length l + 2) (q + length y + 2) d c' t r)

-- an input with the same logical lines, which passes 1 to 4, is accepted with the same counts
pub same_lines : (ed : Edition) (i j : List ℕ) (k n : ℕ) → judge_in ed i ≡ Accepted k n → logical_lines j ≡ logical_lines i
    → length j ≤ 16384 → first_lone j ≡ length j → ends_cr_lf j ≡ true → judge_in ed j ≡ judge_in ed i
unfolding logical_lines
same_lines ed i j k n e m short unlone ends =
    let a = accepting ed i k n e in
    accepted ed j k n (record {
      short = short;
      some = ends_some j ends;
      unlone = unlone;
      ends = ends;
      last = a.last;
      walked = same_judged ed (raw_lines i) (raw_lines j) 0 0 fresh_card a.last m a.walked;
      outside = a.outside;
      cards = a.cards;
      lines = a.lines;
    }) ∙ sym e

-- the copy and the records go by the logical lines
pub same_copy : (i j : List ℕ) → logical_lines j ≡ logical_lines i → copy_of j ≡ copy_of i
unfolding copy_of
same_copy i j m = cc

pub same_records : (ed : Edition) (i j : List ℕ) → logical_lines j ≡ logical_lines i → records_in ed j ≡ records_in ed i
unfolding records_in
same_records ed i j m = cc

-- The logical lines of an accepted input: characters only, neither empty nor led by a space or tab, so that they are found again in the
-- copy as they are. Assumes nothing.
use Prim.{tt}
use mathlib.Core.Path.{◌≡◌, refl, sym, ap, ◌∙◌}
use mathlib.Core.Bool.{false, ◌||◌}
use mathlib.Core.List.{List, [], ◌∷◌, ◌++◌, map}
use Prim.Native.Nat.{ℕ, zero, suc, ◌+◌}
use native.Mathlib.Nat.{zero-add}
use native.Mathlib.Omega.{arith}
use lib.Dec.{eqb}
use lib.ListN.{length, get_or, drop, length-append}
use lib.Seq.{take-append_seam, drop-append-add}
use borrow.Author.Tests.{ne_eqb}
use Rattle.utf8.specs.Characters.{allowed, first_bad}
use Rattle.utf8.proofs.Chains.{NoEnd, none, more, no_end, good_chars}
use Rattle.property_table.specs.declared.Edition.{Edition}
use Rattle.line_folds.specs.Folds.{fold_at, line_length, unfolded}
use Rattle.line_folds.specs.Logical.{raw_lines, logical_lines}
use Rattle.line_folds.proofs.LineLaws.{lines_end}
use Rattle.line_parser.specs.Grammar.{Each}
use Rattle.card_state.specs.State.{Card, Next, fresh_card}
use Rattle.card_judge.specs.Judge.{judge_line}
use Rattle.card_judge.proofs.CardLaws.{line_clean}
use Rattle.reader_walk.specs.Walk.{judge_lines}
use Rattle.reader.specs.Outcome.{judge_in, ended, copy_of}
use Rattle.reader.specs.Outcome.{Accepted}
use Rattle.reader_walk.proofs.WalkLaws.{onward_next}
use Rattle.reader.proofs.AcceptLaws.{accepting}
use Rattle.reader.proofs.CopyUnfolds.{no_fold, line_octet, raw, line_stop}

-- characters only, with no control but tab; neither empty nor led by a space or tab
pub record Clean (l : List ℕ) : Type 0 where
  pub whole : first_bad (allowed false) l ≡ length l
  pub unspaced : get_or l 0 0 ≡ 32 → ⊥
  pub untabbed : get_or l 0 0 ≡ 9 → ⊥
  pub some : length l ≡ 0 → ⊥

judged_clean : (ed : Edition) (c c' : Card) (p : ℕ) (l : List ℕ) → judge_line ed c p l ≡ Next c' → Clean l
judged_clean ed c c' p l e =
    let w = line_clean ed c c' p l e in
    record { whole = w.0; unspaced = w.1; untabbed = w.2; some = λ z. omega (arith, w.3) }

clean_lines : (ed : Edition) (ls : List (List ℕ)) (p : ℕ) (c c' : Card) → judge_lines ed ls p c ≡ Next c' → Each Clean (map unfolded ls)
unfolding judge_lines Each
clean_lines ed [] p c c' e = tt
clean_lines ed (l ∷ ls) p c c' e =
    onward_next p l (judge_line ed c p (unfolded l)) (judge_lines ed ls (p + length l + 2)) c' e
    (λ d q r. (judged_clean ed c d p (unfolded l) q, clean_lines ed ls (p + length l + 2) d c' r))

-- each logical line of an accepted input is clean
pub lines_clean : (ed : Edition) (i : List ℕ) (k n : ℕ) → judge_in ed i ≡ Accepted k n → Each Clean (logical_lines i)
unfolding logical_lines
lines_clean ed i k n e =
    let a = accepting ed i k n e in
    clean_lines ed (raw_lines i) 0 fresh_card a.last a.walked

line_run : {l : List ℕ} → NoEnd l → (t : List ℕ) → line_length (l ++ t) ≡ length l + line_length t
line_run none t = sym (zero-add _)
line_run (more {x} {xs} a b n) t = omega (arith, line_octet x (xs ++ t) a, line_run n t)

pub unended : (l : List ℕ) → Clean l → NoEnd l
unended l c = no_end (good_chars (allowed false) l c.whole)

unled : (l t : List ℕ) → Clean l → (eqb (get_or (l ++ t) 0 0) 32 || eqb (get_or (l ++ t) 0 0) 9) ≡ false
unled [] t c = absurd (c.some refl)
unled (x ∷ xs) t c = rw (ne_eqb x 32 c.unspaced, ne_eqb x 9 c.untabbed)

lines_unled : (ls : List (List ℕ)) → Each Clean ls → (eqb (get_or (ended ls) 0 0) 32 || eqb (get_or (ended ls) 0 0) 9) ≡ false
unfolding ended Each
lines_unled [] c = refl
lines_unled (l ∷ ls) c = unled l (13 ∷ 10 ∷ ended ls) c.0

pub lines_again : (ls : List (List ℕ)) → Each Clean ls → raw_lines (ended ls) ≡ ls
unfolding ended Each
lines_again [] c = lines_end [] 0 (omega arith)
lines_again (l ∷ ls) c =
    let t : List ℕ = 13 ∷ 10 ∷ ended ls in
    let n : line_length (l ++ t) ≡ length l = line_run (unended l c.0) t ∙ ap (λ (k : ℕ). length l + k) (line_stop (ended ls) (lines_unled ls c.1)) ∙ omega arith in
    raw (l ++ t) (length l) (omega (arith, length-append l t)) n
    ∙ ap (λ (r : List ℕ). r ∷ raw_lines (drop (length l + 2) (l ++ t))) (take-append_seam l t)
    ∙ ap (λ (r : List ℕ). l ∷ raw_lines r) (drop-append-add l t 2)
    ∙ ap (λ (r : List (List ℕ)). l ∷ r) (lines_again ls c.1)

-- the copy's lines are the logical lines
pub copy_lines : (ed : Edition) (i : List ℕ) (k n : ℕ) → judge_in ed i ≡ Accepted k n → raw_lines (copy_of i) ≡ logical_lines i
unfolding copy_of
copy_lines ed i k n e = lines_again (logical_lines i) (lines_clean ed i k n e)

-- no fold starts in a line, nor at its end
line_flat : {l : List ℕ} → NoEnd l → (t : List ℕ) → ((k : ℕ) → fold_at (drop k t) ≡ false) → (k : ℕ) → fold_at (drop k (l ++ t)) ≡ false
line_flat none t f k = f k
line_flat (more {x} {xs} a b n) t f zero = no_fold x (xs ++ t) a
line_flat (more {x} {xs} a b n) t f (suc k) = line_flat n t f k

end_flat : (t : List ℕ) → (eqb (get_or t 0 0) 32 || eqb (get_or t 0 0) 9) ≡ false → ((k : ℕ) → fold_at (drop k t) ≡ false)
    → (k : ℕ) → fold_at (drop k (13 ∷ 10 ∷ t)) ≡ false
unfolding fold_at
end_flat t u f zero = simp u
end_flat t u f (suc zero) = no_fold 10 t (λ e. omega arith)
end_flat t u f (suc (suc k)) = f k

lines_flat : (ls : List (List ℕ)) → Each Clean ls → (k : ℕ) → fold_at (drop k (ended ls)) ≡ false
unfolding ended Each fold_at
lines_flat [] c zero = refl
lines_flat [] c (suc k) = refl
lines_flat (l ∷ ls) c k =
    line_flat (unended l c.0) (13 ∷ 10 ∷ ended ls) (end_flat (ended ls) (lines_unled ls c.1) (lines_flat ls c.1)) k

-- no fold is left in the copy
pub copy_flat : (ed : Edition) (i : List ℕ) (k n : ℕ) → judge_in ed i ≡ Accepted k n → (m : ℕ) → fold_at (drop m (copy_of i)) ≡ false
unfolding copy_of
copy_flat ed i k n e = lines_flat (logical_lines i) (lines_clean ed i k n e)

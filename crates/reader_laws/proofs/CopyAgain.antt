-- The copy of an accepted input, read again: the same lines, verdict, copy and records. Assumes nothing.
use mathlib.Core.Path.{◌≡◌, refl, sym, ap, ◌∙◌}
use mathlib.Core.Bool.{true}
use mathlib.Core.List.{List, [], ◌∷◌, ◌++◌, map}
use Prim.Native.Nat.{ℕ, ◌+◌, ◌≤◌}
use native.Mathlib.Nat.{zero-add}
use native.Mathlib.Omega.{arith}
use lib.ListN.{length, length-append}
use borrow.Author.Tests.{ne_eqb}
use Rattle.property_table.specs.declared.Edition.{Edition}
use Rattle.octets.specs.Scan.{scan, gather}
use Rattle.utf8.proofs.Chains.{NoEnd, none, more}
use Rattle.line_folds.specs.Folds.{line_length, unfolded}
use Rattle.line_breaks.specs.Lone.{lone_step, first_lone, ends_cr_lf}
use Rattle.line_folds.proofs.FoldLaws.{unfold_shorter}
use Rattle.line_parser.specs.Grammar.{Each}
use Rattle.reader.specs.Outcome.{judge_in, ended, copy_of, records_in}
use Rattle.line_folds.specs.Logical.{logical_lines}
use Rattle.reader.specs.Outcome.{Accepted}
use Rattle.reader.proofs.AcceptLaws.{accepting}
use Rattle.reader.proofs.CopyUnfolds.{ends_append, kept_octet, raw, copy_unfolds}
use Rattle.reader.proofs.LinesAgain.{Clean, unended, lines_clean, copy_lines}
use Rattle.reader_laws.proofs.SameLines.{same_lines, same_copy, same_records}

-- lines without CR and LF
kept_run : {l : List ℕ} → NoEnd l → unfolded l ≡ l
unfolding unfolded gather
kept_run none = refl
kept_run (more {x} {xs} a b n) = kept_octet x xs a ∙ ap (λ (r : List ℕ). x ∷ r) (kept_run n)

pub lone_run : {l : List ℕ} → NoEnd l → (t : List ℕ) → scan lone_step (l ++ t) 0 ≡ length l + scan lone_step t 0
unfolding scan lone_step
lone_run none t = sym (zero-add _)
lone_run (more {x} {xs} a b n) t = simp (ne_eqb x 10 b, ne_eqb x 13 a) (omega (arith, lone_run n t))

kept_again : (ls : List (List ℕ)) → Each Clean ls → map unfolded ls ≡ ls
unfolding Each
kept_again [] c = refl
kept_again (l ∷ ls) c =
    ap (λ (r : List ℕ). r ∷ map unfolded ls) (kept_run (unended l c.0)) ∙ ap (λ (r : List (List ℕ)). l ∷ r) (kept_again ls c.1)

unlone : (ls : List (List ℕ)) → Each Clean ls → scan lone_step (ended ls) 0 ≡ length (ended ls)
unfolding ended Each scan lone_step
unlone [] c = refl
unlone (l ∷ ls) c =
    omega (arith, lone_run (unended l c.0) (13 ∷ 10 ∷ ended ls), unlone ls c.1, length-append l (13 ∷ 10 ∷ ended ls))

ends_again : (l : List ℕ) (ls : List (List ℕ)) → ends_cr_lf (ended (l ∷ ls)) ≡ true
unfolding ended ends_cr_lf
ends_again l [] = ends_append l (13 ∷ 10 ∷ []) (omega arith)
ends_again l (m ∷ ls) =
    let r = m ++ (13 ∷ 10 ∷ ended ls) in
    let h : 2 ≤ length r = omega (arith, length-append m (13 ∷ 10 ∷ ended ls)) in
    ends_append l (13 ∷ 10 ∷ r) (omega arith) ∙ ends_append (13 ∷ 10 ∷ []) r h ∙ ends_again m ls

pub ends_lines : (ls : List (List ℕ)) → (length ls ≡ 0 → ⊥) → ends_cr_lf (ended ls) ≡ true
ends_lines [] h = absurd (h refl)
ends_lines (l ∷ ls) h = ends_again l ls

pub lines_some : (i : List ℕ) → (length i ≡ 0 → ⊥) → length (logical_lines i) ≡ 0 → ⊥
unfolding logical_lines
lines_some i h e =
    let z = ap (λ (ls : List (List ℕ)). length (map unfolded ls)) (raw i (line_length i) (omega arith) refl) in
    omega arith

-- Read again, the copy of an accepted input has the same lines, and so the same verdict, copy and records.
module _ (ed : Edition) (i : List ℕ) (k n : ℕ) (e : judge_in ed i ≡ Accepted k n) where
  pub lines_same : logical_lines (copy_of i) ≡ logical_lines i
  unfolding logical_lines
  lines_same = ap (map unfolded) (copy_lines ed i k n e) ∙ kept_again (logical_lines i) (lines_clean ed i k n e)

  pub copy_shorter : length (copy_of i) ≤ length i
  copy_shorter =
      let a = accepting ed i k n e in
      rw (copy_unfolds i a.unlone a.ends) (unfold_shorter i)

  pub judged_again : judge_in ed (copy_of i) ≡ judge_in ed i
  unfolding copy_of first_lone
  judged_again =
      let a = accepting ed i k n e in
      let c = lines_clean ed i k n e in
      same_lines ed i (copy_of i) k n e lines_same (omega (arith, copy_shorter, a.short)) (unlone (logical_lines i) c)
      (ends_lines (logical_lines i) (lines_some i a.some))

  pub copied_again : copy_of (copy_of i) ≡ copy_of i
  copied_again = same_copy i (copy_of i) lines_same

  pub recorded_again : records_in ed (copy_of i) ≡ records_in ed i
  recorded_again = same_records ed i (copy_of i) lines_same

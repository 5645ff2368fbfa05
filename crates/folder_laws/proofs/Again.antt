-- Folded text passes 3 and 4; and what was written as read, read again, is as the input. Assumes nothing.
use mathlib.Core.Path.{◌≡◌, sym, ap, ◌∙◌}
use mathlib.Core.Bool.{true}
use mathlib.Core.List.{List, [], ◌∷◌, map}
use Prim.Native.Nat.{ℕ, ◌≤◌}
use native.Mathlib.Omega.{arith}
use lib.ListN.{length, take, length-append}
use Rattle.octets.specs.Scan.{scan}
use Rattle.octets.specs.Room.{filled}
use Rattle.octets.specs.Room.{Wrote}
use Rattle.utf8.proofs.Chains.{no_end}
use Rattle.line_breaks.specs.Lone.{lone_step, first_lone, ends_cr_lf}
use Rattle.reader.specs.Outcome.{judge_in, ended, copy_of, records_in, write_outcome, outcome_by, read_in}
use Rattle.line_folds.specs.Logical.{logical_lines}
use Rattle.reader.specs.Outcome.{Verdict}
use Rattle.reader.specs.Outcome.{Accepted}
use Rattle.reader.proofs.AcceptLaws.{accepting}
use Rattle.reader_laws.proofs.SameLines.{same_lines, same_copy, same_records}
use Rattle.reader_laws.proofs.CopyAgain.{lone_run, ends_lines, lines_some}
use Rattle.folder_line.specs.Pieces.{folded_lines, Clean, All}
use Rattle.folder.specs.Outcome.{fold_in}
use Rattle.folder_raising.specs.Walk.{written}
use Rattle.folder_raising.specs.declared.Style.TheVariants.{AsRead}
use Rattle.folder_line.proofs.Turns.{clean_chars}
use Rattle.folder.proofs.Accepted.{accepted}
use Rattle.folder_laws.proofs.PhysicalLaws.{physical_of, lines_ended, clean_lines}
use Rattle.folder_laws.proofs.StyleLaws.{as_read}
use Rattle.folder_laws.proofs.WrittenLaws.{InRoom, wrote, wrote_accepted, form, fold_lines}
use Rattle.property_table.specs.declared.Edition.{Edition}

-- folded text passes 3 and 4
unlone : (ps : List (List ℕ)) → All Clean ps → first_lone (ended ps) ≡ length (ended ps)
unfolding first_lone ended All scan lone_step
unlone [] c = omega arith
unlone (p ∷ ps) c =
    omega (arith, lone_run (no_end (clean_chars p c.0)) (13 ∷ 10 ∷ ended ps), unlone ps c.1, length-append p (13 ∷ 10 ∷ ended ps))

physical_some : (ls : List (List ℕ)) → (length ls ≡ 0 → ⊥) → length (physical_of ls) ≡ 0 → ⊥
unfolding physical_of
physical_some [] h e = h e
physical_some (l ∷ ls) h e = omega arith

module _ (ls : List (List ℕ)) where
  pub folded_unlone : All Clean ls → first_lone (folded_lines ls) ≡ length (folded_lines ls)
  folded_unlone c = rw (lines_ended ls) (unlone (physical_of ls) (clean_lines ls c))

  pub folded_ends : (length ls ≡ 0 → ⊥) → ends_cr_lf (folded_lines ls) ≡ true
  folded_ends h = rw (lines_ended ls) (ends_lines (physical_of ls) (physical_some ls h))

-- As read: what was written is accepted as the input is, and has its lines.
module _ (ed : Edition) (i room after : List ℕ) (n : ℕ) (e : filled (Wrote n) after ≡ fold_in ed AsRead i room) where
  lines_kept : logical_lines (take n after) ≡ logical_lines i
  lines_kept = fold_lines AsRead (form ed AsRead i room after n e) ∙ as_read (logical_lines i)

  kept : {A : Type 0} → ((k m : ℕ) → judge_in ed i ≡ Accepted k m → judge_in ed (take n after) ≡ Accepted k m → A) → A
  unfolding fold_in
  kept f =
      wrote_accepted AsRead (judge_in ed i) i room after n e
      (λ k m a w. f k m a (judged k m a (wrote (folded_lines (map (written AsRead) (logical_lines i))) room after n w) ∙ a))
    where
      judged : (k m : ℕ) → judge_in ed i ≡ Accepted k m → InRoom (folded_lines (map (written AsRead) (logical_lines i))) room after n → judge_in ed (take n after) ≡ judge_in ed i
      judged k m a p =
          let c = (accepted ed i k m a).0 in
          let q = ap folded_lines (as_read (logical_lines i)) in
          let s : length (folded_lines (logical_lines i)) ≤ 16384 = omega (arith, p.count, p.bound, ap length q) in
          let t = p.written ∙ q in
          same_lines ed i (take n after) k m a lines_kept (rw t s) (rw t (folded_unlone (logical_lines i) c))
          (rw t (folded_ends (logical_lines i) (lines_some i (accepting ed i k m a).some)))

  -- Read again, it gives the same counts, copy and records, whatever the rooms.
  pub read_again : (copy records : List ℕ) → read_in ed (take n after) copy records ≡ read_in ed i copy records
  unfolding read_in outcome_by
  read_again copy records =
      kept (λ k m a b.
      ap (λ (v : Verdict). outcome_by ed v (take n after) copy records) b
      ∙ ap (λ (xs : List ℕ). write_outcome (Accepted k m) xs (records_in ed (take n after)) copy records) (same_copy i (take n after) lines_kept)
      ∙ ap (λ (rs : List ℕ). write_outcome (Accepted k m) (copy_of i) rs copy records) (same_records ed i (take n after) lines_kept)
      ∙ sym (ap (λ (v : Verdict). outcome_by ed v i copy records) a))

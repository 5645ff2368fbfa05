-- The outcomes of reading, by what was judged and measured. Assumes nothing.
use mathlib.Core.Path.{◌≡◌, sym, ap, ◌∙◌}
use mathlib.Core.Bool.{false}
use mathlib.Core.List.{List, map}
use Prim.Native.Nat.{ℕ, ◌*◌, ◌<◌, ◌≤◌}
use native.Mathlib.Omega.{arith}
use lib.ListN.{length, drop, length-map}
use borrow.Author.Tests.{lt-ltb, le-ltb}
use Rattle.octets.specs.Room.{overlay}
use Rattle.property_table.specs.declared.Edition.{Edition}
use Rattle.line_folds.specs.Folds.{fold_at, unfolded}
use Rattle.line_folds.specs.Logical.{raw_lines, logical_lines}
use Rattle.reader_records.specs.Records.{records_from}
use Rattle.reader.specs.Outcome.{judge_in, copy_of, records_in, took, write_outcome, outcome_by, read_in}
use Rattle.reader.specs.Outcome.{Verdict}
use Rattle.reader.specs.Outcome.{Accepted, Refused}
use Rattle.reader.proofs.AcceptLaws.{accepting, lines_counted}
use Rattle.reader.proofs.CopyUnfolds.{copy_unfolds}
use Rattle.reader.proofs.LinesAgain.{copy_lines, copy_flat}
use Rattle.reader_records.proofs.RecordLaws.{records_length}

module _ (ed : Edition) (i : List ℕ) (k n : ℕ) (e : judge_in ed i ≡ Accepted k n) where
  -- the copy is the input without its folds, and its lines are the logical lines
  pub copied : unfolded i ≡ copy_of i
  copied = let a = accepting ed i k n e in sym (copy_unfolds i a.unlone a.ends)

  pub flat : (m : ℕ) → fold_at (drop m (unfolded i)) ≡ false
  flat m = ap (λ (l : List ℕ). fold_at (drop m l)) copied ∙ copy_flat ed i k n e m

  pub recorded : records_from ed 0 (raw_lines (unfolded i)) ≡ records_in ed i
  unfolding records_in
  recorded = ap (λ (l : List ℕ). records_from ed 0 (raw_lines l)) copied ∙ ap (records_from ed 0) (copy_lines ed i k n e)

module _ (ed : Edition) (i copy records : List ℕ) where
  read_by : (v : Verdict) → judge_in ed i ≡ v → read_in ed i copy records ≡ outcome_by ed v i copy records
  unfolding read_in
  read_by v e = ap (λ (a : Verdict). outcome_by ed a i copy records) e

  -- a refused input
  pub read_refused : (v : Verdict) (n p : ℕ) → v ≡ judge_in ed i → v ≡ Refused n p → took v copy records ≡ read_in ed i copy records
  unfolding outcome_by
  read_refused v n p e q = ap (λ (a : Verdict). took a copy records) q ∙ sym (read_by (Refused n p) (sym e ∙ q))

  module _ (k n m : ℕ) (e : judge_in ed i ≡ Accepted k n) (hm : m ≡ length (copy_of i)) where
    pub numbers_counted : length (records_in ed i) ≡ n * 8
    unfolding records_in logical_lines
    numbers_counted = records_length ed 0 (map unfolded (raw_lines i)) ∙ ap (λ (x : ℕ). x * 8) (length-map (raw_lines i) unfolded ∙ sym (lines_counted ed i k n e))

    by_size : read_in ed i copy records ≡ write_outcome (Accepted k n) (copy_of i) (records_in ed i) copy records
    unfolding outcome_by
    by_size = read_by (Accepted k n) e

    pub read_13 : length copy < m → took (Refused 13 m) copy records ≡ read_in ed i copy records
    unfolding write_outcome
    read_13 h = sym (by_size ∙ simp (sym hm, lt-ltb (length copy) m h))

    pub read_14 : m ≤ length copy → length records < n * 8 → took (Refused 14 (n * 8)) copy records ≡ read_in ed i copy records
    unfolding write_outcome
    read_14 h g = sym (by_size ∙ simp (sym hm, le-ltb (length copy) m h, numbers_counted, lt-ltb (length records) (n * 8) g))

    pub read_written : m ≤ length copy → n * 8 ≤ length records
        → (c r : List ℕ) → c ≡ overlay (copy_of i) copy → r ≡ overlay (records_in ed i) records → took (Accepted k n) c r ≡ read_in ed i copy records
    unfolding write_outcome
    read_written h g c r p q =
        ap (λ (x : List ℕ). took (Accepted k n) x r) p
        ∙ ap (λ (x : List ℕ). took (Accepted k n) (overlay (copy_of i) copy) x) q
        ∙ sym (by_size ∙ simp (le-ltb (length copy) (length (copy_of i)) (omega arith), le-ltb (length records) (length (records_in ed i)) (rw numbers_counted g)))

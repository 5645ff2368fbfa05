-- The records, line by line. Assumes nothing.
use mathlib.Core.Path.{◌≡◌, refl, sym, ap, ◌∙◌}
use mathlib.Core.Bool.{Bool, true, false, not}
use mathlib.Core.List.{List, [], ◌∷◌, ◌++◌}
use Prim.Native.Nat.{ℕ, suc, ◌+◌, ◌-◌, ◌*◌, ◌<◌, ◌≤◌}
use native.Mathlib.Omega.{arith}
use lib.Dec.{eqb}
use lib.ListN.{length, take, drop, length-append}
use lib.Seq.{drop-drop}
use Rattle.octets.specs.Classes.{run, more}
use Rattle.octets.specs.Scan.{scan}
use Rattle.line_folds.specs.Folds.{fold_at, line_step, line_length, not_cr}
use Rattle.line_folds.specs.Logical.{raw_lines}
use Rattle.line_folds.proofs.SpanLaws.{lines_turn, part_length}
use Rattle.card_line.specs.Parts.{line_parts_of}
use Rattle.card_line.specs.Parts.{LineParts}
use Rattle.card_line.specs.Parts.{line as Line, fault as Fault}
use Rattle.reader_records.specs.Records.{record_by, record_of, records_from}
use Rattle.property_table.specs.declared.Edition.{Edition}

-- where no fold starts the line ends at its first CR
ends : (l : List ℕ) → ((k : ℕ) → fold_at (drop k l) ≡ false) → line_length l ≡ run not_cr l
unfolding line_length scan line_step run not_cr
ends [] f = refl
ends (x ∷ xs) f = by (eqb x 13) refl (ends xs (λ k. f (suc k)))
  where
    by : (t : Bool) → eqb x 13 ≡ t → scan line_step xs 0 ≡ run not_cr xs → scan line_step (x ∷ xs) 0 ≡ more (not t) (run not_cr xs)
    by true e h = simp (f 0, e)
    by false e h = simp (f 0, e) (ap suc h)

pub ends_at_cr : (s : List ℕ) (at e : ℕ) → ((k : ℕ) → fold_at (drop k s) ≡ false) → e ≡ at + run not_cr (drop at s) → e ≡ at + line_length (drop at s)
ends_at_cr s at e f q =
    q ∙ ap (λ (n : ℕ). at + n) (sym (ends (drop at s) (λ k. ap fold_at (drop-drop k at s) ∙ f (at + k))))

module _ (ed : Edition) where
  by_length : (w n : ℕ) (x : LineParts) → length (record_by w n x) ≡ 8
  unfolding record_by
  by_length w n (Line x) = refl
  by_length w n (Fault k) = refl

  -- a record has eight numbers
  pub record_length : (w : ℕ) (l : List ℕ) → length (record_of ed w l) ≡ 8
  unfolding record_of
  record_length w l = by_length w (length l) (line_parts_of ed l)

  pub records_length : (w : ℕ) (ls : List (List ℕ)) → length (records_from ed w ls) ≡ length ls * 8
  unfolding records_from
  records_length w [] = refl
  records_length w (l ∷ ls) =
      omega (
        arith,
        length-append (record_of ed w l) (records_from ed (w + length l + 2) ls),
        record_length w l,
        records_length (w + length l + 2) ls,
      )

  -- one turn: the line from `at` to e is the first of those that are left
  pub records_turn : (s : List ℕ) (at e : ℕ) → at < length s → e ≡ at + line_length (drop at s) → e ≤ length s
      → records_from ed at (raw_lines (drop at s)) ≡ record_of ed at (take (e - at) (drop at s)) ++ (records_from ed) (e + 2) (raw_lines (drop (e + 2) s))
  unfolding records_from
  records_turn s at e lt he le =
      let l : List ℕ = take (e - at) (drop at s) in
      let q : at + length l + 2 ≡ e + 2 = rw (part_length s at e lt he le) (omega arith) in
      ap (records_from ed at) (lines_turn s at e lt he le) ∙ ap (λ (n : ℕ). record_of ed at l ++ (records_from ed) n (raw_lines (drop (e + 2) s))) q

-- What the reader and the folder refuse. Assumes nothing.
use Prim.Native.Nat.{ℕ}
use mathlib.Core.Path.{◌≡◌, refl, sym, ap, ◌∙◌}
use mathlib.Core.List.{List, map}
use lib.Dec.{ltb}
use lib.ListN.{length}
use borrow.Author.Tests.{ltb-true, ltb-false}
use Rattle.octets.specs.Room.{refuse, fill_bounded}
use Rattle.octets.specs.Room.{Refused as Unwritten}
use Rattle.reader.specs.Outcome.{judge_in, copy_of, records_in, Taken, took, write_outcome, outcome_by, read_in}
use Rattle.reader.specs.Outcome.{Verdict}
use Rattle.reader.specs.Outcome.{Accepted, Refused}
use Rattle.reader.proofs.ReadLaws.{read_refused, numbers_counted, read_13, read_14}
use Rattle.folder_line.specs.Pieces.{folded_lines}
use Rattle.folder_style_laws.specs.Capitals.{styled}
use Rattle.folder_raising.specs.declared.Style.{Style}
use Rattle.folder_raising.proofs.Kept.{styled_lines}
use Rattle.folder.specs.Outcome.{fold_by, fold_in}
use Rattle.folder_style_laws.proofs.RereadLaws.{lines_styled}
use Rattle.line_parser.specs.Grammar.{render}
use Rattle.reader_grammar.specs.Inputs.{InputIn}
use Rattle.reader_grammar.specs.Refusals.{RefusedIn}
use Rattle.reader_grammar.proofs.Accepted.{lines_law, accepted_law}
use Rattle.reader_grammar.proofs.RecordLaws.{copy_law}
use Rattle.reader_grammar.proofs.Refused.{refused_law}
use Rattle.demands.specs.Demand1.{copied, folded, ReadBy, unread, copy_room, record_room, FoldBy, not_read, fold_over, fold_room}
use Rattle.demands.proofs.Refusing.{ByCase as Exactly, FillingByCase as Filling, clash, Telling, itself, first}
use Rattle.demands.proofs.Texts.{written_tells, bounded_told, over_so, short_so, within_so}
use Rattle.property_table.specs.declared.Edition.{Edition}

refusal_number : (m q n p : ℕ) → Refused m q ≡ Refused n p → m ≡ n
refusal_number m q n p e = cc

refusal_place : (m q n p : ℕ) → Refused m q ≡ Refused n p → q ≡ p
refusal_place m q n p e = cc

pub verdict_tells : Telling (λ (v : Verdict). v) Refused
verdict_tells = record { number = refusal_number; place = refusal_place }

pub accepted_no : {A : Type 0} (k m n p : ℕ) → Accepted k m ≡ Refused n p → A
accepted_no k m n p e = clash cc

module _ (ed : Edition) (i : List ℕ) where
  pub judge_exactly : Exactly (λ (v : Verdict). v) (judge_in ed i) Refused (RefusedIn ed i)
  judge_exactly = record { only = λ n p e. (refused_law ed i n p).0 e; unchanged = λ n p b. (refused_law ed i n p).1 b }

  -- ---- read

  module _ (copy records : List ℕ) where
    read_tells : Telling (λ (t : Taken). t.answer) (λ n p. took (Refused n p) copy records)
    read_tells = record { number = refusal_number; place = refusal_place }

    read_written : (k m n p : ℕ) → judge_in ed i ≡ Accepted k m → (write_outcome (Accepted k m) (copy_of i) (records_in ed i) copy records).answer ≡ Refused n p → ReadBy ed i copy records n p
    unfolding write_outcome
    read_written k m n p v e =
        let h = (accepted_law ed i k m).0 v in
        let c = copy_law ed i k m h in
        let r = numbers_counted ed i copy records k m (length (copy_of i)) v refl in
        first read_tells (ReadBy ed i copy records) (ltb (length copy) (length (copy_of i))) 13 (length (copy_of i)) n p _ e
        (λ a. rw c (copy_room h (rw c at (ltb-true (length copy) (length (copy_of i)) a)))) (λ a f.
        first read_tells (ReadBy ed i copy records) (ltb (length records) (length (records_in ed i))) 14 (length (records_in ed i)) n p _ f
        (λ b. rw r (record_room h (rw c at (ltb-false (length copy) (length (copy_of i)) a)) (rw r at (ltb-true (length records) (length (records_in ed i)) b))))
        (λ b g. accepted_no k m n p g))

    read_told : (n p : ℕ) → (read_in ed i copy records).answer ≡ Refused n p → ReadBy ed i copy records n p
    unfolding read_in outcome_by
    read_told n p e = go (judge_in ed i) refl e
      where
        go : (v : Verdict) → judge_in ed i ≡ v → (outcome_by ed v i copy records).answer ≡ Refused n p → ReadBy ed i copy records n p
        go (Accepted k m) v e = read_written k m n p v e
        go (Refused m q) v e = itself read_tells (ReadBy ed i copy records) m q n p e (unread ((refused_law ed i m q).0 v))

    read_so : (n p : ℕ) → ReadBy ed i copy records n p → read_in ed i copy records ≡ took (Refused n p) copy records
    read_so n p (unread b) = sym (read_refused ed i copy records (Refused n p) n p (sym ((refused_law ed i n p).1 b)) refl)
    read_so n p (copy_room {k} {n = m} h l) =
        sym (read_13 ed i copy records k m (length (copied h)) ((accepted_law ed i k m).1 h) (ap length (sym (copy_law ed i k m h))) l)
    read_so n p (record_room {k} {n = m} h c l) =
        sym (read_14 ed i copy records k m (length (copied h)) ((accepted_law ed i k m).1 h) (ap length (sym (copy_law ed i k m h))) c l)

    pub read_exactly : Exactly (λ (t : Taken). t.answer) (read_in ed i copy records) (λ n p. took (Refused n p) copy records) (ReadBy ed i copy records)
    read_exactly = record { only = read_told; unchanged = read_so }

  -- ---- fold

  module _ (s : Style) (out : List ℕ) where
    -- the folded form of an input's lines in the style
    abbrev form : {k m : ℕ} → InputIn ed i k m → List ℕ
    form h = folded_lines (map render (map (styled s) h.lines))

    pub fold_form : (k m : ℕ) (h : InputIn ed i k m) → fold_in ed s i out ≡ fill_bounded (form h) out
    unfolding fold_in fold_by
    fold_form k m h =
        rw ((accepted_law ed i k m).1 h, lines_law ed i k m h) (ap (λ (ls : List (List ℕ)). fill_bounded (folded_lines ls) out) (lines_styled s h.lines h.readable))

    -- which is as long as read
    pub form_length : (k m : ℕ) (h : InputIn ed i k m) → length (form h) ≡ length (folded h)
    form_length k m h =
        ap (λ (ls : List (List ℕ)). length (folded_lines ls)) (sym (lines_styled s h.lines h.readable)) ∙ styled_lines s (map render h.lines)

    fold_told : (n p : ℕ) → (fold_in ed s i out).answer ≡ Unwritten n p → FoldBy ed i out n p
    unfolding fold_in fold_by
    fold_told n p e = go (judge_in ed i) refl
      where
        go : (v : Verdict) → judge_in ed i ≡ v → FoldBy ed i out n p
        go (Refused m q) v =
            let w : Unwritten m q ≡ Unwritten n p = rw v at e in
            itself (written_tells out) (FoldBy ed i out) m q n p w (not_read ((refused_law ed i m q).0 v))
        go (Accepted k m) v =
            let h = (accepted_law ed i k m).0 v in
            let z = form_length k m h in
            bounded_told (FoldBy ed i out) (form h) out n p (rw (fold_form k m h) at e) (λ l. fold_over h (rw z at l))
            (λ a l. rw z (fold_room h (rw z at a) (rw z at l)))

    fold_so : (n p : ℕ) → FoldBy ed i out n p → fold_in ed s i out ≡ refuse n p out
    unfolding fold_in fold_by
    fold_so n p (not_read b) = rw ((refused_law ed i n p).1 b)
    fold_so n p (fold_over {k} {n = m} h l) = fold_form k m h ∙ over_so (form h) out (rw (form_length k m h) l)
    fold_so n p (fold_room {k} {n = m} h a l) =
        let z = form_length k m h in
        fold_form k m h ∙ within_so (form h) out (rw z a) ∙ short_so (form h) out (rw z l) ∙ ap (λ (x : ℕ). refuse 15 x out) z

    pub fold_exactly : Filling (fold_in ed s i out) out (FoldBy ed i out)
    fold_exactly = record { only = fold_told; unchanged = fold_so }

-- What folding has written in a style, read again and folded again. Assumes nothing.
use mathlib.Core.Path.{◌≡◌, refl, sym, ap, subst, ◌∙◌}
use mathlib.Core.Bool.{Bool, true, false}
use mathlib.Core.List.{List, [], ◌∷◌, ◌++◌, map, append_assoc}
use Prim.Native.Nat.{ℕ, ◌+◌}
use native.Mathlib.Omega.{arith}
use lib.Dec.{ltb}
use lib.ListN.{length, length-append, length-map}
use Rattle.octets.specs.Pick.{pick}
use Rattle.octets.specs.Room.{fill_bounded, overlay}
use Rattle.line_folds.specs.Logical.{logical_lines}
use Rattle.line_parser.specs.Grammar.{Line, Each, render}
use Rattle.reader_records.specs.Records.{record_of, records_from}
use Rattle.reader.specs.Outcome.{ended, copy_of, records_in, Taken, took, write_outcome, outcome_by, read_in}
use Rattle.reader.specs.Outcome.{Verdict}
use Rattle.reader.specs.Outcome.{Accepted, Refused}
use Rattle.reader_grammar.specs.Cards.{Readable, Cards}
use Rattle.reader_grammar.specs.Inputs.{Written, none, more, InputIn}
use Rattle.reader_grammar.proofs.Accepted.{accepted_law, lines_law}
use Rattle.reader_grammar.proofs.RecordLaws.{numbers}
use Rattle.folder_line.specs.Pieces.{pieces, joined, folded, folded_lines}
use Rattle.folder_style_laws.specs.Capitals.{raised_line, styled}
use Rattle.folder_raising.specs.Walk.{written}
use Rattle.folder_raising.specs.declared.Style.{Style}
use Rattle.folder_raising.specs.declared.Style.TheVariants.{AsRead, Raised}
use Rattle.folder.specs.Outcome.{fold_by, fold_in}
use Rattle.folder_laws.proofs.BackLaws.{whole_line}
use Rattle.folder_laws.proofs.StyleLaws.{as_read}
use Rattle.folder_laws.proofs.WrittenLaws.{Form, fold_lines}
use Rattle.folder_style_laws.proofs.ByParts.{raised_render}
use Rattle.folder_style_laws.proofs.NameLaws.{row_raised, kind_raised, formed_raised, render_length, front_length}
use Rattle.folder_style_laws.proofs.CardLaws.{readable_raised, cards_raised}
use Rattle.folder_style_laws.proofs.TwiceLaws.{map_twice}
use Rattle.property_table.specs.declared.Edition.{Edition}

-- ---- lines in a style

readable_styled : (s : Style) (x : Line) → Readable x → Readable (styled s x)
readable_styled AsRead x r = r
readable_styled Raised x r = readable_raised x r

each_styled : (s : Style) (xs : List Line) → Each Readable xs → Each Readable (map (styled s) xs)
unfolding Each
each_styled s [] r = tt
each_styled s (x ∷ xs) r = (readable_styled s x r.0, each_styled s xs r.1)

lines_as_read : (xs : List Line) → map (styled AsRead) xs ≡ xs
lines_as_read [] = refl
lines_as_read (x ∷ xs) = ap (λ (ys : List Line). x ∷ ys) (lines_as_read xs)

cards_styled : (ed : Edition) (s : Style) {k : ℕ} {xs : List Line} → Cards ed k xs → Cards ed k (map (styled s) xs)
cards_styled ed AsRead {k} {xs} c = subst (Cards ed k) (sym (lines_as_read xs)) c
cards_styled ed Raised c = cards_raised ed c

pub line_styled : (s : Style) (x : Line) → Readable x → written s (render x) ≡ render (styled s x)
line_styled AsRead x r = refl
line_styled Raised x r = raised_render x r.formed

pub lines_styled : (s : Style) (xs : List Line) → Each Readable xs → map (written s) (map render xs) ≡ map render (map (styled s) xs)
unfolding Each
lines_styled s [] r = refl
lines_styled s (x ∷ xs) r =
    ap (λ (l : List ℕ). l ∷ map (written s) (map render xs)) (line_styled s x r.0) ∙ ap (λ (ls : List (List ℕ)). render (styled s x) ∷ ls) (lines_styled s xs r.1)

-- lines, each folded and ended, are written so
written_folded : (xs : List Line) → Written xs (folded_lines (map render xs))
unfolding folded_lines folded
written_folded [] = none
written_folded (x ∷ xs) =
    subst (Written (x ∷ xs)) (sym (append_assoc (joined (pieces (render x))) (13 ∷ 10 ∷ []) (folded_lines (map render xs))))
    (more (whole_line (render x)) (written_folded xs))

-- ---- records and copy

record_styled : (ed : Edition) (s : Style) (x : Line) → Readable x → (w : ℕ) → record_of ed w (render (styled s x)) ≡ record_of ed w (render x)
record_styled ed AsRead x r w = refl
record_styled ed Raised x r w =
    numbers ed (raised_line x) (formed_raised x r.formed) w
    ∙ rw (row_raised x ed, render_length x r.formed, length-map x.group, length-map x.name, length-map x.params, front_length x r.formed, kind_raised x ed) refl
    ∙ sym (numbers ed x r.formed w)

length_styled : (s : Style) (x : Line) → Readable x → length (render (styled s x)) ≡ length (render x)
length_styled AsRead x r = refl
length_styled Raised x r = render_length x r.formed

records_styled : (ed : Edition) (s : Style) (xs : List Line) → Each Readable xs → (w : ℕ) → records_from ed w (map render (map (styled s) xs)) ≡ records_from ed w (map render xs)
unfolding Each records_from
records_styled ed s [] r w = refl
records_styled ed s (x ∷ xs) r w =
    ap (λ (a : List ℕ). a ++ records_from ed (w + length (render (styled s x)) + 2) (map render (map (styled s) xs))) (record_styled ed s x r.0 w)
    ∙ ap (λ (n : ℕ). record_of ed w (render x) ++ records_from ed (w + n + 2) (map render (map (styled s) xs))) (length_styled s x r.0)
    ∙ ap (λ (a : List ℕ). record_of ed w (render x) ++ a) (records_styled ed s xs r.1 (w + length (render x) + 2))

copy_styled : (s : Style) (xs : List Line) → Each Readable xs → length (ended (map render (map (styled s) xs))) ≡ length (ended (map render xs))
unfolding Each ended
copy_styled s [] r = refl
copy_styled s (x ∷ xs) r =
    let a = ended (map render (map (styled s) xs)) in
    let b = ended (map render xs) in
    omega (arith, length-append (render (styled s x)) (13 ∷ 10 ∷ a), length-append (render x) (13 ∷ 10 ∷ b), length_styled s x r.0, copy_styled s xs r.1)

-- what two copies of one length have written, but for the copy
record Alike (a b : Taken) : Type 0 where
  answer : a.answer ≡ b.answer
  records : a.records ≡ b.records

writes_alike : (v : Verdict) (xs ys rs copy records : List ℕ) → length xs ≡ length ys → Alike (write_outcome v xs rs copy records) (write_outcome v ys rs copy records)
unfolding write_outcome
writes_alike v xs ys rs copy records e = rw e (go _ _ (ltb (length copy) (length ys)) (ltb (length records) (length rs)))
  where
    go : (c d : List ℕ) (p q : Bool)
        → Alike
        (pick p (took (Refused 13 (length ys)) copy records) (pick q (took (Refused 14 (length rs)) copy records) (took v c (overlay rs records))))
        (pick p (took (Refused 13 (length ys)) copy records) (pick q (took (Refused 14 (length rs)) copy records) (took v d (overlay rs records))))
    go c d true q = record { answer = refl; records = refl }
    go c d false true = record { answer = refl; records = refl }
    go c d false false = record { answer = refl; records = refl }

-- ---- what was written

module _ (ed : Edition) (s : Style) (i t : List ℕ) (k m : ℕ) (h : InputIn ed i k m) (f : Form s i t) where
  octets : t ≡ folded_lines (map render (map (styled s) h.lines))
  octets =
      f.octets ∙ ap (λ (ls : List (List ℕ)). folded_lines (map (written s) ls)) (lines_law ed i k m h)
      ∙ ap folded_lines (lines_styled s h.lines h.readable)

  -- It is as many cards, whose lines are those of the input in the style.
  pub again : InputIn ed t k m
  again =
      record {
        short = f.short;
        lines = map (styled s) h.lines;
        written = subst (Written (map (styled s) h.lines)) (sym octets) (written_folded (map (styled s) h.lines));
        readable = each_styled s h.lines h.readable;
        cards = cards_styled ed s h.cards;
        some = h.some;
        count = h.count ∙ sym (length-map h.lines (styled s));
      }

  pub again_lines : again.lines ≡ map (styled s) h.lines
  unfolding again
  again_lines = refl

  records_same : records_in ed t ≡ records_in ed i
  unfolding records_in
  records_same = ap (records_from ed 0) (lines_law ed t k m again ∙ ap (map render) again_lines) ∙ records_styled ed s h.lines h.readable 0 ∙ ap (records_from ed 0) (sym (lines_law ed i k m h))

  copy_length : length (copy_of t) ≡ length (copy_of i)
  unfolding copy_of
  copy_length =
      ap (λ (ls : List (List ℕ)). length (ended ls)) (lines_law ed t k m again ∙ ap (map render) again_lines) ∙ copy_styled s h.lines h.readable
      ∙ ap (λ (ls : List (List ℕ)). length (ended ls)) (sym (lines_law ed i k m h))

  alike : (copy records : List ℕ) → Alike (read_in ed t copy records) (read_in ed i copy records)
  unfolding read_in outcome_by
  alike copy records =
      rw ((accepted_law ed t k m).1 again, (accepted_law ed i k m).1 h, records_same)
      (writes_alike (Accepted k m) (copy_of t) (copy_of i) (records_in ed i) copy records copy_length)

  -- Read again, it gives the same answer and the same records, whatever the rooms.
  pub again_answer : (copy records : List ℕ) → (read_in ed t copy records).answer ≡ (read_in ed i copy records).answer
  again_answer copy records = (alike copy records).answer

  pub again_records : (copy records : List ℕ) → (read_in ed t copy records).records ≡ (read_in ed i copy records).records
  again_records copy records = (alike copy records).records

  -- Folded again in the same style, or as read, it gives what the input gives in the style, whatever the room.
  folded_in : (r : Style) (room : List ℕ) → fold_in ed r t room ≡ fill_bounded (folded_lines (map (written r) (logical_lines t))) room
  unfolding fold_in fold_by
  folded_in r room = ap (λ (v : Verdict). fold_by r v t room) ((accepted_law ed t k m).1 again)

  given : (room : List ℕ) → fill_bounded (folded_lines (map (written s) (logical_lines i))) room ≡ fold_in ed s i room
  unfolding fold_in fold_by
  given room = sym (ap (λ (v : Verdict). fold_by s v i room) ((accepted_law ed i k m).1 h))

  pub fold_again : (room : List ℕ) → fold_in ed s t room ≡ fold_in ed s i room
  fold_again room =
      folded_in s room
      ∙ ap (λ (ls : List (List ℕ)). fill_bounded (folded_lines ls) room) (ap (map (written s)) (fold_lines s f) ∙ map_twice s (logical_lines i))
      ∙ given room

  pub fold_as_read : (room : List ℕ) → fold_in ed AsRead t room ≡ fold_in ed s i room
  fold_as_read room =
      folded_in AsRead room
      ∙ ap (λ (ls : List (List ℕ)). fill_bounded (folded_lines ls) room) (as_read (logical_lines t) ∙ fold_lines s f)
      ∙ given room

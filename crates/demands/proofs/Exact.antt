-- Demand 2, whole. Assumes nothing.
use Prim.Native.Nat.{ℕ, ◌*◌, ◌≤◌}
use mathlib.Core.Path.{◌≡◌, refl, sym, ap, subst, ◌∙◌}
use mathlib.Core.Bool.{Bool, true, false}
use mathlib.Core.List.{List, [], ◌∷◌, map}
use mathlib.Core.Logic.{◌↔◌}
use native.Mathlib.Omega.{arith}
use lib.Dec.{ltb}
use lib.ListN.{length, take, drop, length-append}
use lib.Seq.{take_at, drop_at}
use borrow.Author.Tests.{ltb-true, ltb-false, le-ltb}
use Rattle.octets.specs.Pick.{pick}
use Rattle.utf8.specs.Characters.{allowed, first_bad}
use Rattle.octets.specs.Room.{Filled, filled, refuse, overlay, fill, fill_bounded}
use Rattle.octets.specs.Room.{Wrote}
use Rattle.text_escaping.specs.Escaped.{escaped}
use Rattle.text_unescaping.specs.Unescaped.{first_fault, unescaped}
use Rattle.text.specs.Outcomes.{checked, faultless, escape_outcome, unescape_outcome}
use Rattle.text_laws.specs.Stands.{Stands, none, itself, escape}
use Rattle.text_laws.proofs.StandsLaws.{stands_exactly}
use Rattle.text_laws.proofs.BackLaws.{round_trip}
use Rattle.line_parser.specs.Grammar.{Line, Each, render}
use Rattle.reader.specs.Outcome.{judge_in, judge_of, copy_of, records_in, Taken, took, read_in}
use Rattle.reader.specs.Outcome.{Verdict}
use Rattle.reader.specs.Outcome.{Accepted, Refused}
use Rattle.reader.proofs.AcceptLaws.{lines_few, lines_counted}
use Rattle.reader.proofs.ReadLaws.{read_refused, numbers_counted, read_written, read_13, read_14}
use Rattle.folder_line.specs.Pieces.{pieces, joined, folded_lines}
use Rattle.folder_raising.specs.Walk.{written as in-style}
use Rattle.folder_raising.specs.declared.Style.{Style}
use Rattle.folder_raising.specs.declared.Style.TheVariants.{AsRead, Raised}
use Rattle.folder_raising.proofs.CleanLaws.{clean_written, pieces_written}
use Rattle.folder.specs.Outcome.{fold_in, fold_outcome}
use Rattle.folder_laws.specs.Cuttings.{Cutting}
use Rattle.folder_laws.specs.Foldings.{Billed}
use Rattle.folder_laws.specs.Physical.{physical as physical_lines}
use Rattle.folder_laws.proofs.CuttingLaws.{cutting_law}
use Rattle.folder_laws.proofs.Shortest.{least_lines}
use Rattle.folder_laws.proofs.Fewest.{our_lines}
use Rattle.folder_laws.proofs.Equal.{equal as equal-octets, fewest_written}
use Rattle.line_folds.specs.Logical.{logical_lines}
use Rattle.line_laws.specs.Lined.{Lined}
use Rattle.line_laws.proofs.LinedLaws.{lined_only}
use Rattle.folder_laws.specs.Written.{Folds}
use Rattle.folder_laws.proofs.WrittenLaws.{wrote as written, wrote_accepted, form, fold_written}
use Rattle.folder_laws.proofs.Again.{read_again}
use Rattle.folder_style_laws.proofs.CardLaws.{line_clean}
use Rattle.folder_style_laws.proofs.RereadLaws.{line_styled, lines_styled, again, again_lines, again_answer, again_records, fold_again, fold_as_read}
use Rattle.firmware.specs.Word.{word_outcome}
use Rattle.reader_grammar.specs.Cards.{Readable, card, Cards, none as no_cards, more}
use Rattle.reader_grammar.specs.Inputs.{InputIn, InputOf}
use Rattle.reader_grammar.proofs.Accepted.{accepted_law, lines_law, one_reading}
use Rattle.reader_grammar.proofs.RecordLaws.{copy_law, records_law}
use Rattle.demands.specs.Demand1.{copied, Fair}
use Rattle.report.specs.Text.{report_text}
use Rattle.desk_ledger.specs.Answers.{counts, told, verdict, wrote as written_as}
use Rattle.desk_ledger.proofs.AnswerLaws.{verdict_counts, wrote_told}
use Rattle.demands.specs.Demand2.{Roomy, ReadAs, Writes, lines_in, ReadAgain, Shortest, Demand2}
use Rattle.demands.proofs.Texts.{wrote_no, checked_fair, within_so, fault_le}
use Rattle.demands.proofs.Cards.{accepted_no, fold_form, form_length}
use Rattle.property_table.specs.declared.Edition.{Edition}
use Rattle.property_table.specs.declared.Edition.TheVariants.{First}

-- ---- read

module _ (ed : Edition) (i copy records : List ℕ) (k n : ℕ) where
  read_so : (h : InputIn ed i k n) → Roomy h copy records → read_in ed i copy records ≡ took (Accepted k n) (overlay (copy_of i) copy) (overlay (records_in ed i) records)
  read_so h r =
      sym (read_written ed i copy records k n (length (copy_of i)) ((accepted_law ed i k n).1 h) refl (rw (copy_law ed i k n h) r.octets) r.numbers _ _ refl refl)

  reads : (h : InputIn ed i k n) → Roomy h copy records → ReadAs h copy records (read_in ed i copy records)
  reads h r =
      let e = (accepted_law ed i k n).1 h in
      let c = copy_law ed i k n h in
      let m = numbers_counted ed i copy records k n (length (copy_of i)) e refl in
      rw (read_so h r)
      (record {
        counts = refl;
        copies = ap (λ (xs : List ℕ). overlay xs copy) c;
        tells = rw (take_at (records_in ed i) (drop (length (records_in ed i)) records) (n * 8) m) (records_law ed i k n h (drop (length (copy_of i)) copy));
        past = drop_at (records_in ed i) (drop (length (records_in ed i)) records) (n * 8) m ∙ ap (λ (x : ℕ). drop x records) m;
      })

  only : (read_in ed i copy records).answer ≡ Accepted k n → (h : InputIn ed i k n) × Roomy h copy records
  only e = go (judge_in ed i) refl
    where
      never : {A : Type 0} (m q : ℕ) → took (Refused m q) copy records ≡ read_in ed i copy records → A
      never m q f = accepted_no k n m q (sym e ∙ ap (λ (t : Taken). t.answer) (sym f))

      fits : (l m : ℕ) → judge_in ed i ≡ Accepted l m → (a : Bool) → ltb (length copy) (length (copy_of i)) ≡ a → (b : Bool) → ltb (length records) (m * 8) ≡ b
          → (h : InputIn ed i k n) × Roomy h copy records
      fits l m v true a b c = never 13 (length (copy_of i)) (read_13 ed i copy records l m (length (copy_of i)) v refl (ltb-true (length copy) (length (copy_of i)) a))
      fits l m v false a true c =
          never 14 (m * 8)
          (read_14 ed i copy records l m (length (copy_of i)) v refl (ltb-false (length copy) (length (copy_of i)) a) (ltb-true (length records) (m * 8) c))
      fits l m v false a false c =
          let p = ltb-false (length copy) (length (copy_of i)) a in
          let q = ltb-false (length records) (m * 8) c in
          let w : Accepted l m ≡ Accepted k n = ap (λ (t : Taken). t.answer) (read_written ed i copy records l m (length (copy_of i)) v refl p q _ _ refl refl) ∙ e in
          let x : m ≡ n = cc in
          let h = (accepted_law ed i k n).0 (v ∙ w) in
          (h, record { octets = rw (copy_law ed i k n h) at p; numbers = rw x at q })

      go : (v : Verdict) → judge_in ed i ≡ v → (h : InputIn ed i k n) × Roomy h copy records
      go (Refused m q) v = never m q (read_refused ed i copy records (Refused m q) m q (sym v) refl)
      go (Accepted l m) v = fits l m v (ltb (length copy) (length (copy_of i))) refl (ltb (length records) (m * 8)) refl

-- ---- fold

-- xs stand at the start of the room, which is as it was past them
abbrev pub wrote : List ℕ → List ℕ → Filled
wrote xs room = filled (Wrote (length xs)) (overlay xs room)

pub fill_so : (xs out : List ℕ) → length xs ≤ length out → fill xs out ≡ wrote xs out
unfolding fill
fill_so xs out h = rw (le-ltb (length out) (length xs) h)

pub bounded_so : (xs out : List ℕ) → length xs ≤ 16384 → length xs ≤ length out → fill_bounded xs out ≡ wrote xs out
bounded_so xs out s h = within_so xs out s ∙ fill_so xs out h

greedy : (x : Line) → Readable x → (p : List ℕ) (ps : List (List ℕ)) → Cutting (render x) p ps ↔ (p ∷ ps ≡ pieces (render x))
greedy x r p ps = cutting_law (render x) p ps (line_clean x r)

-- no folding of a line is shorter
shortest : (s : Style) (xs : List Line) → Each Readable xs → Each (Shortest s) xs
unfolding Each
shortest s [] r = tt
shortest s (x ∷ xs) r =
    let c = line_clean x r.0 in
    let l = in-style s (render x) in
    let e = line_styled s x r.0 in
    let n : length (physical_lines (joined (pieces l))) ≡ length (pieces (render x)) = our_lines l (clean_written s (render x) c) ∙ pieces_written s (render x) in
    (λ t f. omega (arith, rw e at n, least_lines (render x) t c f), shortest s xs r.1)

-- ---- text

escapes : (t out : List ℕ) → Fair true t → length (escaped t) ≤ 16384 → length (escaped t) ≤ length out → escape_outcome t out ≡ wrote (escaped t) out
unfolding escape_outcome
escapes t out f s h = checked_fair (allowed true) t out _ f ∙ bounded_so (escaped t) out s h

unescapes : (t u out : List ℕ) → Fair false t → Stands t u → length u ≤ length out → unescape_outcome t out ≡ wrote u out
unfolding unescape_outcome faultless
unescapes t u out f s h =
    let w = (stands_exactly t u).0 s in
    checked_fair (allowed false) t out _ f ∙ rw (le-ltb (first_fault t) (length t) (omega (arith, w.0)), w.1) (fill_so u out h)

-- ---- counts

-- a card has lines
cards_few : {k : ℕ} {xs : List Line} → Cards First k xs → k ≤ length xs
cards_few no_cards = omega arith
cards_few (more (card {xs = zs} b v x e) c) = simp length-append (omega (arith, cards_few c))

cards_low : (i : List ℕ) (k n : ℕ) → InputOf i k n → k ≤ 16384
cards_low i k n h = omega (arith, cards_few h.cards, h.count, lines_counted First i k n ((accepted_law First i k n).1 h), lines_few i, h.short)

fold_low : (i out after : List ℕ) (n : ℕ) → fold_outcome i out ≡ filled (Wrote n) after → n ≤ 16384
unfolding fold_in
fold_low i out after n e = wrote_accepted Raised (judge_of i) i out after n (sym e) (λ k m a f. (written _ out after n f).bound)

stands_low : {t u : List ℕ} → Stands t u → length u ≤ length t
stands_low none = omega arith
stands_low (itself a b s) = omega (arith, stands_low s)
stands_low (escape e s) = omega (arith, stands_low s)

-- what is written is left over from a refusal
left : {A : Type 0} (out after : List ℕ) (b : Bool) (m q n : ℕ) (f : Filled) → pick b (refuse m q out) f ≡ filled (Wrote n) after
    → (b ≡ false → f ≡ filled (Wrote n) after → A) → A
left out after true m q n f e k = wrote_no n m q (sym (ap (λ (g : Filled). g.answer) e))
left out after false m q n f e k = k refl e

unescape_low : (t out after : List ℕ) (n : ℕ) → unescape_outcome t out ≡ filled (Wrote n) after → n ≤ 16384
unfolding unescape_outcome checked faultless fill
unescape_low t out after n e =
    left out after (ltb 16384 (length t)) 1 16384 n _ e (λ a f.
    left out after (ltb (first_bad (allowed false) t) (length t)) 31 (first_bad (allowed false) t) n _ f (λ b g.
    left out after (ltb (first_fault t) (length t)) 30 (first_fault t) n _ g (λ c h.
    left out after (ltb (length out) (length (unescaped t))) 15 (length (unescaped t)) n _ h (λ d k.
    let z : first_fault t ≡ length t = omega (arith, ltb-false (first_fault t) (length t) c, fault_le t out) in
    let w : Wrote (length (unescaped t)) ≡ Wrote n = ap (λ (x : Filled). x.answer) k in
    let l : length (unescaped t) ≡ n = cc in
    omega (arith, ltb-false 16384 (length t) a, stands_low ((stands_exactly t (unescaped t)).1 (z, refl)))))))

-- what was written of an input, in the style
module _ (ed : Edition) (s : Style) (i out after : List ℕ) (n : ℕ) (e : fold_in ed s i out ≡ filled (Wrote n) after) where
  physical : (k m : ℕ) (h : InputIn ed i k m) → Folds (map render (lines_in s h)) (take n after)
  physical k m h =
      subst (λ (ls : List (List ℕ)). Folds ls (take n after))
      (ap (map (in-style s)) (lines_law ed i k m h) ∙ lines_styled s h.lines h.readable) (fold_written s (form ed s i out after n (sym e)))

  reread : (k m : ℕ) (h : InputIn ed i k m) → ReadAgain s h (take n after)
  reread k m h =
      let f = form ed s i out after n (sym e) in
      record {
        input = again ed s i (take n after) k m h f;
        lines = again_lines ed s i (take n after) k m h f;
        answer = again_answer ed s i (take n after) k m h f;
        records = again_records ed s i (take n after) k m h f;
      }

  refolded : (k m : ℕ) (h : InputIn ed i k m) (room : List ℕ) → (fold_in ed s (take n after) room ≡ fold_in ed s i room) × (fold_in ed AsRead (take n after) room ≡ fold_in ed s i room)
  refolded k m h room =
      let f = form ed s i out after n (sym e) in
      (fold_again ed s i (take n after) k m h f room, fold_as_read ed s i (take n after) k m h f room)

  fewest : (rs ls : List (List ℕ)) → Lined i rs ls → (t : List ℕ) (ss : List (List ℕ)) → Lined t ss ls → Billed t
      → length (physical_lines (take n after)) ≤ length (physical_lines t)
  unfolding logical_lines
  fewest rs ls h t ss g b =
      fewest_written s (form ed s i out after n (sym e)) t ss (subst (λ (xs : List (List ℕ)). Lined t ss xs) (lined_only h).1 g) b

module _ (ed : Edition) (i j out after room back : List ℕ) (k l m n a b : ℕ) (h : InputIn ed i k m) (g : InputIn ed j l n) where
  equal : fold_in ed AsRead i out ≡ filled (Wrote a) after → fold_in ed AsRead j room ≡ filled (Wrote b) back → (take a after ≡ take b back) ↔ (copied h ≡ copied g)
  equal e f =
      subst (λ (c : List ℕ). (take a after ≡ take b back) ↔ (c ≡ copied g)) (copy_law ed i k m h)
      (subst (λ (c : List ℕ). (take a after ≡ take b back) ↔ (copy_of i ≡ c)) (copy_law ed j l n g) (equal-octets (form ed AsRead i out after a (sym e)) (form ed AsRead j room back b (sym f))))

-- ---- answers in document 01's numbers

accepts : (ed : Edition) (i : List ℕ) (k n : ℕ) → (verdict (judge_in ed i) ≡ counts k n) ↔ InputIn ed i k n
accepts ed i k n = (λ e. (accepted_law ed i k n).0 (verdict_counts (judge_in ed i) k n e), λ h. ap verdict ((accepted_law ed i k n).1 h))

-- an outcome that tells a count is one that wrote as many octets
pub filled_so : (f : Filled) (n : ℕ) → written_as f.answer ≡ told n → f ≡ filled (Wrote n) f.room
filled_so f n e = let r : filled f.answer f.room ≡ filled (Wrote n) f.room = rw (wrote_told f.answer n e) in r

pub writes : {f : Filled} {xs room : List ℕ} → f ≡ wrote xs room → Writes f xs room
writes {f} {xs} {room} e = record { count = ap (λ (f : Filled). written_as f.answer) e; holds = ap (λ (f : Filled). f.room) e }

-- ---- the whole

pub demand2 : Demand2
demand2 =
    record {
      accepts = accepts;
      one_reading = one_reading;
      reads = reads;
      only = λ e' i copy records k n e. only e' i copy records k n (verdict_counts (read_in e' i copy records).answer k n e);
      folds = λ e' s i out k n h a l.
          let z = form_length e' i s out k n h in
          writes (fold_form e' i s out k n h ∙ bounded_so (folded_lines (map render (lines_in s h))) out (rw z a) (rw z l));
      greedy = greedy;
      physical = λ e' s i out n k m h e. physical e' s i out (fold_in e' s i out).room n (filled_so (fold_in e' s i out) n e) k m h;
      read_again = λ e' s i out n k m h e. reread e' s i out (fold_in e' s i out).room n (filled_so (fold_in e' s i out) n e) k m h;
      as_read = λ e' i out n e. read_again e' i out (fold_in e' AsRead i out).room n (sym (filled_so (fold_in e' AsRead i out) n e));
      again = λ e' s i out n k m h e. refolded e' s i out (fold_in e' s i out).room n (filled_so (fold_in e' s i out) n e) k m h;
      shortest = λ e' s i k n h. shortest s h.lines h.readable;
      fewest = λ e' s i out n e. fewest e' s i out (fold_in e' s i out).room n (filled_so (fold_in e' s i out) n e);
      equal = λ e' i j out room k l m n a b h g e f.
          equal e' i j out (fold_in e' AsRead i out).room room (fold_in e' AsRead j room).room k l m n a b h g
          (filled_so (fold_in e' AsRead i out) a e) (filled_so (fold_in e' AsRead j room) b f);
      escapes = λ t out f s h. writes (escapes t out f s h);
      unescapes = λ t u out f s h. writes (unescapes t u out f s h);
      back = λ t out room n e r. writes (round_trip t out (escape_outcome t out).room room n (filled_so (escape_outcome t out) n e) r);
      prints = λ r out h. writes (fill_so (report_text r) out h);
      c_judge = λ i k n h. (rw ((accepted_law First i k n).1 h), cards_low i k n h);
      c_fold = λ i out n e. let f = filled_so (fold_outcome i out) n e in (ap word_outcome f, fold_low i out (fold_outcome i out).room n f);
      c_unescape = λ t out n e. let f = filled_so (unescape_outcome t out) n e in (ap word_outcome f, unescape_low t out (unescape_outcome t out).room n f);
    }

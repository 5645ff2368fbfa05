-- Demand 2: what the reader accepts and writes, what the folder writes and how it reads again, and that escaped text comes back. Every
-- outcome named here is the one that the entry's contract equates with its answer and with all lent memory at exit. Assumes nothing.
use Rattle.std.specs.Prelude.{ℕ, ◌*◌, ◌≤◌, ◌≡◌, true, false, List, ◌∷◌, map, ◌↔◌, length, take, drop}
use Rattle.numbers.specs.Limits as limit
use Rattle.octets.specs.Room.{Filled, fill, overlay}
use Rattle.text_escaping.specs.Escaped.{escaped}
use Rattle.text.specs.Outcomes.{escape_outcome, unescape_outcome}
use Rattle.text_laws.specs.Stands.{Stands}
use Rattle.line_parser.specs.Grammar.{Line, Each, render}
use Rattle.reader.specs.Outcome.{judge_in, judge_of, Taken, read_in}
use Rattle.property_table.specs.declared.Edition.{Edition}
use Rattle.line_laws.specs.Lined.{Lined}
use Rattle.folder_line.specs.Pieces.{pieces, joined, folded_lines}
use Rattle.folder_style_laws.specs.Capitals.{styled}
use Rattle.folder_raising.specs.declared.Style.{Style}
use Rattle.folder_raising.specs.declared.Style.TheVariants.{AsRead}
use Rattle.folder.specs.Outcome.{fold_in, fold_outcome}
use Rattle.folder_laws.specs.Cuttings.{Cutting}
use Rattle.folder_laws.specs.Foldings.{Billed, Folding}
use Rattle.folder_laws.specs.Physical.{physical as physical_lines}
use Rattle.folder_laws.specs.Written.{Folds}
use Rattle.desk_ledger.specs.Answers.{counts as accepted, told, verdict, wrote}
use Rattle.firmware.specs.Word.{verdict_word, worded, word_outcome}
use Rattle.report.specs.Text.{report_text}
use Rattle.report.specs.declared.Report.{Report}
use Rattle.reader_grammar.specs.Cards.{Readable}
use Rattle.reader_grammar.specs.Inputs.{InputIn, InputOf}
use Rattle.reader_grammar.specs.Records.{Records}
use Rattle.demands.specs.Demand1.{copied, folded, Fair}

-- both rooms hold what reading the input writes
pub record Roomy {e : Edition} {i : List ℕ} {k n : ℕ} (h : InputIn e i k n) (copy records : List ℕ) : Type 0 where
  pub octets : length (copied h) ≤ length copy
  pub numbers : n * limit.record_length ≤ length records

-- the counts; the copy, and the room past it as it was; the records, which tell of the lines in the copy, and the room past them as it was
pub record ReadAs {e : Edition} {i : List ℕ} {k n : ℕ} (h : InputIn e i k n) (copy records : List ℕ) (t : Taken) : Type 0 where
  pub counts : verdict t.answer ≡ accepted k n
  pub copies : t.copy ≡ overlay (copied h) copy
  pub tells : Records e t.copy 0 h.lines (take (n * limit.record_length) t.records)
  pub past : drop (n * limit.record_length) t.records ≡ drop (n * limit.record_length) records

-- xs stand at the start of the room, which is as it was past them, and the answer is their count
pub record Writes (f : Filled) (xs room : List ℕ) : Type 0 where
  pub count : wrote f.answer ≡ told (length xs)
  pub holds : f.room ≡ overlay xs room

-- the lines of an input in a style
abbrev pub lines_in : Style → {e : Edition} {i : List ℕ} {k n : ℕ} → InputIn e i k n → List Line
lines_in s h = map (styled s) h.lines

-- octets that are read again with the lines of the input in the style, the same answer and the same records, whatever the rooms; by `reads`, the
-- copy is these lines, so that it differs from the input's in the case of names alone
pub record ReadAgain (s : Style) {e : Edition} {i : List ℕ} {k n : ℕ} (h : InputIn e i k n) (t : List ℕ) : Type 0 where
  pub input : InputIn e t k n
  pub lines : input.lines ≡ lines_in s h
  pub answer : (copy records : List ℕ) → (read_in e t copy records).answer ≡ (read_in e i copy records).answer
  pub records : (copy records : List ℕ) → (read_in e t copy records).records ≡ (read_in e i copy records).records

-- the pieces of the line in the style, joined by folds, have no more physical lines than any folding of the line
abbrev pub Shortest : Style → Line → Type 0
Shortest s x = (t : List ℕ) → Folding (render x) t → length (physical_lines (joined (pieces (render (styled s x))))) ≤ length (physical_lines t)

pub record Demand2 : Type 0 where
  -- in either edition the reader accepts exactly the cards that REFERENCE draws
  pub accepts : (e : Edition) (i : List ℕ) (k n : ℕ) → (verdict (judge_in e i) ≡ accepted k n) ↔ InputIn e i k n
  -- which have one reading
  pub one_reading : (e : Edition) (i : List ℕ) (k m n p : ℕ) (h : InputIn e i k n) (g : InputIn e i m p) → h.lines ≡ g.lines
  -- given room, with counts, copy and records; and without room it accepts nothing
  pub reads : (e : Edition) (i copy records : List ℕ) (k n : ℕ) (h : InputIn e i k n) → Roomy h copy records → ReadAs h copy records (read_in e i copy records)
  pub only : (e : Edition) (i copy records : List ℕ) (k n : ℕ) → verdict (read_in e i copy records).answer ≡ accepted k n → (h : InputIn e i k n) × Roomy h copy records
  -- the folder writes the folded form of the lines in the style, which is made of each line's greedy cutting
  pub folds : (e : Edition) (s : Style) (i out : List ℕ) (k n : ℕ) (h : InputIn e i k n) → length (folded h) ≤ limit.octets → length (folded h) ≤ length out
      → Writes (fold_in e s i out) (folded_lines (map render (lines_in s h))) out
  pub greedy : (x : Line) → Readable x → (p : List ℕ) (ps : List (List ℕ)) → Cutting (render x) p ps ↔ (p ∷ ps ≡ pieces (render x))
  -- what it wrote has physical lines of at most 75 octets, with no character split,
  pub physical : (e : Edition) (s : Style) (i out : List ℕ) (n k m : ℕ) (h : InputIn e i k m) → wrote (fold_in e s i out).answer ≡ told n
      → Folds (map render (lines_in s h)) (take n (fold_in e s i out).room)
  -- and read again gives the same answer and records, and a copy that differs in the case of names alone; as read, the same copy too
  pub read_again : (e : Edition) (s : Style) (i out : List ℕ) (n k m : ℕ) (h : InputIn e i k m) → wrote (fold_in e s i out).answer ≡ told n
      → ReadAgain s h (take n (fold_in e s i out).room)
  pub as_read : (e : Edition) (i out : List ℕ) (n : ℕ) → wrote (fold_in e AsRead i out).answer ≡ told n
      → (copy records : List ℕ) → read_in e (take n (fold_in e AsRead i out).room) copy records ≡ read_in e i copy records
  -- folded again in the same style, or as read, it is as it was
  pub again : (e : Edition) (s : Style) (i out : List ℕ) (n k m : ℕ) (h : InputIn e i k m) → wrote (fold_in e s i out).answer ≡ told n
      → (room : List ℕ) → (fold_in e s (take n (fold_in e s i out).room) room ≡ fold_in e s i room) × (fold_in e AsRead (take n (fold_in e s i out).room) room ≡ fold_in e s i room)
  -- no folding of a line of an accepted card has fewer physical lines than what is written for it,
  pub shortest : (e : Edition) (s : Style) (i : List ℕ) (k n : ℕ) (h : InputIn e i k n) → Each (Shortest s) h.lines
  -- and no octets with the same logical lines have fewer than all that was written
  pub fewest : (e : Edition) (s : Style) (i out : List ℕ) (n : ℕ) → wrote (fold_in e s i out).answer ≡ told n → (rs ls : List (List ℕ)) → Lined i rs ls
      → (t : List ℕ) (ss : List (List ℕ)) → Lined t ss ls → Billed t → length (physical_lines (take n (fold_in e s i out).room)) ≤ length (physical_lines t)
  -- as read, two accepted inputs are written to equal octets exactly when their copies are equal
  pub equal : (e : Edition) (i j out room : List ℕ) (k l m n a b : ℕ) (h : InputIn e i k m) (g : InputIn e j l n) → wrote (fold_in e AsRead i out).answer ≡ told a
      → wrote (fold_in e AsRead j room).answer ≡ told b
      → (take a (fold_in e AsRead i out).room ≡ take b (fold_in e AsRead j room).room) ↔ (copied h ≡ copied g)
  -- escape writes the escaped form of a text; unescape writes what a text stands for
  pub escapes : (t out : List ℕ) → Fair true t → length (escaped t) ≤ limit.octets → length (escaped t) ≤ length out
      → Writes (escape_outcome t out) (escaped t) out
  pub unescapes : (t u out : List ℕ) → Fair false t → Stands t u → length u ≤ length out → Writes (unescape_outcome t out) u out
  -- text escaped, then unescaped, comes back the same
  pub back : (t out room : List ℕ) (n : ℕ) → wrote (escape_outcome t out).answer ≡ told n → length t ≤ length room
      → Writes (unescape_outcome (take n (escape_outcome t out).room) room) t room
  -- the report is printed whole
  pub prints : (r : Report) (out : List ℕ) → length (report_text r) ≤ length out → Writes (fill (report_text r) out) (report_text r) out
  -- the routines for C answer the count alone, which is no refusal's word, and leave the room as the entry does
  pub c_judge : (i : List ℕ) (k n : ℕ) → InputOf i k n → (verdict_word (judge_of i) ≡ k) × (k ≤ limit.octets)
  pub c_fold : (i out : List ℕ) (n : ℕ) → wrote (fold_outcome i out).answer ≡ told n
      → (word_outcome (fold_outcome i out) ≡ worded n (fold_outcome i out).room) × (n ≤ limit.octets)
  pub c_unescape : (t out : List ℕ) (n : ℕ) → wrote (unescape_outcome t out).answer ≡ told n
      → (word_outcome (unescape_outcome t out) ≡ worded n (unescape_outcome t out).room) × (n ≤ limit.octets)

-- Demand 1: what each entry refuses, with which number and place, and that a refusal changes nothing. Every outcome named here is the one
-- that the entry's contract equates with its answer and with all lent memory at exit. Assumes nothing.
use Rattle.std.specs.Prelude.{ℕ, ◌+◌, ◌*◌, ◌<◌, ◌≤◌, ◌≡◌, Bool, true, false, List, [], map, ◌⊎◌, length, take, drop}
use Rattle.numbers.specs.Counts as places
use Rattle.numbers.specs.Limits as limit
use Rattle.numbers.specs.Refusals as refusal
use Rattle.utf8.specs.Characters.{allowed}
use Rattle.octets.specs.Classes.{quoted}
use Rattle.octets.specs.Room.{Filled, fill}
use Rattle.utf8_laws.specs.Texts.{Text, BadAt}
use Rattle.text_escaping.specs.Escaped.{escaped}
use Rattle.text.specs.Outcomes.{escape_outcome, unescape_outcome}
use Rattle.text_laws.specs.Stands.{Stands, Faulty}
use Rattle.label_carets.specs.Encoded.{encoded}
use Rattle.label_carets.specs.declared.Rule.{Rule}
use Rattle.label_carets.specs.declared.Rule.TheVariants.{Rfc6350, Rfc6868}
use Rattle.label.specs.Outcomes.{encode_outcome, decode_outcome}
use Rattle.label_laws.specs.Reads.{Reads, Sayable, Unsaid}
use Rattle.line_parser.specs.Grammar.{render}
use Rattle.reader.specs.Outcome.{judge_in, judge_of, ended, Taken, read_in}
use Rattle.property_table.specs.declared.Edition.{Edition}
use Rattle.property_table.specs.declared.Edition.TheVariants.{First}
use Rattle.folder_line.specs.Pieces.{folded_lines}
use Rattle.folder_raising.specs.declared.Style.{Style}
use Rattle.folder.specs.Outcome.{fold_in, fold_outcome}
use Rattle.desk_entries.specs.Ticks.{idle_ticks}
use Rattle.desk_slots.specs.Sound.{state_at, tick_at}
use Rattle.desk.specs.Answer.{answer as desk_answer}
use Rattle.desk.specs.Steps.{Sound, seen, Turned, fresh_desk, new_step, open_step, add_step, release_step, octets_in, show_step, held_step, judge_step}
use Rattle.desk_entries.specs.declared.Session.{Session}
use Rattle.desk_entries.specs.declared.State.TheVariants.{Free, Open}
use Rattle.desk.specs.declared.Desk.{Desk}
use Rattle.firmware.specs.Word.{verdict_word, word_outcome}
use Rattle.desk_ledger.specs.Answers.{Reply, refused, told, verdict, wrote, said}
use Rattle.desk_laws.specs.Demand.{OpenOn}
use Rattle.report_weights.specs.Counts.{Count}
use Rattle.report_weights.specs.Parts.{part}
use Rattle.report.specs.Steps.{take_step}
use Rattle.report.specs.Text.{report_text}
use Rattle.report.specs.declared.Report.{Report}
use Rattle.report.specs.Answer.{Answer}
use Rattle.report.specs.Answer.{Counted, Refused as Uncounted}
use Rattle.report.specs.Answer.{Taken as TakenIn}
use Rattle.report_laws.specs.Totals.{place_of, count_in}
use Rattle.reader_grammar.specs.Inputs.{InputIn}
use Rattle.reader_grammar.specs.Refusals.{RefusedIn, RefusedBy, Judging}

-- a refusal is answered only where `By` has its number and place; there it is answered, and what is left is `Left`
pub record Exactly (answer : Reply) (Left : Type 0) (By : ℕ → ℕ → Type 0) : Type 0 where
  pub only : (n p : ℕ) → answer ≡ refused n p → By n p
  pub answers : (n p : ℕ) → By n p → answer ≡ refused n p
  pub unchanged : (n p : ℕ) → By n p → Left

-- ---- reader and folder

-- the copy, and the folded form, of the lines of an input
abbrev pub copied : {e : Edition} {i : List ℕ} {k n : ℕ} → InputIn e i k n → List ℕ
copied h = ended (map render h.lines)

abbrev pub folded : {e : Edition} {i : List ℕ} {k n : ℕ} → InputIn e i k n → List ℕ
folded h = folded_lines (map render h.lines)

-- those of the judgement, then 13, 14
pub data ReadBy (e : Edition) (i copy records : List ℕ) : ℕ → ℕ → Type 0 where
  unread : {n p : ℕ} → RefusedIn e i n p → ReadBy e i copy records n p
  copy_room : {k n : ℕ} (h : InputIn e i k n) → length copy < length (copied h) → ReadBy e i copy records refusal.copy_room (length (copied h))
  record_room : {k n : ℕ} (h : InputIn e i k n) → length (copied h) ≤ length copy → length records < n * limit.record_length
      → ReadBy e i copy records refusal.record_room (n * limit.record_length)

-- those of the judgement, then 16, 15, in either style
pub data FoldBy (e : Edition) (i out : List ℕ) : ℕ → ℕ → Type 0 where
  not_read : {n p : ℕ} → RefusedIn e i n p → FoldBy e i out n p
  fold_over : {k n : ℕ} (h : InputIn e i k n) → limit.octets < length (folded h) → FoldBy e i out refusal.form_too_long limit.octets
  fold_room : {k n : ℕ} (h : InputIn e i k n) → length (folded h) ≤ limit.octets → length out < length (folded h) → FoldBy e i out refusal.room (length (folded h))

-- ---- text

-- neither 1 nor 31
pub record FairBy (allows : ℕ → Bool) (t : List ℕ) : Type 0 where
  pub short : length t ≤ limit.octets
  pub clean : Text allows t

-- 1, 31
pub data UnfairBy (allows : ℕ → Bool) (t : List ℕ) : ℕ → ℕ → Type 0 where
  long : limit.octets < length t → UnfairBy allows t refusal.too_long limit.octets
  octet : {p : ℕ} → length t ≤ limit.octets → BadAt allows t p → UnfairBy allows t refusal.text_octet p

-- of a text, where lf says whether 0A is allowed
abbrev pub Fair : Bool → List ℕ → Type 0
Fair lf t = FairBy (allowed lf) t

abbrev pub Unfair : Bool → List ℕ → ℕ → ℕ → Type 0
Unfair lf t n p = UnfairBy (allowed lf) t n p

-- 1, 31, 16, 15
pub data EscapeBy (t out : List ℕ) : ℕ → ℕ → Type 0 where
  no_text : {n p : ℕ} → Unfair true t n p → EscapeBy t out n p
  escape_over : Fair true t → limit.octets < length (escaped t) → EscapeBy t out refusal.form_too_long limit.octets
  escape_room : Fair true t → length (escaped t) ≤ limit.octets → length out < length (escaped t) → EscapeBy t out refusal.room (length (escaped t))

-- 1, 31, 30, 15; u is what the text stands for
pub data UnescapeBy (t out : List ℕ) : ℕ → ℕ → Type 0 where
  not_text : {n p : ℕ} → Unfair false t n p → UnescapeBy t out n p
  fault : {p : ℕ} {u : List ℕ} → Fair false t → p < length t → Stands (take p t) u → Faulty (drop p t) → UnescapeBy t out refusal.escape p
  text_room : {u : List ℕ} → Fair false t → Stands t u → length out < length u → UnescapeBy t out refusal.room (length u)

-- ---- labels

-- 1, 31; by RFC 6350 then 44, 15, by RFC 6868 then 16, 15
pub data EncodeBy (t out : List ℕ) : Rule → ℕ → ℕ → Type 0 where
  no_value : {r : Rule} {n p : ℕ} → Unfair true t n p → EncodeBy t out r n p
  unsaid : {p : ℕ} → Fair true t → Unsaid t p → EncodeBy t out Rfc6350 refusal.no_label p
  encode_over : Fair true t → limit.octets < length (encoded Rfc6868 t) → EncodeBy t out Rfc6868 refusal.form_too_long limit.octets
  encode_room : {r : Rule} → Fair true t → Sayable r t → length (encoded r t) ≤ limit.octets → length out < length (encoded r t)
      → EncodeBy t out r refusal.room (length (encoded r t))

-- 1, 31, 15; a label has the octets that may stand between quote marks, and v is what it stands for
pub data DecodeBy (t out : List ℕ) (r : Rule) : ℕ → ℕ → Type 0 where
  not_label : {n p : ℕ} → UnfairBy quoted t n p → DecodeBy t out r n p
  label_room : {v : List ℕ} → FairBy quoted t → Reads r t v → length out < length v → DecodeBy t out r refusal.room (length v)

-- ---- desk

-- neither 25 nor 24
pub record Ready (d : Desk) (p : List ℕ) : Type 0 where
  pub sound : Sound d
  pub size : length p ≡ d.slots * limit.octets

-- 25, 24
pub data Unready (d : Desk) (p : List ℕ) : ℕ → ℕ → Type 0 where
  unsound : (Sound d → ⊥) → Unready d p refusal.unsound 0
  other_size : Sound d → (length p ≡ d.slots * limit.octets → ⊥) → Unready d p refusal.pool_length 0

-- 25, 24, 22
pub data TicketBy (d : Desk) (p : List ℕ) (t : ℕ) : ℕ → ℕ → Type 0 where
  unready : {n q : ℕ} → Unready d p n q → TicketBy d p t n q
  closed : Ready d p → (OpenOn d t → ⊥) → TicketBy d p t refusal.not_open 0

-- the session s in slot i has the ticket t
pub record Holds (d : Desk) (p : List ℕ) (t i : ℕ) (s : Session) : Type 0 where
  pub ready : Ready d p
  pub inside : i < d.slots
  pub state : state_at d.entries i ≡ Open s
  pub ticket : s.ticket ≡ t

-- 26
pub data NewBy (slots : ℕ) : ℕ → ℕ → Type 0 where
  range : (slots ≡ 0) ⊎ (limit.slots < slots) → NewBy slots refusal.slot_count 0

-- 25, 24, 21, 20
pub data OpenBy (d : Desk) (p : List ℕ) (tick : ℕ) : ℕ → ℕ → Type 0 where
  no_desk : {n q : ℕ} → Unready d p n q → OpenBy d p tick n q
  used_up : Ready d p → d.next ≡ limit.tickets → OpenBy d p tick refusal.tickets_used_up 0
  -- no slot is free, and none has a session that the tick counted is ahead of by 600 or more
  full : Ready d p → (d.next ≡ limit.tickets → ⊥) → ((i : ℕ) → i < d.slots → state_at d.entries i ≡ Free → ⊥)
      → ((i : ℕ) (s : Session) → i < d.slots → state_at d.entries i ≡ Open s → tick_at d.stamps i + idle_ticks ≤ seen d tick → ⊥) → OpenBy d p tick refusal.no_free_slot 0

-- 25, 24, 22, 23
pub data AddBy (d : Desk) (p : List ℕ) (t : ℕ) (chunk : List ℕ) : ℕ → ℕ → Type 0 where
  no_upload : {n q : ℕ} → TicketBy d p t n q → AddBy d p t chunk n q
  too_much : {i : ℕ} {s : Session} → Holds d p t i s → limit.octets < s.held + length chunk → AddBy d p t chunk refusal.slot_full s.held

-- 25, 24, 22, then those of the judgement of the octets held
pub data JudgeBy (d : Desk) (p : List ℕ) (t : ℕ) : ℕ → ℕ → Type 0 where
  nothing : {n q : ℕ} → TicketBy d p t n q → JudgeBy d p t n q
  octets : {i n q : ℕ} {s : Session} → Holds d p t i s → RefusedBy (octets_in p i s) n q → JudgeBy d p t n q

-- ---- report

-- 80: a count that the report has would pass
pub data TakeBy (r : Report) (i : List ℕ) : ℕ → ℕ → Type 0 where
  passes : (c : Count) → place_of c < places.all → limit.largest < count_in r c + part c i → TakeBy r i refusal.report_full 0

-- 15
pub data PrintBy (r : Report) (out : List ℕ) : ℕ → ℕ → Type 0 where
  print_room : length out < length (report_text r) → PrintBy r out refusal.room (length (report_text r))

-- a judgement that is counted answers 0
abbrev pub counted : Answer → Reply
counted Counted = told 0
counted (Uncounted number place) = refused number place

-- ---- the whole

-- outcomes that are answers alone, and those that have lent memory or a desk beside the answer, which a refusal leaves as they were
abbrev pub Answering : Reply → (ℕ → ℕ → Type 0) → Type 0
Answering answer By = Exactly answer (Unit {0}) By

abbrev pub Reading : Taken → List ℕ → List ℕ → (ℕ → ℕ → Type 0) → Type 0
Reading outcome copy records By = Exactly (verdict outcome.answer) ((outcome.copy ≡ copy) × (outcome.records ≡ records)) By

abbrev pub Filling : Filled → List ℕ → (ℕ → ℕ → Type 0) → Type 0
Filling outcome room By = Exactly (wrote outcome.answer) (outcome.room ≡ room) By

abbrev pub Turning : Turned → Desk → List ℕ → (ℕ → ℕ → Type 0) → Type 0
Turning outcome d pool By = Exactly (said outcome.answer) ((outcome.desk ≡ d) × (outcome.pool ≡ pool)) By

abbrev pub Counting : TakenIn → Report → (ℕ → ℕ → Type 0) → Type 0
Counting outcome r By = Exactly (counted outcome.answer) (outcome.report ≡ r) By

-- a word whose halves are a refusal's number and place
pub record Halves (r n p : ℕ) : Type 0 where
  pub word : r ≡ n * limit.word + p
  pub low : p < limit.word

pub record Demand1 : Type 0 where
  pub judges : (e : Edition) (i : List ℕ) → Answering (verdict (judge_in e i)) (RefusedIn e i)
  -- 6 is never given
  pub numbers : {e : Edition} {i : List ℕ} {n p : ℕ} → RefusedIn e i n p → Judging n
  pub reads : (e : Edition) (i copy records : List ℕ) → Reading (read_in e i copy records) copy records (ReadBy e i copy records)
  pub folds : (e : Edition) (s : Style) (i out : List ℕ) → Filling (fold_in e s i out) out (FoldBy e i out)
  pub escapes : (t out : List ℕ) → Filling (escape_outcome t out) out (EscapeBy t out)
  pub unescapes : (t out : List ℕ) → Filling (unescape_outcome t out) out (UnescapeBy t out)
  pub encodes : (r : Rule) (t out : List ℕ) → Filling (encode_outcome r t out) out (EncodeBy t out r)
  pub decodes : (r : Rule) (t out : List ℕ) → Filling (decode_outcome r t out) out (DecodeBy t out r)
  -- a refused desk has 0 slots
  pub starts : (slots : ℕ) → Exactly (said (desk_answer (new_step slots).answer)) ((new_step slots).desk ≡ fresh_desk 0) (NewBy slots)
  pub opens : (d : Desk) (pool : List ℕ) (m tick : ℕ) → Turning (open_step d pool m tick) d pool (OpenBy d pool tick)
  pub adds : (d : Desk) (pool : List ℕ) (t : ℕ) (chunk : List ℕ) (tick : ℕ) → Turning (add_step d pool t chunk tick) d pool (AddBy d pool t chunk)
  pub releases : (d : Desk) (pool : List ℕ) (t : ℕ) → Turning (release_step d pool t) d pool (TicketBy d pool t)
  pub counts : (d : Desk) (pool : List ℕ) (t : ℕ) → Answering (said (held_step d pool t)) (TicketBy d pool t)
  pub judges_held : (d : Desk) (pool : List ℕ) (t : ℕ) → Answering (verdict (judge_step d pool t)) (JudgeBy d pool t)
  -- show answers a part alone: the session's octets, and an empty one on a refusal
  pub shows_none : (d : Desk) (pool : List ℕ) (t n p : ℕ) → TicketBy d pool t n p → (show_step d pool t).octets ≡ []
  pub shows : (d : Desk) (pool : List ℕ) (t i : ℕ) (s : Session) → Holds d pool t i s → (show_step d pool t).octets ≡ octets_in pool i s
  -- the octets held are counted, and judged as the reader judges them
  pub counted : (d : Desk) (pool : List ℕ) (t i : ℕ) (s : Session) → Holds d pool t i s → said (held_step d pool t) ≡ told s.held
  pub judged : (d : Desk) (pool : List ℕ) (t i : ℕ) (s : Session) → Holds d pool t i s → verdict (judge_step d pool t) ≡ verdict (judge_of (octets_in pool i s))
  pub takes : (r : Report) (i : List ℕ) → Counting (take_step r i) r (TakeBy r i)
  pub prints : (r : Report) (out : List ℕ) → Filling (fill (report_text r) out) out (PrintBy r out)
  -- the routines for C answer a refusal as one word, and leave the room as it was
  pub c_judge : (i : List ℕ) (n p : ℕ) → RefusedBy i n p → Halves (verdict_word (judge_of i)) n p
  pub c_fold : (i out : List ℕ) (n p : ℕ) → FoldBy First i out n p
      → Halves (word_outcome (fold_outcome i out)).answer n p × ((word_outcome (fold_outcome i out)).room ≡ out)
  pub c_unescape : (t out : List ℕ) (n p : ℕ) → UnescapeBy t out n p
      → Halves (word_outcome (unescape_outcome t out)).answer n p × ((word_outcome (unescape_outcome t out)).room ≡ out)

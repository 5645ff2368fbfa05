-- What is claimed of the morning report. Assumes nothing.
use Rattle.std.specs.Prelude.{ℕ, ◌+◌, ◌<◌, ◌≤◌, ◌≡◌, List, ◌↔◌, length, get_or}
use Rattle.numbers.specs.Counts as places
use Rattle.numbers.specs.Limits as limit
use Rattle.numbers.specs.Properties as property
use Rattle.numbers.specs.Refusals as refusal
use Rattle.reader_grammar.specs.Cards as grammar
use Rattle.reader_grammar.specs.Inputs.{InputOf}
use Rattle.reader_grammar.specs.Refusals.{RefusedBy}
use Rattle.report_lines.specs.Rows.{numbers_from}
use Rattle.report_weights.specs.Counts.{Count, uploads, accepted, cards, lines, octets, refused_with, lines_of, judging}
use Rattle.report_weights.specs.Parts.{part}
use Rattle.report.specs.Steps.{fresh_report, take_step}
use Rattle.report.specs.Text.{report_text}
use Rattle.report.specs.declared.Report.{Report}
use Rattle.report.specs.Answer.{Refused}
use Rattle.report_laws.specs.Totals.{total, after, taken, place_of, count_in, sum_over}
use Rattle.property_table.specs.declared.Edition.TheVariants.{First}

-- what the judgement of an accepted input adds: its cards, lines and octets, and of each property the lines that the grammar counts
pub record AddsAccepted {i : List ℕ} {k n : ℕ} (h : InputOf i k n) : Type 0 where
  pub upload : part uploads i ≡ 1
  pub accept : part accepted i ≡ 1
  pub card : part cards i ≡ k
  pub line : part lines i ≡ n
  pub octet : part octets i ≡ length i
  pub property : (m : ℕ) → part (lines_of m) i ≡ grammar.lines_of First m h.lines
  pub refusal : (m : ℕ) → part (refused_with m) i ≡ 0

-- that of a refused one adds an upload and a refusal with its number, and nothing else
pub record AddsRefused (i : List ℕ) (n : ℕ) : Type 0 where
  pub upload : part uploads i ≡ 1
  pub refusal : part (refused_with n) i ≡ 1
  pub other : (c : Count) → (c ≡ uploads → ⊥) → (c ≡ refused_with n → ⊥) → part c i ≡ 0

-- the numbers of 59 counts, of 32 bits each
pub record Values (r : Report) : Type 0 where
  pub size : length r.counts ≡ places.all
  pub each : (p : ℕ) → get_or r.counts p 0 ≤ limit.largest

pub record Reports : Type 0 where
  -- what one judgement adds, by the grammar
  pub accepts : {i : List ℕ} {k n : ℕ} (h : InputOf i k n) → AddsAccepted h
  pub refuses : {i : List ℕ} {n p : ℕ} → RefusedBy i n p → AddsRefused i n
  -- every count is its sum over the judgements taken since a fresh report
  pub counts : (is : List (List ℕ)) (c : Count) → count_in (after fresh_report is) c ≡ total c (taken fresh_report is)
  -- 80, P 0, exactly if a count would pass the limit, and then no count moves
  pub full : (is : List (List ℕ)) (i : List ℕ)
      → ((take_step (after fresh_report is) i).answer ≡ Refused refusal.report_full 0)
      ↔ ((c : Count) × (limit.largest < total c (taken fresh_report is) + part c i))
  pub stays : (r : Report) (i : List ℕ) → (take_step r i).answer ≡ Refused refusal.report_full 0 → (take_step r i).report ≡ r
  -- the first 262,143 judgements are never refused
  pub never_low : (is : List (List ℕ)) (i : List ℕ) → length (taken fresh_report is) < 262143
      → (take_step (after fresh_report is) i).answer ≡ Refused refusal.report_full 0 → ⊥
  -- no judgement moves a count that has no place: no other refusal is given, and no line has another property number
  pub no_other : (c : Count) (i : List ℕ) → places.all ≤ place_of c → part c i ≡ 0
  -- the sums agree
  pub all_lines : (is : List (List ℕ)) → total lines is ≡ sum_over (λ m. total (lines_of m) is) (numbers_from 0 property.count)
  pub all_uploads : (is : List (List ℕ)) → total uploads is ≡ total accepted is + sum_over (λ m. total (refused_with m) is) judging
  -- what is printed tells the report
  pub tells : (r s : Report) → Values r → Values s → report_text r ≡ report_text s → r ≡ s

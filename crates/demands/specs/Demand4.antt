-- Dates that are dates: which kind a line has, which values are dates, timestamps and offsets, and what an offset answers. Assumes nothing.
use Rattle.std.specs.Prelude.{ℕ, ◌≡◌, List, ◌↔◌, ℤ}
use Rattle.numbers.specs.Kinds as kind
use Rattle.numbers.specs.Refusals as refusal
use Rattle.line_parser.specs.Grammar.{Line}
use Rattle.property_table.specs.declared.Edition.{Edition}
use Rattle.property_table.specs.Rows.{value_name, calscale_name}
use Rattle.value_kinds.specs.Kinds.{kind_in}
use Rattle.value_kinds.specs.declared.Fault.TheVariants.{Fits}
use Rattle.value_offsets.specs.Minutes.{minutes_of}
use Rattle.value_offsets.specs.declared.Offset.TheVariants.{Minutes, Refused}
use Rattle.value_laws.specs.Calendar.{DateAndOrTime, Timestamp, Offset, StandsFor, Within}
use Rattle.value_laws.specs.Dead.{Dead}
use Rattle.value_laws.specs.LineKinds.{KindOf}
use Rattle.value_laws.specs.DateExamples.{DateExamples}
use Rattle.card_line.specs.Parts.{param_value, row_of_line, kind_of_line}

pub record Demand4 : Type 0 where
  -- a line has exactly the kind that its row, its VALUE and its CALSCALE give it
  pub kinds : (e : Edition) (x : Line) (k : ℕ) → (kind_of_line e x ≡ k) ↔ KindOf (row_of_line e x) (param_value value_name x) (param_value calscale_name x) k
  -- kinds 9, 10 and 11 take exactly what the calendar draws
  pub dates : (e : Edition) (v : List ℕ) → (kind_in e kind.date v ≡ Fits) ↔ DateAndOrTime v
  pub stamps : (e : Edition) (v : List ℕ) → (kind_in e kind.timestamp v ≡ Fits) ↔ Timestamp v
  pub offsets : (e : Edition) (v : List ℕ) → (kind_in e kind.offset v ≡ Fits) ↔ Offset v
  -- an offset answers exactly the minutes that it stands for, one number of them, from -1439 to 1439
  pub minutes : (v : List ℕ) (z : ℤ) → (minutes_of v ≡ Minutes z) ↔ StandsFor z v
  pub one_meaning : (v : List ℕ) (y z : ℤ) → StandsFor y v → StandsFor z v → y ≡ z
  pub range : {z : ℤ} {v : List ℕ} → StandsFor z v → Within 1439 z
  -- and exactly what is none is 7, with the first octet from which no continuation is one
  pub refuses : (v : List ℕ) (n p : ℕ) → (minutes_of v ≡ Refused n p) ↔ ((n ≡ refusal.value) × Dead Offset v p)
  -- both sides of every limit, and the examples of RFC 6350, section 4.3
  pub examples : DateExamples

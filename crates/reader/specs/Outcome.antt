-- What the reader answers and writes, by REFERENCE, What the unit reads and writes: the numbers 1 to 14, the copy and the records. Assumes nothing.
use Rattle.std.specs.Prelude.{ℕ, List, [], ◌∷◌, ◌++◌, Result, Ok, Err, eqb, ltb, length}
use Rattle.numbers.specs.Limits as limit
use Rattle.numbers.specs.Refusals as refusal
use Rattle.octets.specs.Pick.{pick}
use Rattle.octets.specs.Room.{overlay}
use Rattle.property_table.specs.declared.Edition.{Edition}
use Rattle.property_table.specs.declared.Edition.TheVariants.{First}
use Rattle.line_folds.specs.Logical.{raw_lines, logical_lines}
use Rattle.reader_walk.specs.Walk.{judge_lines}
use Rattle.reader_records.specs.Records.{records_from}
use Rattle.card_state.specs.State.{Step, Next, Refused as Halted, Flawed, before_begin, fresh_card}
use Rattle.line_breaks.specs.Lone.{first_lone, ends_cr_lf}
use Rattle.numbers.specs.Refusals.{number}
use Rattle.numbers.specs.declared.refusal.Refusal.{Refusal}
use Rattle.reader.specs.declared.Counts.{Counts}

-- how many cards and lines an accepted input has, or a refusal's number and place
pub data Verdict : Type 0 where
  Accepted : ℕ → ℕ → Verdict
  Refused : ℕ → ℕ → Verdict

-- the same of a result
abbrev pub verdict : Result Counts Refusal → Verdict
verdict (Ok c) = Accepted c.cards c.lines
verdict (Err r) = Refused (number r.0) r.1

-- after the last line of an input of n octets: 9 inside a card, else the counts of cards and lines; a walk leaves no octet of a line to be placed
unfoldable pub verdict_of : ℕ → Step → Verdict
verdict_of n (Next c) = pick (eqb c.phase before_begin) (Accepted c.cards c.lines) (Refused refusal.order n)
verdict_of n (Halted k p) = Refused k p
verdict_of n (Flawed k o) = Refused k o

-- 1, 2, 3, 4 over the whole input, then line by line 5 to 12
unfoldable pub judge_in : Edition → List ℕ → Verdict
judge_in e i =
    pick (ltb limit.octets (length i)) (Refused refusal.too_long limit.octets)
    (pick (eqb (length i) 0) (Refused refusal.empty 0)
    (pick (ltb (first_lone i) (length i)) (Refused refusal.lone_cr_or_lf (first_lone i))
    (pick (ends_cr_lf i) (verdict_of (length i) (judge_lines e (raw_lines i) 0 fresh_card)) (Refused refusal.no_end (length i)))))

-- where no edition is named, it is the first
abbrev pub judge_of : List ℕ → Verdict
judge_of = judge_in First

-- the lines in order, each ended by CR LF
unfoldable pub ended : List (List ℕ) → List ℕ
ended [] = []
ended (l ∷ ls) = l ++ (13 ∷ 10 ∷ ended ls)

unfoldable pub copy_of : List ℕ → List ℕ
copy_of i = ended (logical_lines i)

unfoldable pub records_in : Edition → List ℕ → List ℕ
records_in e i = records_from e 0 (logical_lines i)

-- an answer, and what the two rooms hold then
pub record Taken : Type 0 where
  pub answer : Verdict
  pub copy : List ℕ
  pub records : List ℕ

abbrev pub took : Verdict → List ℕ → List ℕ → Taken
took a copy records = record { answer = a; copy = copy; records = records }

-- an accepted input: 13, then 14, else the copy and the records are written to the start of their rooms
unfoldable pub write_outcome : Verdict → List ℕ → List ℕ → List ℕ → List ℕ → Taken
write_outcome a xs rs copy records =
    pick (ltb (length copy) (length xs)) (took (Refused refusal.copy_room (length xs)) copy records)
    (pick (ltb (length records) (length rs)) (took (Refused refusal.record_room (length rs)) copy records)
    (took a (overlay xs copy) (overlay rs records)))

-- nothing is written on a refusal
unfoldable pub outcome_by : Edition → Verdict → List ℕ → List ℕ → List ℕ → Taken
outcome_by e (Accepted k n) i copy records = write_outcome (Accepted k n) (copy_of i) (records_in e i) copy records
outcome_by e (Refused n p) i copy records = took (Refused n p) copy records

unfoldable pub read_in : Edition → List ℕ → List ℕ → List ℕ → Taken
read_in e i copy records = outcome_by e (judge_in e i) i copy records

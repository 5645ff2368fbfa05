-- What taking a judgement answers, and the next report, by REFERENCE, The morning report. Assumes nothing.
use Rattle.std.specs.Prelude.{ℕ, ◌+◌, Bool, List, map, ltb, get_or, replicate}
use Rattle.numbers.specs.Counts as places
use Rattle.numbers.specs.Limits as limit
use Rattle.numbers.specs.Refusals as refusal
use Rattle.octets.specs.Counts.{any}
use Rattle.octets.specs.Pick.{pick}
use Rattle.report_lines.specs.Rows.{numbers_from}
use Rattle.report_weights.specs.Parts.{weights}
use Rattle.report.specs.declared.Report.{Report}
use Rattle.report.specs.Answer.{Counted, Refused, Taken}

-- every count is 0
abbrev pub fresh_report : Report
fresh_report = record { counts = replicate places.all 0 }

-- the places of the counts
abbrev pub all_places : List ℕ
all_places = numbers_from 0 places.all

-- a count with what is added to it
abbrev pub sum_at : List ℕ → List ℕ → ℕ → ℕ
sum_at xs ws p = get_or xs p 0 + get_or ws p 0

-- one would pass 4,294,967,295
unfoldable pub over : List ℕ → List ℕ → Bool
over xs ws = any (λ p. ltb limit.largest (sum_at xs ws p)) all_places

unfoldable pub sums : List ℕ → List ℕ → List ℕ
sums xs ws = map (sum_at xs ws) all_places

-- 80 where a count would pass, and then no count moves; else each moves by what the judgement of the octets i adds
unfoldable pub take_step : Report → List ℕ → Taken
take_step r i =
    pick (over r.counts (weights i)) (record { answer = Refused refusal.report_full 0; report = r })
    (record { answer = Counted; report = record { counts = sums r.counts (weights i) } })

-- What is known after some octets, and what the buffer holds then: by the octets alone, however they were cut. Assumes nothing.
use Rattle.std.specs.Prelude.{ℕ, Bool, ◌||◌, List, [], ◌++◌, ltb, leb, length}
use Rattle.numbers.specs.Limits as limit
use Rattle.octets.specs.Pick.{pick}
use Rattle.property_table.specs.declared.Edition.TheVariants.{First}
use Rattle.card_state.specs.State.{Step, fresh_card}
use Rattle.reader_walk.specs.Walk.{judge_lines}
use Rattle.watch_arrivals.specs.Arrivals.{after_other, lone_from}
use Rattle.watch_buffer.specs.Buffer.{padded}
use Rattle.watch_lines.specs.Parting.{ended_lines, open_line}
use Rattle.watch_lines.specs.Values.{halted, values_from}

-- the judgement of the lines that have ended
unfoldable pub judged : List ℕ → Step
judged i = judge_lines First (ended_lines i) 0 fresh_card

-- the ALTID value of each *1 property's first ended line in a card whose END has not ended, in line order
unfoldable pub altid_octets : List ℕ → List ℕ
altid_octets i = values_from (ended_lines i) 0 fresh_card []

-- 3 is known: a lone CR or LF, but for a CR that is the last octet so far
abbrev pub is_lone : List ℕ → Bool
is_lone i = leb (lone_from after_other i) (length i)

-- a fault of 1, 3 or an ended line is known
unfoldable pub known : List ℕ → Bool
known i = ltb limit.octets (length i) || (is_lone i || halted (judged i))

-- the octets that the buffer holds
unfoldable pub used : List ℕ → List ℕ
used i = pick (known i) [] (altid_octets i ++ open_line i)

unfoldable pub buffer_after : List ℕ → List ℕ
buffer_after i = padded (used i)

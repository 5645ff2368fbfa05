-- What taking in and giving out answer, and what the room holds then. Assumes nothing.
use Rattle.std.specs.Prelude.{ℕ, List, eqb, ltb, length}
use Rattle.numbers.specs.Limits as limit
use Rattle.numbers.specs.Refusals as refusal
use Rattle.octets.specs.Pick.{pick}
use Rattle.octets.specs.Room.{Filled, refuse, fill_bounded}
use Rattle.line_breaks.specs.Lone.{first_lone, ends_cr_lf}
use Rattle.line_folds.specs.Logical.{raw_lines}
use Rattle.reader.specs.Outcome.{judge_of}
use Rattle.reader.specs.Outcome.{Verdict}
use Rattle.reader.specs.Outcome.{Accepted, Refused as Rejected}
use Rattle.version3_parameters.specs.declared.Way.{Way}
use Rattle.version3_parameters.specs.declared.Way.TheVariants.{Inward, Outward}
use Rattle.version3_judge.specs.Judge.{Step, Next, Refused, Flawed, ended, fresh_set, judge_lines}
use Rattle.version3.specs.Card.{card_text}

-- after the last line: 9 inside the card, else the card, after 16 and 15
abbrev pub concluded : Way → Step → List ℕ → List ℕ → Filled
concluded w (Next c) i room = pick (ended c.phase) (fill_bounded (card_text w i) room) (refuse refusal.order (length i) room)
concluded w (Refused n p) i room = refuse n p room
concluded w (Flawed n o) i room = refuse n o room

-- 1, 2, 3, 4 over the whole input, then line by line
unfoldable pub convert_outcome : Way → List ℕ → List ℕ → Filled
convert_outcome w i room =
    pick (ltb limit.octets (length i)) (refuse refusal.too_long limit.octets room)
    (pick (eqb (length i) 0) (refuse refusal.empty 0 room)
    (pick (ltb (first_lone i) (length i)) (refuse refusal.lone_cr_or_lf (first_lone i) room)
    (pick (ends_cr_lf i) (concluded w (judge_lines w (raw_lines i) 0 fresh_set) i room) (refuse refusal.no_end (length i) room))))

abbrev pub take_outcome : List ℕ → List ℕ → Filled
take_outcome i room = convert_outcome Inward i room

-- the refusals of the reader come first
abbrev pub give_by : Verdict → List ℕ → List ℕ → Filled
give_by (Accepted k n) i room = convert_outcome Outward i room
give_by (Rejected n p) i room = refuse n p room

unfoldable pub give_outcome : List ℕ → List ℕ → Filled
give_outcome i room = give_by (judge_of i) i room

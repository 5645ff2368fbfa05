-- The two sides of a merge as the reader leaves them, and refusals 71, 72 and 70 of both. Assumes nothing.
use Rattle.std.specs.Prelude.{ℕ, ◌/◌, Bool, true, List, [], eqb, ltb, length, replicate}
use Rattle.numbers.specs.Limits as limit
use Rattle.numbers.specs.Refusals as refusal
use Rattle.octets.specs.Pick.{pick}
use Rattle.property_table.specs.declared.Edition.TheVariants.{First}
use Rattle.reader.specs.Outcome.{Taken, read_in}
use Rattle.reader.specs.Outcome.{Verdict}
use Rattle.reader.specs.Outcome.{Accepted, Refused as Halted}
use Rattle.merge_sources.specs.Row.{filled, same_row}
use Rattle.merge_sources.specs.declared.Row.{Row}
use Rattle.merge_pids.specs.Marks.{Marked, marked, put_all, mark_length}
use Rattle.merge_sides.specs.Sources.{own_row, over_entries}
use Rattle.merge_sides.specs.Marks.{marks_from, over_marks}
use Rattle.merge_partners.specs.Pairs.{First as Joining, joined, join_all, first_of, demanded_pairs, pairs_from, same_uids}
use Rattle.merge.specs.Paired.{Paired, Pairs, Refused}

-- what reading a card leaves: its copy and records in rooms that hold those of any card, and its counts
pub record Side : Type 0 where
  pub copy : List ℕ
  pub records : List ℕ
  pub cards : ℕ
  pub lines : ℕ

abbrev pub side : List ℕ → List ℕ → ℕ → ℕ → Side
side c rs k n = record { copy = c; records = rs; cards = k; lines = n }

-- how many numbers the records and the marks of a card may take
abbrev pub record_room : ℕ
record_room = 32768

abbrev pub mark_room : ℕ
mark_room = 12288

unfoldable pub read_of : List ℕ → Taken
read_of i = read_in First i (replicate limit.octets 0) (replicate record_room 0)

-- what the reader refuses
abbrev pub refusal_of : Verdict → Paired
refusal_of (Halted n p) = Refused n p
refusal_of (Accepted k n) = Refused refusal.merge_limit 0

unfoldable pub marks_of : Side → Marked
marks_of s = put_all (marked 0 (replicate mark_room 0)) (marks_from s.copy s.records 0 s.lines)

unfoldable pub row_in : Side → Row
row_in s = own_row s.copy s.records s.lines

-- several cards, over sixteen entries lent, over sixteen CLIENTPIDMAP lines, or a number over 65,535
unfoldable pub over_side : ℕ → ℕ → Row → Marked → Bool
over_side cards lent own marks =
    pick (eqb cards 1)
    (pick (ltb limit.sources lent) true
    (pick (ltb limit.sources own.count) true
    (pick (over_entries own.entries 0 limit.sources) true (over_marks marks.room marks.next))))
    true

unfoldable pub is_over : Side → Row → Bool
is_over s lent = over_side s.cards lent.count (row_in s) (marks_of s)

-- an answer, and the partners of the first card's lines then
pub record Settled : Type 0 where
  pub answer : Paired
  pub partners : List ℕ

abbrev pub settled : Paired → List ℕ → Settled
settled a p = record { answer = a; partners = p }

-- the demanded pairs of two sides
unfoldable pub pairs_of : Side → Side → Row → Row → List ℕ → Joining
pairs_of x y a b p =
    first_of (join_all (joined true p (replicate limit.lines 0))
    (demanded_pairs x.copy x.records x.lines (marks_of x).room ((marks_of x).next / mark_length) a
    y.copy y.records y.lines (marks_of y).room ((marks_of y).next / mark_length) b))

abbrev pub settled_by : Joining → Settled
settled_by f = settled (pick f.ok (Pairs (length (pairs_from f.partners 0 limit.lines))) (Refused refusal.no_plan 0)) f.partners

-- 71 of either side, then 72 of either, then 70, else the count of the demanded pairs
unfoldable pub settle_of : Side → Side → Row → Row → List ℕ → Settled
settle_of x y a b p =
    pick (is_over x a) (settled (Refused refusal.merge_limit 0) p)
    (pick (is_over y b) (settled (Refused refusal.merge_limit 0) p)
    (pick (same_row (row_in x) a)
    (pick (same_row (row_in y) b)
    (pick (same_uids x.copy x.records x.lines y.copy y.records y.lines) (settled_by (pairs_of x y a b p)) (settled (Refused refusal.no_plan 0) p))
    (settled (Refused refusal.source_row 0) p))
    (settled (Refused refusal.source_row 0) p)))

-- a card's own row; none where the reader refuses the card
abbrev pub row_by : Verdict → Taken → Row
row_by (Accepted k n) t = own_row t.copy t.records n
row_by (Halted n p) t = filled 0 [] 0

unfoldable pub own_row_of : List ℕ → Row
own_row_of i = row_by (read_of i).answer (read_of i)

-- The marks of a line, one for each value of its PID parameters that counts: the line's number and the PID's two. Assumes nothing.
use Rattle.std.specs.Prelude.{ℕ, zero, suc, ◌+◌, ◌-◌, List, [], ◌∷◌, ◌++◌, Option, Some, None, eqb, ltb, length, take, drop, set}
use Rattle.octets.specs.Ascii as ascii
use Rattle.octets.specs.Ascii.{octets}
use Rattle.octets.specs.Pick.{pick}
use Rattle.octets.specs.Cases.{same}
use Rattle.octets.specs.Classes.{run, named, quoted, bare}
use Rattle.line_parser.specs.Parse.{Parse, got, bad, hd}
use Rattle.line_parser.specs.Grammar.{Param}
use Rattle.line_parser.specs.Rule.{param}
use Rattle.merge_pids.specs.declared.Pid.{Pid}
use Rattle.merge_pids.specs.declared.Span.{Span}
use Rattle.merge_pids.specs.Numbers.{pid_of}

pub record Mark : Type 0 where
  pub line : ℕ
  pub first : ℕ
  pub source : ℕ

abbrev pub mark : ℕ → ℕ → ℕ → Mark
mark i p s = record { line = i; first = p; source = s }

-- where the next mark goes, and the room
pub record Marked : Type 0 where
  pub next : ℕ
  pub room : List ℕ

abbrev pub marked : ℕ → List ℕ → Marked
marked n room = record { next = n; room = room }

-- how many numbers a mark has
abbrev pub mark_length : ℕ
mark_length = 3

abbrev pub write : ℕ → Mark → List ℕ → List ℕ
write n m room = set (set (set room n m.line) (n + 1) m.first) (n + 2) m.source

-- a mark is written where it fits
unfoldable pub put_mark : Marked → Mark → Marked
put_mark s m =
    pick (ltb (length s.room) mark_length) s
    (pick (ltb (length s.room - mark_length) s.next) s (marked (s.next + mark_length) (write s.next m s.room)))

-- one after the other
unfoldable pub put_all : Marked → List Mark → Marked
put_all s [] = s
put_all s (m ∷ ms) = put_all (put_mark s m) ms

-- the marks of a value on the line i
abbrev pub value_marks : ℕ → Option Pid → List Mark
value_marks i (Some v) = mark i v.first v.source ∷ []
value_marks i None = []

-- where the value at the start of l stands, l being at a place
unfoldable pub span_at : ℕ → List ℕ → Span
span_at at l =
    pick (eqb (hd l) ascii.quote)
    (record { start = at + 1; end = at + 1 + run quoted (drop 1 l); next = at + 1 + run quoted (drop 1 l) + 1 })
    (record { start = at; end = at + run bare l; next = at + run bare l })

-- its octets, quotes off, and how many it takes with them
unfoldable pub body_at : List ℕ → List ℕ
body_at l = pick (eqb (hd l) ascii.quote) (take (run quoted (drop 1 l)) (drop 1 l)) (take (run bare l) l)

unfoldable pub width_at : List ℕ → ℕ
width_at l = pick (eqb (hd l) ascii.quote) (run quoted (drop 1 l) + 2) (run bare l)

-- the values from the start of l on, as long as a comma follows; n bounds their count
unfoldable pub values_marks : ℕ → ℕ → List ℕ → List Mark
values_marks i zero l = []
values_marks i (suc n) l =
    value_marks i (pid_of (body_at l)) ++ pick (eqb (hd (drop (width_at l) l)) ascii.comma) (values_marks i n (drop (width_at l + 1) l)) []

-- the name of the parameter that has PIDs
abbrev pub pid_name : List ℕ
pid_name = octets "PID"

-- of a parameter with that name whose values stand in l
unfoldable pub named_marks : ℕ → List ℕ → List ℕ → List Mark
named_marks i name l = pick (same name pid_name) (values_marks i (suc (length l)) l) []

-- of the parameter read at the start of m, and of those behind it
abbrev pub param_marks : ℕ → Parse Param → List ℕ → (ℕ → List Mark) → List Mark
param_marks i (got p k) m f = named_marks i (take (run named m) m) (drop (run named m + 1) m) ++ f k
param_marks i (bad e) m f = []

-- of parameters, each after a semicolon; n bounds their count
unfoldable pub params_marks : ℕ → ℕ → List ℕ → List Mark
params_marks i zero l = []
params_marks i (suc n) l =
    pick (eqb (hd l) ascii.semicolon) (param_marks i (param (drop 1 l)) (drop 1 l) (λ k. params_marks i n (drop k (drop 1 l)))) []

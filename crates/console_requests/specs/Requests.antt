-- The request of a line: the name, the numbers and the octets that its words have. Assumes nothing.
use Rattle.std.specs.Prelude.{ℕ, ◌+◌, ◌-◌, List, Option, Some, None, ltb, eqb, length}
use Rattle.octets.specs.Pick.{pick}
use Rattle.console_words.specs.Words.{words_of, word_at}
use Rattle.program_numbers.specs.Decimal.{number_of}
use Rattle.program_numbers.specs.Hex.{Taken, taken, octets_of}
use Rattle.console_requests.specs.Names.{Row, row_of}
use Rattle.console_requests.specs.declared.Request.{Request}
use Rattle.console_requests.specs.declared.Name.{Name}

abbrev pub request : Name → ℕ → ℕ → ℕ → ℕ → Request
request n a b c k = record { name = n; first = a; second = b; third = c; count = k }

-- a request if there is one, and what the room holds then
pub record Requested : Type 0 where
  pub request : Option Request
  pub room : List ℕ

abbrev pub requested : Option Request → List ℕ → Requested
requested r room = record { request = r; room = room }

-- word k is a number where k is one of so many numbers; 0 stands for one that the request does not have
unfoldable pub number_at : List ℕ → ℕ → ℕ → Option ℕ
number_at w k numbers = pick (ltb numbers k) (Some 0) (number_of w)

-- a word is the octets where the request has octets
unfoldable pub octets_at : List ℕ → ℕ → List ℕ → Taken
octets_at w octets room = pick (eqb octets 0) (taken (Some 0) room) (octets_of w room)

-- a request has its numbers and its octets, or there is none
abbrev pub make_request : Name → ℕ → ℕ → ℕ → Option ℕ → Option Request
make_request n a b c (Some k) = Some (request n a b c k)
make_request n a b c None = None

abbrev pub whole : Name → Option ℕ → Option ℕ → Option ℕ → Taken → List ℕ → Requested
whole n (Some a) (Some b) (Some c) t room = requested (make_request n a b c t.answer) t.room
whole n (Some a) (Some b) None t room = requested None room
whole n (Some a) None c t room = requested None room
whole n None b c t room = requested None room

-- what a line says that starts with this request
abbrev pub read : Row → List ℕ → List ℕ → Requested
read r line room =
    whole r.name (number_at (word_at line 1) 1 r.numbers) (number_at (word_at line 2) 2 r.numbers) (number_at (word_at line 3) 3 r.numbers)
    (octets_at (word_at line (r.numbers + 1)) r.octets room) room

-- a word that names no request leaves the room as it was
abbrev pub read_named : Option Row → List ℕ → List ℕ → Requested
read_named (Some r) line room = read r line room
read_named None line room = requested None room

-- the request that the first word and the number of words name, with the numbers and octets that the other words are
unfoldable pub request_of : List ℕ → List ℕ → Requested
request_of line room = read_named (row_of (word_at line 0) (length (words_of line) - 1)) line room

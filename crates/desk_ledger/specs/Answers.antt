-- Every answer in the numbers of REFERENCE, Refusals: of each enum that an entry answers with, the number and values of each case. Assumes nothing.
use Rattle.std.specs.Prelude.{ℕ, List}
use Rattle.octets.specs.Room.{Written}
use Rattle.octets.specs.Room.{Wrote, Refused as Unwritten}
use Rattle.reader.specs.Outcome.{Verdict}
use Rattle.reader.specs.Outcome.{Accepted, Refused as Unread}
use Rattle.desk.specs.Answer.{Answer}
use Rattle.desk.specs.Answer.{Done, Refused}

-- an answer: a refusal's number and place; a ticket, a count of octets or 0; counts of cards and lines; octets shown
pub data Reply : Type 0 where
  refused : ℕ → ℕ → Reply
  told : ℕ → Reply
  counts : ℕ → ℕ → Reply
  part : List ℕ → Reply

-- judge and read, on octets or on a ticket
abbrev pub verdict : Verdict → Reply
verdict (Accepted cards lines) = counts cards lines
verdict (Unread number place) = refused number place

-- fold, escape and unescape
abbrev pub wrote : Written → Reply
wrote (Wrote octets) = told octets
wrote (Unwritten number place) = refused number place

-- a new desk, open, add, release and the octets held
abbrev pub said : Answer → Reply
said (Done n) = told n
said (Refused number place) = refused number place

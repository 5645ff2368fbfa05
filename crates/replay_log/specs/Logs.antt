-- A log: answers one after the other in octets. An answer is an octet that names it and four for each of its numbers; of a part its
-- length and then its octets. Assumes nothing.
use Rattle.std.specs.Prelude.{ℕ, ◌+◌, ◌≡◌, List, [], ◌∷◌, ◌++◌, length}
use Rattle.octets.specs.Room.{overlay}
use Rattle.desk_ledger.specs.Ledger.{Reply, refused, told, counts, part}
use Rattle.desk_ledger.specs.Ticks.{judging, showing, counting, releasing, Ticked, opens_at, adds_at, asks_of}
use Rattle.replay_script.specs.Numerals.{four_octets}
use Rattle.replay_log.specs.Names as reply

unfoldable pub entry : Reply → List ℕ
entry (refused n p) = reply.refused ∷ four_octets n ++ four_octets p
entry (told n) = reply.told ∷ four_octets n
entry (counts k n) = reply.counts ∷ four_octets k ++ four_octets n
entry (part o) = reply.part ∷ four_octets (length o) ++ o

unfoldable pub written : List Reply → List ℕ
written [] = []
written (r ∷ rs) = entry r ++ written rs

-- x was written to the start of d, and n is how many octets that are
pub record Put (x d d' : List ℕ) (n : ℕ) : Type 0 where
  pub wrote : n ≡ length x
  pub log : d' ≡ overlay x d

-- ---- room

-- the most octets of an answer that shows nothing
abbrev pub answer_room : ℕ
answer_room = 9

-- how many octets more the answer to a show may have: a name and a length with a full slot
abbrev pub shown_more : ℕ
shown_more = 16380

-- the most octets that the answer to a call has
abbrev pub call_room : Ticked → ℕ
call_room (opens_at m τ) = answer_room
call_room (adds_at t q τ) = answer_room
call_room (asks_of t judging) = answer_room
call_room (asks_of t showing) = answer_room + shown_more
call_room (asks_of t counting) = answer_room
call_room (asks_of t releasing) = answer_room

unfoldable pub room_for : List Ticked → ℕ
room_for [] = 0
room_for (c ∷ cs) = call_room c + room_for cs

-- A turn of an upload: what is added to it, and how it ends. A morning m with its pool p becomes r with q. Assumes nothing.
use Rattle.std.specs.Prelude.{ℕ, ◌+◌, ◌<◌, ◌≤◌, ◌≡◌, Bool, true, Option, Some, None, eqb, List, ℤ, length, get_or}
use Rattle.numbers.specs.Refusals as refusal
use Rattle.octets.specs.Pick.{pick}
use Rattle.octets.specs.Slices.{part}
use Rattle.reader.specs.Outcome.{Verdict}
use Rattle.reader.specs.Outcome.{Refused as Unread}
use Rattle.desk.specs.Steps.{Turned, open_step, add_step, release_step, judge_step}
use Rattle.desk.specs.Answer.{Answer, Done, Refused}
use Rattle.cabbook_morning.specs.Depot.{as_ticket, no_upload, ticket_at, at_desk, counted, unread_counted, released_at, from, started_at}
use Rattle.cabbook_morning.specs.declared.depot.Morning.{Morning}

-- upload k is released
abbrev pub Released : ℕ → Morning → List ℕ → Morning → List ℕ → Type 0
Released k m p r q = (r ≡ released_at k (release_step m.desk p (ticket_at m k)).desk m) × (q ≡ (release_step m.desk p (ticket_at m k)).pool)

-- its verdict is counted, and whether it holds its file's octets, which is free; then it is released
abbrev pub Finished : ℕ → Verdict → Morning → List ℕ → Morning → List ℕ → Type 0
Finished k v m p r q = (same : Bool) × Released k (counted v same m) p r q

-- a chunk is added by the step s, with that answer: a refusal is the upload's verdict
abbrev pub Added : ℕ → Morning → Turned → Answer → Morning → List ℕ → Type 0
Added k m s (Done n) r q = (r ≡ at_desk s.desk m) × (q ≡ s.pool)
Added k m s (Refused number place) r q = Finished k (Unread number place) (at_desk s.desk m) s.pool r q

-- exactly these octets are added to upload k
abbrev pub AddedTo : ℕ → List ℕ → Morning → List ℕ → Morning → List ℕ → Type 0
AddedTo k chunk m p r q = Added k m (add_step m.desk p (ticket_at m k) chunk m.tick) (add_step m.desk p (ticket_at m k) chunk m.tick).answer r q

-- of a room, what was read: where it failed, the file is counted as unread; where there is none, what the desk holds is judged; else exactly the
-- octets that were read are added to upload k
abbrev pub FedWith : ℕ → Option ℕ → List ℕ → Morning → List ℕ → Morning → List ℕ → Type 0
FedWith k None room m p r q = Released k (unread_counted m) p r q
FedWith k (Some n) room m p r q =
    (n ≡ 0 → Finished k (judge_step m.desk p (ticket_at m k)) m p r q) × ((n ≡ 0 → ⊥) → AddedTo k (part room 0 n) m p r q)

-- how much of a file is read for a chunk
abbrev pub Taken : Option ℕ → ℕ → List ℕ → Type 0
Taken (Some n) size room = (n ≤ size) × (n ≤ length room)
Taken None size room = Unit {0}

-- upload k is fed: its file can't be read; or it ended, and what the desk holds is judged; or a chunk is added that has octets, as many as
-- a chunk has at most
pub data Fed (k : ℕ) (m : Morning) (p : List ℕ) (r : Morning) (q : List ℕ) : Type 0 where
  unread : Released k (unread_counted m) p r q → Fed k m p r q
  judged : Finished k (judge_step m.desk p (ticket_at m k)) m p r q → Fed k m p r q
  added : (chunk : List ℕ) → 0 < length chunk → length chunk ≤ m.chunk → AddedTo k chunk m p r q → Fed k m p r q

-- upload k is opened by the step s, with that answer, for the file that argument i names, by a descriptor that is free; refusal 20 leaves the file to be
-- tried again, and any other is its verdict
abbrev pub Opened : ℕ → ℕ → Morning → Turned → Answer → Morning → Type 0
Opened k i m s (Done t) r = (fd : ℤ) × (r ≡ started_at k (record { file = i; fd = fd; ticket = as_ticket t }) (at_desk s.desk m))
Opened k i m s (Refused number place) r =
    r ≡ pick (eqb number refusal.no_free_slot) (from i (at_desk s.desk m)) (counted (Unread number place) true (at_desk s.desk m))

-- upload k gets the next file, if there is one, the one that argument i names: that can't be opened, or an upload is opened for it with identifier 0 at the tick
-- of the round
pub data Begun (k : ℕ) (m : Morning) (p : List ℕ) (r : Morning) (q : List ℕ) : Type 0 where
  no_file : (i : ℕ) → m.count ≤ i → r ≡ from i m → q ≡ p → Begun k m p r q
  no_descriptor : (i : ℕ) → m.next ≤ i → i < m.count → r ≡ unread_counted (from (i + 1) m) → q ≡ p → Begun k m p r q
  opened : (i : ℕ) → m.next ≤ i → i < m.count → Opened k i (from (i + 1) m) (open_step m.desk p 0 m.tick) (open_step m.desk p 0 m.tick).answer r
      → q ≡ (open_step m.desk p 0 m.tick).pool → Begun k m p r q

-- a turn feeds an upload that runs, and begins one where none runs
abbrev pub Turns : ℕ → Morning → List ℕ → Morning → List ℕ → Type 0
Turns k m p r q =
    ((get_or m.uploads k no_upload).file ≡ 0 → Begun k m p r q) × (((get_or m.uploads k no_upload).file ≡ 0 → ⊥) → Fed k m p r q)

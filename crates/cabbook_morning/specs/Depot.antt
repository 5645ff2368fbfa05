-- The depot: its numbers, its uploads, and the depot after an upload ends. Assumes nothing.
use Rattle.std.specs.Prelude.{ℕ, ◌+◌, ◌-◌, eqb, ltb, pos, Bool, Option, set, replicate, get_or}
use Rattle.numbers.specs.Limits as limit
use Rattle.numbers.specs.Refusals as refusal
use Rattle.octets.specs.Pick.{pick}
use Rattle.reader.specs.Outcome.{Verdict}
use Rattle.reader.specs.Outcome.{Accepted, Refused}
use Rattle.desk.specs.declared.Desk.{Desk}
use Rattle.desk.specs.Steps.{new_step}
use Rattle.cabbook_morning.specs.declared.depot.Upload.{Upload}
use Rattle.cabbook_morning.specs.declared.depot.Morning.{Morning}

-- one more, as far as numbers of 64 bits go
abbrev pub one_more : ℕ → ℕ
one_more n = pick (eqb n limit.largest64) n (n + 1)

-- a number as a ticket, 0 where it has more than 32 bits
abbrev pub as_ticket : ℕ → ℕ
as_ticket n = pick (ltb limit.largest n) 0 n

-- no upload
abbrev pub no_upload : Upload
no_upload = record { file = 0; fd = pos 0; ticket = 0 }

-- before the first upload: a new desk, and nothing counted
abbrev pub begun : ℕ → ℕ → ℕ → ℕ → Option ℕ → ℕ → ℕ → Morning
begun slots step next count dashes chunk width =
    record {
      desk = (new_step slots).desk;
      uploads = replicate limit.slots no_upload;
      next = next;
      count = count;
      dashes = dashes;
      running = 0;
      chunk = chunk;
      width = width;
      accepted = 0;
      refused = 0;
      unread = 0;
      differing = 0;
      reclaimed = 0;
      tick = 0;
      step = step;
    }

-- without an upload, and with the desk as it is then
abbrev pub released_at : ℕ → Desk → Morning → Morning
released_at k d m =
    record {
      desk = d;
      uploads = set m.uploads k no_upload;
      next = m.next;
      count = m.count;
      dashes = m.dashes;
      running = m.running - 1;
      chunk = m.chunk;
      width = m.width;
      accepted = m.accepted;
      refused = m.refused;
      unread = m.unread;
      differing = m.differing;
      reclaimed = m.reclaimed;
      tick = m.tick;
      step = m.step;
    }

-- the ticket of upload k
abbrev pub ticket_at : Morning → ℕ → ℕ
ticket_at m k = (get_or m.uploads k no_upload).ticket

-- with another desk
abbrev pub at_desk : Desk → Morning → Morning
at_desk d m =
    record {
      desk = d;
      uploads = m.uploads;
      next = m.next;
      count = m.count;
      dashes = m.dashes;
      running = m.running;
      chunk = m.chunk;
      width = m.width;
      accepted = m.accepted;
      refused = m.refused;
      unread = m.unread;
      differing = m.differing;
      reclaimed = m.reclaimed;
      tick = m.tick;
      step = m.step;
    }

-- one more accepted, or one more refused
abbrev pub accepted_by : Verdict → ℕ → ℕ
accepted_by (Accepted cards lines) n = one_more n
accepted_by (Refused number place) n = n

-- one more whose session was reclaimed, where that is the refusal
abbrev pub reclaimed_at : ℕ → ℕ → ℕ
reclaimed_at number n = pick (eqb number refusal.not_open) (one_more n) n

abbrev pub reclaimed_by : Verdict → ℕ → ℕ
reclaimed_by (Accepted cards lines) n = n
reclaimed_by (Refused number place) n = reclaimed_at number n

abbrev pub refused_by : Verdict → ℕ → ℕ
refused_by (Accepted cards lines) n = n
refused_by (Refused number place) n = one_more n

-- one more that does not hold its file's octets, unless it does
abbrev pub differed : Bool → Morning → Morning
differed same m =
    record {
      desk = m.desk;
      uploads = m.uploads;
      next = m.next;
      count = m.count;
      dashes = m.dashes;
      running = m.running;
      chunk = m.chunk;
      width = m.width;
      accepted = m.accepted;
      refused = m.refused;
      unread = m.unread;
      differing = pick same m.differing (one_more m.differing);
      reclaimed = m.reclaimed;
      tick = m.tick;
      step = m.step;
    }

-- a verdict counted, and whether what the upload holds is its file's
abbrev pub counted : Verdict → Bool → Morning → Morning
counted v same m =
    record {
      desk = m.desk;
      uploads = m.uploads;
      next = m.next;
      count = m.count;
      dashes = m.dashes;
      running = m.running;
      chunk = m.chunk;
      width = m.width;
      accepted = accepted_by v m.accepted;
      refused = refused_by v m.refused;
      unread = m.unread;
      differing = pick same m.differing (one_more m.differing);
      reclaimed = reclaimed_by v m.reclaimed;
      tick = m.tick;
      step = m.step;
    }

-- one more file that can't be read
abbrev pub unread_counted : Morning → Morning
unread_counted m =
    record {
      desk = m.desk;
      uploads = m.uploads;
      next = m.next;
      count = m.count;
      dashes = m.dashes;
      running = m.running;
      chunk = m.chunk;
      width = m.width;
      accepted = m.accepted;
      refused = m.refused;
      unread = one_more m.unread;
      differing = m.differing;
      reclaimed = m.reclaimed;
      tick = m.tick;
      step = m.step;
    }

-- with one more upload that runs, at k
abbrev pub started_at : ℕ → Upload → Morning → Morning
started_at k u m =
    record {
      desk = m.desk;
      uploads = set m.uploads k u;
      next = m.next;
      count = m.count;
      dashes = m.dashes;
      running = one_more m.running;
      chunk = m.chunk;
      width = m.width;
      accepted = m.accepted;
      refused = m.refused;
      unread = m.unread;
      differing = m.differing;
      reclaimed = m.reclaimed;
      tick = m.tick;
      step = m.step;
    }

-- with the argument from which on the next file is looked for
abbrev pub from : ℕ → Morning → Morning
from i m =
    record {
      desk = m.desk;
      uploads = m.uploads;
      next = i;
      count = m.count;
      dashes = m.dashes;
      running = m.running;
      chunk = m.chunk;
      width = m.width;
      accepted = m.accepted;
      refused = m.refused;
      unread = m.unread;
      differing = m.differing;
      reclaimed = m.reclaimed;
      tick = m.tick;
      step = m.step;
    }

-- with the tick of the next round
abbrev pub next_round : Morning → Morning
next_round m =
    record {
      desk = m.desk;
      uploads = m.uploads;
      next = m.next;
      count = m.count;
      dashes = m.dashes;
      running = m.running;
      chunk = m.chunk;
      width = m.width;
      accepted = m.accepted;
      refused = m.refused;
      unread = m.unread;
      differing = m.differing;
      reclaimed = m.reclaimed;
      tick = pick (ltb (limit.largest - m.step) m.tick) limit.largest (m.tick + m.step);
      step = m.step;
    }

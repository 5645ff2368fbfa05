-- What is written is within the room, whose length stays.
use Rattle.std.proofs.Common.{◌≤◌, ◌≡◌, length}
use Rattle.program_host.proofs.odd.put_name.Given as goal

abbrev pub invariant-loop-octet : goal.invariant-loop-octet
invariant-loop-octet l = (length l.room ≡ length l.initial.room) × (l.n ≤ length l.room)

abbrev pub invariant-loop-octet-2 : goal.invariant-loop-octet-2
invariant-loop-octet-2 l = (length l.room ≡ length l.initial.room) × (l.n ≤ length l.room)

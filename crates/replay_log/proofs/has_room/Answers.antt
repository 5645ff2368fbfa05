-- `replay_log::has_room` meets its contract. Assumes nothing.
use Prim.Native.Nat.{◌+◌, ◌-◌, ◌*◌, ◌/◌}
use mathlib.Core.Path.{sym}
use native.Mathlib.Omega.{arith}
use borrow.Author.Tests.{lt-leb}
use Rattle.replay_script.proofs.NumeralLaws.{leb_same}
use Rattle.replay_log.proofs.has_room.Goals as goal

pub returns-then-room-shows : goal.returns-then-room-shows
returns-then-room-shows c = let a = c.args in sym (lt-leb (9 * a.calls + 16380 * a.shows) a.room (omega arith))

pub returns : goal.returns
returns c = let a = c.args in leb_same a.calls ((a.room - 16380 * a.shows) / 9) (9 * a.calls + 16380 * a.shows) a.room (λ h. omega arith) (λ h. omega arith)

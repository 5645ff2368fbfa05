-- `watch::is_over` meets its contract. Assumes nothing.
use native.Mathlib.Omega.{arith}
use mathlib.Core.Path.{sym}
use Prim.Native.Nat.{◌+◌}
use borrow.Author.Tests.{lt-ltb}
use Rattle.watch.proofs.SoundLaws.{over_by}
use Rattle.watch.proofs.is_over.Goals as goal

pub returns-then-used-gt-OCTETS : goal.returns-then-used-gt-OCTETS
returns-then-used-gt-OCTETS c = sym (lt-ltb 16384 (c.args.w.card.used + c.args.w.«open») (omega (arith, c.if-used-gt-OCTETS.true)))

pub returns : goal.returns
returns c = over_by c.args.w.card.used c.args.w.«open» (omega (arith, c.if-used-gt-OCTETS.false))

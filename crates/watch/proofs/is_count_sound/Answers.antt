-- `watch::is_count_sound` meets its contract. Assumes nothing.
use native.Mathlib.Omega.{arith}
use mathlib.Core.Path.{refl}
use borrow.Author.Tests.{leb-true, le-leb}
use Rattle.watch.proofs.SoundLaws.{no_way}
use Rattle.watch.proofs.is_count_sound.Goals as goal

pub returns-then-w-gt-OCTETS : goal.returns-then-w-gt-OCTETS
returns-then-w-gt-OCTETS c = (λ e. no_way e, λ w. absurd (omega (arith, c.if-w-gt-OCTETS.true, w.short)))

pub returns-then-w : goal.returns-then-w
returns-then-w c = (λ e. no_way e, λ w. absurd (omega (arith, c.if-w-gt-OCTETS.false, c.if-w.true, w.short)))

pub returns-then-w-2 : goal.returns-then-w-2
returns-then-w-2 c = (λ e. no_way e, λ w. absurd (omega (arith, c.if-w-2.true, w.tail)))

pub returns-then-w-eq-LINE_FAULT : goal.returns-then-w-eq-LINE_FAULT
returns-then-w-eq-LINE_FAULT c = (λ e. record { short = omega (arith, c.if-w-gt-OCTETS.false, c.if-w.false); tail = omega (arith, c.if-w-2.false); line = λ n. absurd (n c.if-w-eq-LINE_FAULT.true) }, λ w. refl)

pub returns : goal.returns
returns c = (
  λ e. record { short = omega (arith, c.if-w-gt-OCTETS.false, c.if-w.false); tail = omega (arith, c.if-w-2.false); line = λ n. leb-true c.args.w.tail c.args.w.«open» e },
  λ w. le-leb c.args.w.tail c.args.w.«open» (w.line c.if-w-eq-LINE_FAULT.false),
)

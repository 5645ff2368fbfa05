-- `watch::is_card_sound` meets its contract. Assumes nothing.
use native.Mathlib.Omega.{arith}
use borrow.Author.Tests.{leb-true, le-leb}
use Rattle.watch.proofs.SoundLaws.{no_way}
use Rattle.watch.proofs.is_card_sound.Goals as goal

pub returns-then-c-far_end : goal.returns-then-c-far_end
returns-then-c-far_end c = (λ e. no_way e, λ w. absurd (omega (arith, c.if-c-far_end.true, c.far_end.ensures.1 c.args.c.used w.lies)))

pub returns-then-start-c : goal.returns-then-start-c
returns-then-start-c c = (λ e. no_way e, λ w. absurd (omega (arith, c.if-start-c.true, w.used)))

pub returns-then-c : goal.returns-then-c
returns-then-c c = (λ e. no_way e, λ w. absurd (omega (arith, c.if-c.true, w.cards)))

pub returns : goal.returns
returns c = (
  λ e. record { lies = c.far_end.ensures.0 c.args.c.used (omega (arith, c.if-c-far_end.false)); used = omega (arith, c.if-start-c.false); cards = omega (arith, c.if-c.false); lines = leb-true c.args.c.lines c.args.start e },
  λ w. le-leb c.args.c.lines c.args.start w.lines,
)

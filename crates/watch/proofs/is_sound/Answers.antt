-- `watch::is_sound` meets its contract. Assumes nothing.
use borrow.Author.Tests.{not-true, not-false}
use mathlib.Core.Path.{sym, ◌∙◌}
use Rattle.watch.proofs.SoundLaws.{no_way}
use Rattle.watch.proofs.is_sound.Goals as goal

pub returns-then-not-counts : goal.returns-then-not-counts
returns-then-not-counts c = (λ e. no_way e, λ w. sym (not-true c.is_count_sound-counts.result c.if-not-counts.true-raw) ∙ c.is_count_sound-counts.ensures.1 w.counts)

pub returns : goal.returns
returns c = (λ e. record { counts = c.is_count_sound-counts.ensures.0 (not-false c.is_count_sound-counts.result c.if-not-counts.false-raw); card = c.is_card_sound.ensures.0 e }, λ w. c.is_card_sound.ensures.1 w.card)

-- `console_entries::rooms::both_kept` meets its contract. Assumes nothing.
use mathlib.Core.Path.{sym, ◌∙◌}
use Rattle.console_entries.proofs.rooms.both_kept.Goals as goal

pub returns-then-is_kept : goal.returns-then-is_kept
returns-then-is_kept c = rw (sym c.is_kept.ensures ∙ c.if-is_kept.true) c.are_kept.ensures

pub returns : goal.returns
returns c = rw (sym c.is_kept.ensures ∙ c.if-is_kept.false)

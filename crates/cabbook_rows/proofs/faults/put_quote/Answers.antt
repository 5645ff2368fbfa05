-- `cabbook_rows::faults::put_quote` meets its contract. Assumes nothing.
use mathlib.Core.Path.{sym, ◌∙◌}
use Rattle.octets.specs.Ascii.{octets}
use Rattle.cabbook_rows.specs.Faults.{quote_words}
use Rattle.cabbook_rows.proofs.faults.put_quote.Goals as goal

pub returns-in-LeftOpen : goal.returns-in-LeftOpen
unfolding octets quote_words
returns-in-LeftOpen c = rw (sym c.quote_fault.ensures ∙ c.in-LeftOpen.is, ← c.part-name.ensures) c.put_about.ensures

pub returns-in-Followed : goal.returns-in-Followed
unfolding octets quote_words
returns-in-Followed c = rw (sym c.quote_fault.ensures ∙ c.in-Followed.is, ← c.part-name.ensures) c.put_about-in-Followed.ensures

pub returns-in-InBare : goal.returns-in-InBare
unfolding octets quote_words
returns-in-InBare c = rw (sym c.quote_fault.ensures ∙ c.in-InBare.is, ← c.part-name.ensures) c.put_about-in-InBare.ensures

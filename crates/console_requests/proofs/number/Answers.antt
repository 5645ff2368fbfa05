-- `console_requests::number` meets its contract. Assumes nothing.
use mathlib.Core.Path.{sym, ap, ◌∙◌}
use Rattle.program_numbers.specs.Decimal.{number_of}
use Rattle.console_words.specs.Words.{word_at}
use Rattle.console_requests.proofs.RequestLaws.{no_number, a_number}
use Rattle.console_requests.proofs.number.Goals as goal

pub returns-then-numbers-k : goal.returns-then-numbers-k
returns-then-numbers-k c =
    let a = c.args in
    sym (no_number (word_at a.line.now a.k) a.k a.numbers c.if-numbers-k.true)

pub returns : goal.returns
returns c =
    let a = c.args in
    c.number_of.ensures ∙ ap number_of c.word.ensures ∙ sym (a_number (word_at a.line.now a.k) a.k a.numbers c.if-numbers-k.false)

-- `console_words::spaces` meets its contract. Assumes nothing.
use mathlib.Core.Path.{◌≡◌}
use Rattle.std.specs.List.{count_by}
use lib.Dec.{eqb}
use borrow.Author.Rules.{rules}
use Rattle.console_words.proofs.WordLaws.{words_counted}
use Rattle.console_words.proofs.spaces.Goals as goal

pub returns : goal.returns
returns c =
    let s = c.args.line.now in
    let e : c.count.result ≡ count_by (λ x. eqb x 32) s = search rules in
    rw e (words_counted s)

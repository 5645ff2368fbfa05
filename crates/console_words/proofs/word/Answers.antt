-- `console_words::word` meets its contract. Assumes nothing.
use mathlib.Core.Path.{◌≡◌, refl}
use borrow.Author.Rules.{rules}
use borrow.Author.Tests.{tests}
use lib.Dec.{eqb}
use Rattle.std.specs.List.{slice_get, slice_split}
use Rattle.std.specs.Option.{option_map}
use Rattle.std.proofs.lemmas.Iterator.Consumers.{nth_from_yields_List}
use Rattle.std.proofs.lemmas.Iterator.Splits.{YieldsList-from_slice_split}
use Rattle.console_words.proofs.WordLaws.{word_told}
use Rattle.console_words.proofs.word.Goals as goal

pub returns : goal.returns
returns c =
    let s = c.args.line.now in
    let e : option_map (λ x. x.now) c.nth.result ≡ slice_get (slice_split (λ x. eqb x 32) s) c.args.k =
    nth_from_yields_List c.nth.result _ c.args.k c.nth.ensures.ran (YieldsList-from_slice_split _ (λ x. eqb x 32) s c.split.ensures.rest c.split.ensures.done c.split.ensures.closure (λ x b q k. search (rules, tests))) in
    word_told s c.args.k c.nth.result _ c.unwrap_or.result e refl c.unwrap_or.ensures

-- `merge_pids::digits_end` meets its contract. Assumes nothing.
use Rattle.std.proofs.Common.{◌≡◌, ◌+◌, ◌∙◌, ap, ℕ, drop, rules}
use borrow.Author.Tests.{tests}
use Rattle.std.specs.Char.{is_ascii_digit}
use Rattle.std.proofs.lemmas.Iterator.{YieldsList-from_slice}
use Rattle.std.proofs.lemmas.Iterator.Consumers.{YieldsList-at, count_from_yields_List}
use Rattle.std.proofs.lemmas.Iterator.Search.{YieldsList-from_take_while}
use Rattle.merge_pids.proofs.NumberLaws.{part_rest, run_is}
use Rattle.merge_pids.proofs.digits_end.Goals as goal

pub returns : goal.returns
returns c =
    let s = drop c.args.from c.args.s.now in
    let p : c.part.result.now ≡ s = c.part.ensures ∙ part_rest c.args.s.now c.args.from in
    let rest = YieldsList-from_slice s (cc) in
    ap (λ (k : ℕ). c.args.from + k)
    (count_from_yields_List _ _ c.count.ensures.ran
    (YieldsList-from_take_while _ is_ascii_digit (YieldsList-at c.take_while.ensures.source rest) c.take_while.ensures.closure c.take_while.ensures.done
    (λ x b q k. search (rules, tests)))
    ∙ run_is s)

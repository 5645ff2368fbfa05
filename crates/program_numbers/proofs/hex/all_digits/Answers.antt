-- `program_numbers::hex::all_digits` meets its contract. Assumes nothing.
use mathlib.Core.Bool.{true, false}
use mathlib.Core.Path.{◌≡◌}
use borrow.Author.Tests.{tests}
use borrow.Author.Rules.{rules}
use Rattle.std.proofs.lemmas.Iterator.{cases_from_all, YieldsList-from_slice}
use Rattle.program_numbers.specs.Hex.{digit_of, hexed}
use Rattle.program_numbers.proofs.ListLaws.{told_all}
use Rattle.program_numbers.proofs.hex.all_digits.Goals as goal

pub returns : goal.returns
unfolding digit_of
returns c =
    told_all hexed c.args.word.now c.all.result (
    cases_from_all _ _ _ (λ x. hexed x ≡ true) (λ x. hexed x ≡ false) c.all.ensures.ran (YieldsList-from_slice c.args.word.now cc) (λ x q k. search (rules, tests)) (λ x q k. search (rules, tests))
    )

-- `cabbook_options::words::name_end` meets its contract. Assumes nothing.
use Rattle.std.proofs.Common.{◌≡◌, rules, sym, arith}
use Rattle.std.proofs.lemmas.Iterator.{YieldsList-from_slice, IsFirst-from_position, index_from_first}
use borrow.Author.Tests.{tests}
use Rattle.cabbook_options.specs.Words.{name_length}
use Rattle.cabbook_options.proofs.NameLaws.{name_empty, length_stops, length_goes, name_inside}
use Rattle.cabbook_options.proofs.words.name_end.Goals as goal

pub returns : goal.returns
returns c =
    let w = c.args.word.now in
    let first = IsFirst-from_position _ _ _ (λ x. x ≡ 61) (λ x. x ≡ 61 → ⊥) c.position.ensures.ran (YieldsList-from_slice w cc) (λ x q k. search (rules, tests)) (λ x q k. search (rules, tests)) in
    let e : name_length w ≡ c.unwrap_or.result = rw c.unwrap_or.ensures (index_from_first name_length (λ x. x ≡ 61) (λ x. x ≡ 61 → ⊥) name_empty length_stops length_goes w c.position.result first) in
    (sym e, omega (arith, name_inside w))

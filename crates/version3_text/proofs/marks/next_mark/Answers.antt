-- `version3_text::marks::next_mark` meets its contract. Assumes nothing.
use Rattle.std.proofs.Common.{rules, tests, ◌≡◌, sym, ◌∙◌, drop, arith, length-drop}
use Rattle.std.proofs.lemmas.List.{take_rest}
use Rattle.std.proofs.lemmas.Iterator.{YieldsList-from_slice}
use Rattle.std.proofs.lemmas.Iterator.Search.{position_from_yields_List}
use Rattle.version3_text.specs.Renewed.{unmarked}
use Rattle.version3_text.proofs.MarkLaws.{marked, unmarked_not}
use Rattle.version3_text.proofs.SoughtLaws.{sought, found, missed}
use Rattle.version3_text.proofs.marks.next_mark.Goals as goal

pub returns-in-Some : goal.returns-in-Some
returns-in-Some c =
    let l = drop c.skip_to_mark-near.result c.args.s.now in
    let e : c.position.result ≡ sought unmarked marked unmarked_not l = position_from_yields_List marked _ _ c.position.result c.position.ensures.ran (YieldsList-from_slice l (c.iter.ensures.rest ∙ take_rest c.args.s.now c.skip_to_mark-near.result)) (λ x b q k. search (rules, tests)) in
    let f = found unmarked marked unmarked_not l c.in-Some.n (sym c.in-Some.is ∙ e) in
    let n = length-drop c.skip_to_mark-near.result c.args.s.now in
    (omega arith, omega arith)

pub returns-in-None : goal.returns-in-None
returns-in-None c =
    let l = drop c.skip_to_mark-near.result c.args.s.now in
    let e : c.position.result ≡ sought unmarked marked unmarked_not l = position_from_yields_List marked _ _ c.position.result c.position.ensures.ran (YieldsList-from_slice l (c.iter.ensures.rest ∙ take_rest c.args.s.now c.skip_to_mark-near.result)) (λ x b q k. search (rules, tests)) in
    let f = missed unmarked marked unmarked_not l (sym c.in-None.is ∙ e) in
    let n = length-drop c.skip_to_mark-near.result c.args.s.now in
    (omega arith, omega arith)

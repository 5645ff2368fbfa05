-- `version3_geo::mark_at` meets its contract. Assumes nothing.
use Rattle.std.proofs.Common.{rules, tests, ◌≡◌, refl, not, eqb}
use Rattle.std.proofs.lemmas.Iterator.{YieldsList-from_slice}
use Rattle.std.proofs.lemmas.Iterator.Search.{position_from_yields_List}
use Rattle.version3_geo.specs.Floats.{up_to}
use Rattle.version3_text.proofs.SoughtLaws.{sought, found_or}
use Rattle.version3_geo.proofs.mark_at.Goals as goal

pub returns : goal.returns
unfolding up_to
returns c =
    let l = c.args.s.now in
    let e : c.position.result ≡ sought (λ b. not (eqb b c.args.mark)) (λ b. eqb b c.args.mark) (λ b. refl) l = position_from_yields_List (λ b. eqb b c.args.mark) _ _ c.position.result c.position.ensures.ran (YieldsList-from_slice l c.iter.ensures.rest) (λ x b q k. search (rules, tests)) in
    rw c.unwrap_or.ensures (found_or (λ b. not (eqb b c.args.mark)) (λ b. eqb b c.args.mark) (λ b. refl) l c.position.result e)

-- `version3_geo::digits_end` meets its contract. Assumes nothing.
use Rattle.std.proofs.Common.{rules, tests, ◌≡◌, not}
use Rattle.std.proofs.lemmas.Iterator.{YieldsList-from_slice}
use Rattle.std.proofs.lemmas.Iterator.Search.{position_from_yields_List}
use Rattle.octets.specs.Classes.{digit}
use Rattle.version3_text.proofs.SoughtLaws.{sought, found_or}
use Rattle.version3_geo.proofs.GeoLaws.{digit_not}
use Rattle.version3_geo.proofs.digits_end.Goals as goal

pub returns : goal.returns
unfolding digit
returns c =
    let l = c.args.s.now in
    let e : c.position.result ≡ sought digit (λ b. not (digit b)) digit_not l = position_from_yields_List (λ b. not (digit b)) _ _ c.position.result c.position.ensures.ran (YieldsList-from_slice l c.iter.ensures.rest) (λ x b q k. search (rules, tests)) in
    rw c.unwrap_or.ensures (found_or digit (λ b. not (digit b)) digit_not l c.position.result e)

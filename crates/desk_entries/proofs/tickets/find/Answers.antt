-- `desk_entries::tickets::find` meets its contract. Assumes nothing.
use Rattle.std.proofs.Common.{◌≡◌, ◌≢◌, rules, tests, arith}
use Rattle.std.proofs.lemmas.Iterator.{YieldsList-from_slice, IsFirst-from_position}
use Rattle.desk_entries.proofs.Searches.{found_at}
use Rattle.desk_entries.proofs.tickets.find.Goals as goal

pub returns : goal.returns
returns c =
    let t = c.args.t in
    found_at c.position.result c.args.tickets.now t c.args.n (omega arith)
    (IsFirst-from_position _ _ c.position.result (λ x. x ≡ t) (λ x. x ≢ t) c.position.ensures.ran (YieldsList-from_slice _ c.iter.ensures.rest) (λ x q k. search (rules, tests)) (λ x q k. search (rules, tests)))

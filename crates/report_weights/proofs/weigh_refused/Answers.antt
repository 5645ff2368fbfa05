-- `report_weights::weigh_refused` meets its contract. Assumes nothing.
use Rattle.std.proofs.Common.{rules, arith}
use borrow.Author.Tests.{tests}
use Rattle.report_weights.specs.Counts.{count_at}
use Rattle.report_weights.specs.Parts.{refused_part}
use Rattle.report_weights.proofs.PlaceLaws.{each_all, each_call}
use Rattle.report_weights.proofs.weigh_refused.Goals as goal

pub returns : goal.returns
returns c =
    let h = c.from_fn.ensures.items in
    each_all (refused_part c.args.n) _ h.long (λ p lt.
    each_call _ _ (λ p. refused_part c.args.n (count_at p)) 59 (λ p y q b k. search (rules, tests)) _ 0 59 (omega arith) h.each p (omega arith) lt)

-- `report_weights::weigh` meets its contract. Assumes nothing.
use mathlib.Core.Path.{sym, ap, ◌∙◌}
use mathlib.Core.List.{map}
use Prim.Native.Nat.{ℕ}
use Rattle.reader.specs.Outcome.{verdict}
use Rattle.report_weights.specs.Counts.{counts}
use Rattle.report_weights.specs.Parts.{refused_part}
use Rattle.reader.proofs.AcceptLaws.{accepting}
use Rattle.report_weights.proofs.PartLaws.{refused_weights, accepted_weights}
use Rattle.report_weights.proofs.weigh.Goals as goal

pub count_lines-by_row-requires : goal.count_lines-by_row-requires
count_lines-by_row-requires c =
    let e = sym c.judge.ensures ∙ ap verdict c.in-Ok.is in
    record { classes = c.table-t.ensures; lists = c.table-rows.ensures; s_len_bound = (accepting _ _ _ _ e).short }

pub returns-in-Err : goal.returns-in-Err
returns-in-Err c =
    c.weigh_refused.ensures ∙ ap (λ (n : ℕ). map (refused_part n) counts) c.number.ensures ∙ refused_weights _ _ _ (sym c.judge.ensures ∙ ap verdict c.in-Err.is)

pub returns-in-Ok : goal.returns-in-Ok
returns-in-Ok c =
    c.weigh_accepted.ensures
    ∙ accepted_weights _ _ _ _ (sym c.judge.ensures ∙ ap verdict c.in-Ok.is) c.count_lines-by_row.ensures

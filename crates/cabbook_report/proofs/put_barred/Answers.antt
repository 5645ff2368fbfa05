-- `cabbook_report::put_barred` meets its contract. Assumes nothing.
use borrow.Author.Tests.{not-true, not-false}
use mathlib.Core.Path.{sym, ap, ◌∙◌}
use mathlib.Core.List.{List, ◌++◌}
use Prim.Native.Nat.{ℕ}
use Rattle.octets.specs.Ascii as ascii
use Rattle.program_output.proofs.PageLaws.{then}
use Rattle.report_weights.specs.Counts.{count_at}
use Rattle.report.specs.Text.{shown}
use Rattle.report.proofs.TextLaws.{as_text}
use Rattle.cabbook_report.proofs.BarLaws.{not_barred, is_barred, cell_text}
use Rattle.cabbook_report.proofs.put_barred.Goals as goal

pub returns-then-not-is_shown : goal.returns-then-not-is_shown
returns-then-not-is_shown c = not_barred _ _ _ _ (sym c.is_shown.ensures ∙ not-true _ c.if-not-is_shown.true-raw)

pub returns : goal.returns
unfolding ascii.octets
returns c =
    let a = c.args in
    let h = sym c.is_shown.ensures ∙ not-false _ c.if-not-is_shown.false-raw in
    as_text _ _ _ (then _ _ _ c.put_all-next.ensures c.put_row.ensures)
    (ap (λ (t : List ℕ). t ++ shown (count_at a.place) a.n) (cell_text a.k) ∙ is_barred _ _ _ h)

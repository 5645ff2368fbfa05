-- `merge_partners::join_row` meets its contract. Assumes nothing.
use borrow.Author.Tests.{eq-eqb, ne_eqb}
use mathlib.Core.Path.{sym, ap, ◌∙◌}
use Prim.Native.Nat.{ℕ}
use Rattle.property_table.specs.Rows.{once_at}
use Rattle.merge_sides.specs.Lines.{count_lines, first_line}
use Rattle.merge_partners.specs.Pairs.{join_to, join_all, row_pairs}
use Rattle.merge_partners.proofs.join_row.Goals as goal

pub once_of-requires : goal.once_of-requires
once_of-requires c = record { lists = c.requires.lists; row_lt_all = c.requires.row_lt_all }

pub returns-then-once_of-eq0 : goal.returns-then-once_of-eq0
unfolding join_all row_pairs
returns-then-once_of-eq0 c = rw (eq-eqb (once_at c.args.row) 0 (sym c.once_of.ensures.value ∙ c.if-once_of-eq0.true))

pub returns-then-count_lines-ne1 : goal.returns-then-count_lines-ne1
unfolding join_all row_pairs
returns-then-count_lines-ne1 c = rw (ne_eqb (once_at c.args.row) 0 (λ e. c.if-once_of-eq0.false (c.once_of.ensures.value ∙ e)), ne_eqb (count_lines c.args.x.now.records.now c.args.row 0 c.args.x.now.lines) 1 (λ e. c.if-count_lines-ne1.true (c.count_lines.ensures ∙ e)))

pub returns-then-count_lines-ne1-2 : goal.returns-then-count_lines-ne1-2
unfolding join_all row_pairs
returns-then-count_lines-ne1-2 c = rw (ne_eqb (once_at c.args.row) 0 (λ e. c.if-once_of-eq0.false (c.once_of.ensures.value ∙ e)), eq-eqb (count_lines c.args.x.now.records.now c.args.row 0 c.args.x.now.lines) 1 (sym c.count_lines.ensures ∙ c.if-count_lines-ne1.false), ne_eqb (count_lines c.args.y.now.records.now c.args.row 0 c.args.y.now.lines) 1 (λ e. c.if-count_lines-ne1-2.true (c.count_lines-2.ensures ∙ e)))

pub returns : goal.returns
unfolding join_all row_pairs
returns c =
    rw (ne_eqb (once_at c.args.row) 0 (λ e. c.if-once_of-eq0.false (c.once_of.ensures.value ∙ e)), eq-eqb (count_lines c.args.x.now.records.now c.args.row 0 c.args.x.now.lines) 1 (sym c.count_lines.ensures ∙ c.if-count_lines-ne1.false), eq-eqb (count_lines c.args.y.now.records.now c.args.row 0 c.args.y.now.lines) 1 (sym c.count_lines-2.ensures ∙ c.if-count_lines-ne1-2.false))
    (c.join.ensures ∙ ap (λ (i : ℕ). join_to c.args.p.now c.args.t.now i c.find_line-j.result) c.find_line-i.ensures.value ∙ ap (join_to c.args.p.now c.args.t.now (first_line c.args.x.now.records.now c.args.row 0 c.args.x.now.lines)) c.find_line-j.ensures.value)

-- `merge_partners::digest_of` meets its contract. Assumes nothing.
use borrow.Author.Tests.{eq-eqb, ne_eqb}
use mathlib.Core.Path.{sym, ap, ◌∙◌}
use native.Mathlib.Omega.{arith}
use Rattle.merge_sides.specs.Lines.{field_at, name_at}
use Rattle.merge_sides.proofs.Walks.{part_at, sum_at}
use Rattle.merge_partners.specs.Heads.{digest_from, digest_of}
use Rattle.merge_partners.proofs.digest_of.Goals as goal

pub returns-then-row-ne-OTHER : goal.returns-then-row-ne-OTHER
unfolding digest_of
returns-then-row-ne-OTHER c = rw (ne_eqb (field_at c.args.side.now.records.now c.args.i 0) 0 (λ e. c.if-row-ne-OTHER.true (c.field_at-row.ensures.value ∙ e))) c.field_at-row.ensures.value

pub overflow_add-start : goal.overflow_add-start
overflow_add-start c = omega (arith, c.name_start-start.ensures.upper_bound, c.field_at.ensures.upper_bound)

pub returns : goal.returns
unfolding digest_of name_at
returns c = rw (eq-eqb (field_at c.args.side.now.records.now c.args.i 0) 0 (sym c.field_at-row.ensures.value ∙ c.if-row-ne-OTHER.false)) (c.digest_name.ensures ∙ ap (digest_from 0) (c.part-name.ensures ∙ part_at c.args.side.now.copy.now c.name_start-start.ensures.value (sum_at c.name_start-start.ensures.value c.field_at.ensures.value)))

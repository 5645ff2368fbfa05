-- `merge_sides::add_line` meets its contract. Assumes nothing.
use borrow.Author.Tests.{eq-eqb, ne_eqb}
use mathlib.Core.Path.{sym, ap, ◌∙◌}
use native.Mathlib.Omega.{arith}
use Rattle.merge_sides.specs.Lines.{field_at}
use Rattle.merge_sides.specs.Sources.{with_source, with_line}
use Rattle.merge_sides.proofs.add_line.Goals as goal

pub returns-then-field_at-ne-CLIENTPIDMAP : goal.returns-then-field_at-ne-CLIENTPIDMAP
unfolding with_line
returns-then-field_at-ne-CLIENTPIDMAP c = record { value = rw (ne_eqb (field_at c.args.rs.now c.args.i 0) 32 (λ e. c.if-field_at-ne-CLIENTPIDMAP.true (c.field_at.ensures.value ∙ e))); count_bound = omega arith }

pub add_source-requires : goal.add_source-requires
add_source-requires c = c.requires

pub returns : goal.returns
unfolding with_line
returns c = record { value = rw (eq-eqb (field_at c.args.rs.now c.args.i 0) 32 (sym c.field_at.ensures.value ∙ c.if-field_at-ne-CLIENTPIDMAP.false)) (c.add_source.ensures.value ∙ ap (with_source c.args.r) c.source_at.ensures); count_bound = omega (arith, c.add_source.ensures.count_value) }

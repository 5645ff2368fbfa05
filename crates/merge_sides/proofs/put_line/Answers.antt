-- `merge_sides::put_line` meets its contract. Assumes nothing.
use borrow.Author.Tests.{eq-eqb, ne_eqb}
use mathlib.Core.Path.{◌≡◌, sym, ap, ◌∙◌}
use mathlib.Core.List.{List}
use Prim.Native.Nat.{ℕ, suc}
use native.Mathlib.Omega.{arith}
use lib.ListN.{length}
use Rattle.merge_pids.specs.Marks.{marked, put_all, params_marks}
use Rattle.merge_sides.specs.Lines.{field_at}
use Rattle.merge_sides.specs.Sources.{narrowed}
use Rattle.merge_sides.specs.Marks.{behind_name, line_marks}
use Rattle.merge_sides.proofs.Walks.{part_at, sum_at}
use Rattle.merge_sides.proofs.put_line.Goals as goal

pub returns-then-field_at-eq0 : goal.returns-then-field_at-eq0
unfolding put_all line_marks
returns-then-field_at-eq0 c = rw (eq-eqb (field_at c.args.rs.now c.args.i 5) 0 (sym c.field_at.ensures.value ∙ c.if-field_at-eq0.true))

pub overflow_add-name_end : goal.overflow_add-name_end
overflow_add-name_end c = omega (arith, c.name_start.ensures.upper_bound, c.field_at-2.ensures.upper_bound)

pub overflow_add-start : goal.overflow_add-start
overflow_add-start c = omega (arith, c.field_at-start.ensures.upper_bound, c.field_at-3.ensures.upper_bound)

pub put_params-requires : goal.put_params-requires
put_params-requires c = c.requires

pub returns : goal.returns
unfolding line_marks behind_name
returns c =
    let l : c.part-l.result.now ≡ behind_name c.args.c.now c.args.rs.now c.args.i = c.part-l.ensures ∙ part_at c.args.c.now (sum_at c.name_start.ensures.value c.field_at-2.ensures.value) (sum_at c.field_at-start.ensures.value c.field_at-3.ensures.value) in
    rw (ne_eqb (field_at c.args.rs.now c.args.i 5) 0 (λ e. c.if-field_at-eq0.false (c.field_at.ensures.value ∙ e)))
    (c.put_params.ensures
    ∙ ap (λ (k : ℕ). put_all (marked c.args.at c.args.out.now) (params_marks k (suc (length c.part-l.result.now)) c.part-l.result.now)) c.narrow.ensures
    ∙ ap (λ (m : List ℕ). put_all (marked c.args.at c.args.out.now) (params_marks (narrowed c.args.i) (suc (length m)) m)) l)

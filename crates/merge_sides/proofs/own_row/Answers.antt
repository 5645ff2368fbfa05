-- `merge_sides::own_row` meets its contract. Assumes nothing.
use mathlib.Core.Path.{sym, ap, ◌∙◌}
use mathlib.Core.List.{[]}
use Prim.Native.Nat.{◌-◌, ◌+◌}
use native.Mathlib.Nat.{sub-zero}
use native.Mathlib.Omega.{arith}
use Rattle.merge_sources.specs.Row.{filled}
use Rattle.merge_sources.specs.declared.Row.{Row}
use Rattle.merge_sides.specs.Sources.{with_lines, own_row}
use Rattle.merge_sides.proofs.Walks.{lines_turn, lines_over}
use Rattle.merge_sides.proofs.own_row.Goals as goal

pub loop-i-init : goal.loop-i-init
unfolding own_row filled
loop-i-init c = (omega (arith, ap (λ (q : Row). q.count) c.empty-r.ensures), ap (with_lines (filled 0 [] 0) c.args.c.now c.args.rs.now 0) (sym (sub-zero c.args.n)) ∙ ap (λ (q : Row). with_lines q c.args.c.now c.args.rs.now 0 (c.args.n - 0)) (sym c.empty-r.ensures))

pub add_line-r-requires : goal.add_line-r-requires
add_line-r-requires c = omega (arith, c.loop-i.invariant.0, c.loop-i-test.true)

pub loop-i-preserved : goal.loop-i-preserved
loop-i-preserved c = (omega (arith, c.loop-i.invariant.0, c.add_line-r.ensures.count_bound), c.loop-i.invariant.1 ∙ lines_turn c.loop-i.r c.args.c.now c.args.rs.now c.args.n c.loop-i.i c.loop-i-test.true ∙ ap (λ (q : Row). with_lines q c.args.c.now c.args.rs.now (c.loop-i.i + 1) (c.args.n - (c.loop-i.i + 1))) (sym c.add_line-r.ensures.value))

pub returns : goal.returns
returns c = sym (c.loop-i.invariant.1 ∙ lines_over c.loop-i.r c.args.c.now c.args.rs.now c.args.n c.loop-i.i c.loop-i-test.false)

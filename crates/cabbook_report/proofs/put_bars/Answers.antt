-- `cabbook_report::put_bars` meets its contract. Assumes nothing.
use borrow.Author.Rules.{rules}
use mathlib.Core.Path.{refl, sym, ap, ◌∙◌}
use Prim.Native.Nat.{ℕ, ◌-◌}
use native.Mathlib.Omega.{arith}
use lib.ListN.{get_or}
use Rattle.program_output.proofs.PageLaws.{added_piece}
use Rattle.cabbook_report.specs.Bars.{bar_length}
use Rattle.cabbook_report.proofs.BarLaws.{bars_turn, bars_done}
use Rattle.cabbook_report.proofs.put_bars.Goals as goal

pub loop-place-init : goal.loop-place-init
loop-place-init c = (search rules, refl, refl)

pub bar_length-requires : goal.bar_length-requires
bar_length-requires c = omega (arith, c.wide_number-n.ensures.1)

pub put_barred-at-requires : goal.put_barred-at-requires
put_barred-at-requires c = (c.loop-place-test.true, c.bar_length.ensures.1)

pub loop-place-preserved : goal.loop-place-preserved
loop-place-preserved c =
    let l = c.loop-place in
    let values = c.args.values.now in
    let n = c.wide_number-n in
    let whole = c.wide_number-whole.ensures.0 ∙ ap (λ (j : ℕ). get_or values j 0) c.whole_of.ensures.0 in
    let k = c.bar_length.ensures.0 ∙ ap (bar_length n.result) whole in
    (search rules, search rules, l.invariant.2 ∙ sym (added_piece _ _ _ _ _ (bars_turn values l.place n.result _ c.loop-place-test.true n.ensures.0 k) c.put_barred-at.ensures))

pub shape_of-room : goal.shape_of-room
shape_of-room c = c.loop-place.invariant.1

pub returns : goal.returns
returns c =
    let l = c.loop-place in
    sym (l.invariant.2 ∙ bars_done c.args.values.now l.place _ c.loop-place-test.false)

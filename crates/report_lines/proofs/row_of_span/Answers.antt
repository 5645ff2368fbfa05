-- `report_lines::row_of_span` meets its contract. Assumes nothing.
use borrow.Author.Tests.{not-true, not-false}
use mathlib.Core.Path.{sym, ap, ◌∙◌}
use mathlib.Core.Bool.{Bool}
use mathlib.Core.List.{◌++◌}
use Prim.Native.Nat.{ℕ}
use native.Mathlib.Omega.{arith}
use lib.ListN.{take, drop, length-take}
use lib.Seq.{take_at}
use Rattle.octets.specs.Pick.{pick}
use Rattle.octets.specs.Room.{overlay}
use Rattle.line_folds.specs.Folds.{unfolded}
use Rattle.line_folds.proofs.FoldLaws.{unfold_shorter}
use Rattle.report_lines.specs.Rows.{row_of_name}
use Rattle.report_lines.proofs.row_of_span.Goals as goal

pub returns-then-not-folded : goal.returns-then-not-folded
returns-then-not-folded c =
    let a = c.args in
    let e = c.if-not-folded.true in record { value = (c.row_of.ensures.0 ∙ ap row_of_name (sym (c.requires.s_value e)), c.row_of.ensures.1); scratch_after = (sym (ap (λ (t : Bool). pick t (overlay (unfolded a.s.now) a.scratch.now) a.scratch.now) e)) }

pub slice_bounds-row_of-end-2 : goal.slice_bounds-row_of-end-2
slice_bounds-row_of-end-2 c = simp length-take (omega (arith, c.unfold-n.ensures.0, c.unfold-n.auto.d, c.requires.s_in_bounds))

pub row_of-requires-2 : goal.row_of-requires-2
row_of-requires-2 c = record { classes = c.requires.classes; lists = c.requires.lists; s_len_bound = simp length-take (omega (arith, c.unfold-n.ensures.0, unfold_shorter c.args.s.now, c.requires.s_len_bound)) }

pub returns : goal.returns
returns c =
    let a = c.args in
    let u = c.unfold-n in
    let e = c.if-not-folded.false in
    let w = ap (take u.result) u.ensures.1 ∙ take_at _ _ u.result (sym u.ensures.0) in record {
      value = (c.row_of-2.ensures.0 ∙ ap row_of_name w, c.row_of-2.ensures.1);
      scratch_after = (u.ensures.1 ∙ ap (λ (n : ℕ). unfolded a.s.now ++ drop n a.scratch.now) u.ensures.0
          ∙ sym (ap (λ (t : Bool). pick t (overlay (unfolded a.s.now) a.scratch.now) a.scratch.now) e));
    }

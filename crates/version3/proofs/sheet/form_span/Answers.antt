-- the scratch holds the line unfolded
use mathlib.Core.Path.{◌≡◌, sym, ap, ◌∙◌, subst}
use mathlib.Core.List.{List}
use Prim.Native.Nat.{ℕ}
use native.Mathlib.Omega.{arith}
use lib.ListN.{length, take}
use borrow.Author.Tests.{not-true}
use lib.Seq.{take_at}
use Rattle.line_folds.specs.Folds.{unfolded}
use Rattle.line_folds.proofs.FoldLaws.{unfold_shorter}
use Rattle.version3.specs.Card.{Formed}
use Rattle.version3.proofs.sheet.form_span.Goals as goal

-- src/sheet.rt:105:9
pub form_line-requires : goal.form_line-requires
form_line-requires c = record { classes = c.requires.classes; s_len_bound = (c.requires.s_len_bound.0, c.requires.s_len_bound.2) }

-- src/sheet.rt:105:9
pub returns-then-not-folds : goal.returns-then-not-folds
returns-then-not-folds c = subst (λ (l : List ℕ). Formed c.args.way l c.form_line.result c.form_line.new.d) (sym (c.requires.s_value (not-true _ c.if-not-folds.true-raw))) c.form_line.ensures

-- src/sheet.rt:107:9
pub unfold-n-requires : goal.unfold-n-requires
unfold-n-requires c = omega (arith, unfold_shorter c.args.s.now, c.requires.s_len_bound.1)

-- src/sheet.rt:108:29
pub slice_bounds-form_line-end : goal.slice_bounds-form_line-end
slice_bounds-form_line-end c = omega (arith, unfold_shorter c.args.s.now, c.requires.s_len_bound.1)

-- src/sheet.rt:108:29
pub slice_bounds-form_line-end-2 : goal.slice_bounds-form_line-end-2
slice_bounds-form_line-end-2 c =
    let text : take c.unfold-n.result c.unfold-n.new.d ≡ unfolded c.args.s.now = let u = c.unfold-n in
    ap (take u.result) u.ensures.1 ∙ take_at _ _ u.result (sym u.ensures.0) in
    sym (ap length text ∙ sym c.unfold-n.ensures.0)

-- src/sheet.rt:108:5
pub form_line-requires-2 : goal.form_line-requires-2
form_line-requires-2 c =
    let text : take c.unfold-n.result c.unfold-n.new.d ≡ unfolded c.args.s.now = let u = c.unfold-n in
    ap (take u.result) u.ensures.1 ∙ take_at _ _ u.result (sym u.ensures.0) in
    record { classes = c.requires.classes; s_len_bound = rw text (omega (arith, unfold_shorter c.args.s.now, c.requires.s_len_bound.0), omega (arith, unfold_shorter c.args.s.now, c.requires.s_len_bound.2)) }

-- src/sheet.rt:90:1
pub returns : goal.returns
returns c =
    let text : take c.unfold-n.result c.unfold-n.new.d ≡ unfolded c.args.s.now = let u = c.unfold-n in
    ap (take u.result) u.ensures.1 ∙ take_at _ _ u.result (sym u.ensures.0) in
    subst (λ (l : List ℕ). Formed c.args.way l c.form_line-2.result c.form_line-2.new.d) text c.form_line-2.ensures

-- `crate::text::put_unfolded` meets its contract. Assumes nothing.
use mathlib.Core.Path.{◌≡◌, sym, ap, ◌∙◌}
use native.Mathlib.Omega.{arith}
use lib.ListN.{take}
use lib.Seq.{take_at}
use Rattle.line_folds.specs.Folds.{unfolded}
use Rattle.line_folds.proofs.FoldLaws.{unfold_shorter}
use Rattle.folder.proofs.text.put_unfolded.Goals as goal

pub unfold-n-requires : goal.unfold-n-requires
unfold-n-requires c = omega (arith, unfold_shorter c.args.s.now, c.requires)

pub put_line-requires : goal.put_line-requires
put_line-requires c =
    let text : take c.unfold-n.result c.unfold-n.new.d ≡ unfolded c.args.s.now = let u = c.unfold-n in
    ap (take u.result) u.ensures.1 ∙ take_at _ _ u.result (sym u.ensures.0) in
    let p = c.requires in
    (rw text p.0, rw text (omega (arith, p.1, unfold_shorter c.args.s.now)))

pub returns : goal.returns
returns c =
    let text : take c.unfold-n.result c.unfold-n.new.d ≡ unfolded c.args.s.now = let u = c.unfold-n in
    ap (take u.result) u.ensures.1 ∙ take_at _ _ u.result (sym u.ensures.0) in
    let a = c.args in
    let e = text in
    let f = c.put_line in
    (rw e at f.ensures.0, omega (arith, rw e at f.ensures.1, unfold_shorter a.s.now))

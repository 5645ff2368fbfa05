-- `version3::sheet::place_lines` meets its contract. Assumes nothing.
use mathlib.Core.Path.{◌≡◌, refl, sym, ap, ◌∙◌, subst}
use mathlib.Core.List.{List}
use Prim.Native.Nat.{ℕ, ◌+◌, ◌-◌, ◌*◌, ◌≤◌}
use native.Mathlib.Omega.{arith}
use lib.ListN.{length, take, drop}
use Rattle.line_folds.specs.Folds.{unfolded}
use Rattle.line_folds.proofs.FoldLaws.{unfold_shorter}
use Rattle.line_folds.proofs.SpanLaws.{whole, part_length}
use Rattle.folder_line.specs.Pieces.{Clean}
use Rattle.version3_parameters.specs.declared.Way.{Way}
use Rattle.version3.specs.Card.{form_of}
use Rattle.version3.proofs.CardLaws.{form_clean, form_most}
use Rattle.version3.proofs.PlaceLaws.{within, ended, onward, cramped}
use Rattle.version3.proofs.sheet.place_lines.Goals as goal

-- the line from `at` up to `end`
abbrev line : List ℕ → ℕ → ℕ → List ℕ
line s at end = take (end - at) (drop at s)

-- how long its form is at most
size : (w : Way) (s : List ℕ) (at end : ℕ) → length (line s at end) ≡ end - at → length (form_of w (unfolded (line s at end))) ≤ 2 * (end - at) + 16
size w s at end n = omega (arith, n, form_most w (unfolded (line s at end)), unfold_shorter (line s at end))

pub loop-at-init : goal.loop-at-init
loop-at-init c = (refl, refl, refl, refl, refl, c.requires.halfway)

pub shape_of-scratch-then-most-end : goal.shape_of-scratch-then-most-end
shape_of-scratch-then-most-end c = c.loop-at.invariant.0

pub shape_of-form-then-most-end : goal.shape_of-form-then-most-end
shape_of-form-then-most-end c = c.loop-at.invariant.1

pub shape_of-first-then-most-end : goal.shape_of-first-then-most-end
shape_of-first-then-most-end c = c.loop-at.invariant.2

pub shape_of-second-then-most-end : goal.shape_of-second-then-most-end
shape_of-second-then-most-end c = c.loop-at.invariant.3

pub shape_of-others-then-most-end : goal.shape_of-others-then-most-end
shape_of-others-then-most-end c = c.loop-at.invariant.4

pub returns-then-most-end : goal.returns-then-most-end
returns-then-most-end c = (c.if-most-end.true, omega (arith, c.line_at-span.ensures.2), c.loop-at.invariant.5)

pub form_span-f-requires : goal.form_span-f-requires
form_span-f-requires c =
    let a = c.args in
    let l = c.loop-at in
    let v = c.line_at-span in
    let n = part_length a.s.now l.at v.result.end c.loop-at-test.true v.ensures.1 v.ensures.2 in
    record { classes = c.requires.classes; s_len_bound = (omega (arith, n, v.ensures.2, c.requires.s_len_bound.0), omega (arith, n, c.if-most-end.false, l.invariant.0, c.requires.s_len_bound.1), omega (arith, n, c.if-most-end.false, l.invariant.1, c.requires.s_len_bound.2)); s_value = whole a.s.now l.at v.result.cr v.result.end v.ensures.0 }

pub slice_bounds-place_line-end : goal.slice_bounds-place_line-end
slice_bounds-place_line-end c =
    let a = c.args in
    let l = c.loop-at in
    let v = c.line_at-span in
    let n = part_length a.s.now l.at v.result.end c.loop-at-test.true v.ensures.1 v.ensures.2 in
    let k = size a.way a.s.now l.at v.result.end n in
    omega (arith, c.form_span-f, k, l.invariant.1, c.form_span-f.ensures.count, c.if-most-end.false, c.requires.s_len_bound.2)

pub slice_bounds-place_line-end-in-loop-at : goal.slice_bounds-place_line-end-in-loop-at
slice_bounds-place_line-end-in-loop-at c = sym (ap length c.form_span-f.ensures.text ∙ sym c.form_span-f.ensures.count)

pub place_line-requires : goal.place_line-requires
place_line-requires c =
    let h = c.loop-at.invariant.5 in
    let s = unfolded (line c.args.s.now c.loop-at.at c.line_at-span.result.end) in
    (subst Clean (sym c.form_span-f.ensures.text) (form_clean c.args.way s), within h (omega (arith, c.loop-at.invariant.2, c.requires.lent.0), omega (arith, c.loop-at.invariant.3, c.requires.lent.1), omega (arith, c.loop-at.invariant.4, c.requires.lent.2)))

pub overflow_add-at : goal.overflow_add-at
overflow_add-at c = omega (arith, c.line_at-span.ensures.2, c.requires.s_len_bound.0)

pub loop-at-smaller : goal.loop-at-smaller
loop-at-smaller c = omega (arith, c.line_at-span.ensures.1, c.loop-at-test.true)

pub loop-at-preserved : goal.loop-at-preserved
loop-at-preserved c =
    let v = c.line_at-span in
    (omega (arith, c.form_span-f, c.loop-at.invariant.0), omega (arith, c.form_span-f, c.loop-at.invariant.1), omega (arith, c.place_line, c.loop-at.invariant.2), omega (arith, c.place_line, c.loop-at.invariant.3), omega (arith, c.place_line, c.loop-at.invariant.4), onward c.loop-at.invariant.5 v.result.end c.loop-at-test.true v.ensures.1 v.ensures.2 _ _ _ (omega (arith, c.place_line)) (omega (arith, c.place_line)) (omega (arith, c.place_line)) _ (rw (c.in_ok-e.was, c.form_span-f.ensures.turn, c.form_span-f.ensures.text) at c.place_line.ensures))

pub shape_of-scratch-in_err-e : goal.shape_of-scratch-in_err-e
shape_of-scratch-in_err-e c = omega (arith, c.form_span-f, c.loop-at.invariant.0)

pub shape_of-form-in_err-e : goal.shape_of-form-in_err-e
shape_of-form-in_err-e c = omega (arith, c.form_span-f, c.loop-at.invariant.1)

pub shape_of-first-in_err-e : goal.shape_of-first-in_err-e
shape_of-first-in_err-e c = omega (arith, c.place_line, c.loop-at.invariant.2)

pub shape_of-second-in_err-e : goal.shape_of-second-in_err-e
shape_of-second-in_err-e c = omega (arith, c.place_line, c.loop-at.invariant.3)

pub shape_of-others-in_err-e : goal.shape_of-others-in_err-e
shape_of-others-in_err-e c = omega (arith, c.place_line, c.loop-at.invariant.4)

pub returns-in_err-e : goal.returns-in_err-e
returns-in_err-e c =
    let v = c.line_at-span in
    let k = cramped c.loop-at.invariant.5 v.result.end c.loop-at-test.true v.ensures.1 v.ensures.2 c.place_line.new.first c.place_line.new.second c.place_line.new.others (omega (arith, c.place_line)) (omega (arith, c.place_line)) (omega (arith, c.place_line)) (rw (c.in_err-e.was, c.form_span-f.ensures.turn, c.form_span-f.ensures.text) at c.place_line.ensures) in
    rw c.from_residual.ensures k

pub shape_of-scratch : goal.shape_of-scratch
shape_of-scratch c = c.loop-at.invariant.0

pub shape_of-form : goal.shape_of-form
shape_of-form c = c.loop-at.invariant.1

pub shape_of-first : goal.shape_of-first
shape_of-first c = c.loop-at.invariant.2

pub shape_of-second : goal.shape_of-second
shape_of-second c = c.loop-at.invariant.3

pub shape_of-others : goal.shape_of-others
shape_of-others c = c.loop-at.invariant.4

pub returns : goal.returns
returns c = ended c.loop-at.invariant.5 c.loop-at-test.false (omega (arith, c.loop-at.invariant.2, c.requires.lent.0), omega (arith, c.loop-at.invariant.3, c.requires.lent.1), omega (arith, c.loop-at.invariant.4, c.requires.lent.2))

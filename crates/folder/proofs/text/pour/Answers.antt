-- `crate::text::pour` meets its contract. Assumes nothing.
use mathlib.Core.Path.{◌≡◌, sym, ap, ◌∙◌}
use mathlib.Core.List.{List, ◌++◌, map, append_assoc}
use Prim.Native.Nat.{ℕ, ◌+◌, ◌-◌, ◌≤◌}
use native.Mathlib.Omega.{arith}
use lib.ListN.{length, take, drop, length-append, length-take, length-drop}
use borrow.Rule.Slice.PartMut.{same_len_mid}
use Rattle.line_folds.specs.Folds.{unfolded}
use Rattle.line_folds.specs.Logical.{logical_lines}
use Rattle.line_folds.proofs.SpanLaws.{whole}
use Rattle.line_unfolding.proofs.PutLaws.{put_part}
use Rattle.folder_line.specs.Pieces.{folded, folded_lines}
use Rattle.folder_raising.specs.Walk.{written}
use Rattle.folder.proofs.TextLaws.{fold_turn, clean_turn}
use Rattle.folder.proofs.FitLaws.{reach, missed, left_as, whole_length, over_poured, poured_whole}
use Rattle.folder.proofs.RunLaws.{rest_from, run_on, run_none, run_end}
use Rattle.folder.proofs.text.pour.Goals as goal

-- the line of a turn, the run before it, what is written of the turn, and what is left then
abbrev L : List ℕ → ℕ → ℕ → List ℕ
L s p e = take (e - p) (drop p s)

abbrev R : List ℕ → ℕ → ℕ → List ℕ
R s from p = take (p - from) (drop from s)

abbrev X : (List ℕ → List ℕ) → List ℕ → ℕ → ℕ → ℕ → List ℕ
X f s from p e = R s from p ++ folded (f (unfolded (L s p e)))

abbrev N : (List ℕ → List ℕ) → List ℕ → ℕ → List ℕ
N f s e = folded_lines (map f (logical_lines (drop (e + 2) s)))

turn : (f : List ℕ → List ℕ) (s : List ℕ) (from p e : ℕ) → folded_lines (map f (logical_lines (drop p s))) ≡ folded (f (unfolded (L s p e))) ++ N f s e
    → rest_from f s from p ≡ X f s from p e ++ N f s e
turn f s from p e h = ap (λ (r : List ℕ). R s from p ++ r) h ∙ sym (append_assoc (R s from p) (folded (f (unfolded (L s p e)))) (N f s e))

tail_length : (d : List ℕ) (w : ℕ) → w ≤ length d → length (take (length d - w) (drop w d)) ≡ length d - w
tail_length d w h = simp (length-take, length-drop) (omega arith)

pub stays-same-requires : goal.stays-same-requires
stays-same-requires c =
    let v = c.line_at-span in
    let clean = clean_turn c.args.s.now c.loop-at.at c.line_at-span.result.end c.loop-at-test.true c.line_at-span.ensures.1 c.line_at-span.ensures.2 c.loop-at.invariant.2 in
    record { at_le_end = (omega arith, omega arith, clean.0); s_value = whole c.args.s.now c.loop-at.at v.result.cr v.result.end v.ensures.0 }

pub loop-at-preserved-then-same : goal.loop-at-preserved-then-same
loop-at-preserved-then-same c =
    let l = c.loop-at in
    let s = c.args.s.now in
    let f = written c.args.style in
    let end = c.line_at-span.result.end in
    let clean = clean_turn c.args.s.now c.loop-at.at c.line_at-span.result.end c.loop-at-test.true c.line_at-span.ensures.1 c.line_at-span.ensures.2 c.loop-at.invariant.2 in
    let k = c.stays-same.ensures c.if-same.true in
    let e = fold_turn c.args.s.now c.loop-at.at c.line_at-span.result.end c.loop-at-test.true c.line_at-span.ensures.1 c.line_at-span.ensures.2 (written c.args.style) ∙ ap (λ (r : List ℕ). r ++ N f s end) k.1 in
    (omega arith, λ _. k.0, clean.1, left_as (run_on f s l.from l.at (end + 2) l.invariant.0 (omega arith) e) l.invariant.3)

pub put_behind-n-requires : goal.put_behind-n-requires
put_behind-n-requires c =
    let v = c.line_at-span in
    let clean = clean_turn c.args.s.now c.loop-at.at c.line_at-span.result.end c.loop-at-test.true c.line_at-span.ensures.1 c.line_at-span.ensures.2 c.loop-at.invariant.2 in
    record {
      clean = (clean.0, simp (length-take, length-drop) (omega arith), simp (length-take, length-drop) (omega arith));
      s_value = whole c.args.s.now c.loop-at.at v.result.cr v.result.end v.ensures.0;
    }

pub returns-then-d-w : goal.returns-then-d-w
returns-then-d-w c =
    let l = c.loop-at in
    let s = c.args.s.now in
    let f = written c.args.style in
    let end = c.line_at-span.result.end in
    let h = l.invariant.3 in
    let room = same_len_mid c.loop-at.w (length c.loop-at.d - c.loop-at.w) c.loop-at.d c.put_behind-n.new.d c.put_behind-n.auto.d in
    let tail = tail_length c.loop-at.d c.loop-at.w (omega arith) in
    let m = missed c.put_behind-n.ensures (rw tail (rw room at c.if-d-w.true)) in
    over_poured _ _ _ (omega (arith, m, tail, h.same, whole_length _ h, ap length (turn f s l.from l.at end (fold_turn c.args.s.now c.loop-at.at c.line_at-span.result.end c.loop-at-test.true c.line_at-span.ensures.1 c.line_at-span.ensures.2 (written c.args.style))) ∙ length-append (X f s l.from l.at end) (N f s end)))

pub loop-at-preserved : goal.loop-at-preserved
loop-at-preserved c =
    let l = c.loop-at in
    let s = c.args.s.now in
    let f = written c.args.style in
    let end = c.line_at-span.result.end in
    let clean = clean_turn c.args.s.now c.loop-at.at c.line_at-span.result.end c.loop-at-test.true c.line_at-span.ensures.1 c.line_at-span.ensures.2 c.loop-at.invariant.2 in
    let room = same_len_mid c.loop-at.w (length c.loop-at.d - c.loop-at.w) c.loop-at.d c.put_behind-n.new.d c.put_behind-n.auto.d in
    let tail = tail_length c.loop-at.d c.loop-at.w (omega arith) in
    let q = reach c.put_behind-n.ensures (rw tail (rw room at c.if-d-w.false)) in
    let fits : l.w + length (X f s l.from l.at end) ≤ length l.d = omega (arith, q.2, tail, l.invariant.3.inside) in (
      omega arith,
      λ g. absurd (omega arith),
      clean.1,
      rw q.0 (left_as (run_none f s (end + 2)) (put_part l.invariant.3 (X f s l.from l.at end) (N f s end) _ (turn f s l.from l.at end (fold_turn c.args.s.now c.loop-at.at c.line_at-span.result.end c.loop-at-test.true c.line_at-span.ensures.1 c.line_at-span.ensures.2 (written c.args.style))) fits q.1)),
    )

pub returns : goal.returns
returns c =
    let l = c.loop-at in
    let a = c.args in
    let e = run_end (written a.style) a.s.now l.from l.at l.invariant.0 l.invariant.1 c.loop-at-test.false ∙ sym c.part.ensures in
    poured_whole (left_as e l.invariant.3) c.put_run.ensures

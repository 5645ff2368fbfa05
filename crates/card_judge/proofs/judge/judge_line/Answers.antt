-- `card_judge::judge::judge_line` meets its contract. Assumes nothing.
use borrow.Author.Tests.{lt-ltb}
use mathlib.Core.Path.{◌≡◌, sym, ap, subst, ◌∙◌}
use mathlib.Core.List.{List}
use mathlib.Core.Bool.{false}
use Prim.Native.Nat.{ℕ, ◌-◌, ◌≤◌}
use native.Mathlib.Omega.{arith}
use lib.ListN.{length, take, drop, length-take}
use Rattle.utf8.specs.Characters.{allowed, first_bad}
use Rattle.card_line.proofs.PartLaws.{Read, read, parts_ok}
use Rattle.card_state.specs.Kept.{card_of}
use Rattle.card_line.specs.Parts.{parted}
use Rattle.card_judge.specs.Judge.{judge_line, Keeping, read_by, added_by}
use Rattle.card_judge.proofs.JudgeLaws.{refused, judged, added_line}
use Rattle.card_judge.proofs.SettleLaws.{stopped, flawed_stop}
use Rattle.card_judge.proofs.judge.judge_line.Goals as goal

pub returns-then-bad-s : goal.returns-then-bad-s
unfolding judge_line
returns-then-bad-s c =
    let a = c.args in
    let l = a.s.now in
    let w : (read_by c.unkept.result a.store.now a.s.now ≡ judge_line a.edition (card_of a.c a.store.now) a.at a.s.now) × Keeping a.c a.s.now (added_by a.edition a.c.seen a.s.now) c.unkept.result =
    flawed_stop a.c a.store.now l c.unkept.result _ _ _ c.unkept.ensures
    (simp (c.first_bad-bad.ensures, lt-ltb (first_bad (allowed false) l) (length l) (rw (← c.first_bad-bad.ensures) c.if-bad-s.true))) in
    record { s_value = w.0; keeping = w.1 }

pub slice_bounds-judge_parts-count : goal.slice_bounds-judge_parts-count
slice_bounds-judge_parts-count c =
    let there : Read c.args.edition c.args.s.now c.in-Ok.x = read _ _ _ (parts_ok _ _ c.parts_of.ensures c.in-Ok.is) in
    there.inside

pub slice_bounds-judge_parts-start : goal.slice_bounds-judge_parts-start
slice_bounds-judge_parts-start c =
    let there : Read c.args.edition c.args.s.now c.in-Ok.x = read _ _ _ (parts_ok _ _ c.parts_of.ensures c.in-Ok.is) in
    there.inside

pub judge_parts-requires : goal.judge_parts-requires
judge_parts-requires c =
    let there : Read c.args.edition c.args.s.now c.in-Ok.x = read _ _ _ (parts_ok _ _ c.parts_of.ensures c.in-Ok.is) in
    let l = c.args.s.now in
    let v = c.in-Ok.x.value_start in
    let size : length (take (length l - v) (drop v l)) ≤ length l - v = simp length-take (omega arith) in
    record {
      tables = c.requires.tables;
      parted = (c.args.edition, parts_ok _ _ c.parts_of.ensures c.in-Ok.is);
      row_lt_all = (there.listed, there.low);
      value_bound = omega (arith, there.inside, size, c.requires.stored.short);
      counted = c.requires.counted;
      stored = c.requires.stored;
    }

pub returns-in-Err : goal.returns-in-Err
returns-in-Err c =
    let a = c.args in
    let w : (read_by c.unkept-in-Err.result a.store.now a.s.now ≡ judge_line a.edition (card_of a.c a.store.now) a.at a.s.now) × Keeping a.c a.s.now (added_by a.edition a.c.seen a.s.now) c.unkept-in-Err.result =
    stopped a.c a.store.now a.s.now c.unkept-in-Err.result _ a.at _ c.unkept-in-Err.ensures
    (refused a.edition (card_of a.c a.store.now) a.at a.s.now (rw (← c.first_bad-bad.ensures) c.if-bad-s.false) (sym (ap parted c.in-Err.is) ∙ c.parts_of.ensures)) in
    record { s_value = w.0; keeping = w.1 }

pub returns-in-Ok : goal.returns-in-Ok
returns-in-Ok c =
    let a = c.args in
    let there : Read c.args.edition c.args.s.now c.in-Ok.x = read _ _ _ (parts_ok _ _ c.parts_of.ensures c.in-Ok.is) in
    record {
      s_value = c.judge_parts.ensures.s_value
          ∙ judged a.edition (card_of a.c a.store.now) a.at a.s.now (rw (← c.first_bad-bad.ensures) c.if-bad-s.false) _ there;
      keeping = subst (λ (q : List ℕ). Keeping a.c a.s.now q c.judge_parts.result) (added_line a.edition a.c.seen a.s.now _ there) c.judge_parts.ensures.keeping;
    }

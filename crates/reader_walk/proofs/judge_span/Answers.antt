-- `reader_walk::judge_span` meets its contract. Assumes nothing.
use mathlib.Core.Path.{◌≡◌, refl, ap, subst, ◌∙◌}
use mathlib.Core.Bool.{Bool, false}
use mathlib.Core.List.{List, []}
use Prim.Native.Nat.{ℕ, ◌+◌, ◌-◌, ◌≤◌}
use native.Mathlib.Omega.{arith}
use lib.ListN.{length, take, drop, length-take}
use lib.Seq.{length-take-le}
use Rattle.octets.specs.Pick.{pick}
use Rattle.line_folds.specs.Folds.{unfolded}
use Rattle.line_folds.proofs.FoldLaws.{unfold_shorter}
use Rattle.property_table.specs.declared.Edition.{Edition}
use Rattle.card_state.specs.declared.Card.{Card as Kept}
use Rattle.card_judge.specs.declared.judge.Judgement.{Judgement}
use Rattle.card_state.specs.Kept.{card_of}
use Rattle.card_state.proofs.KeptLaws.{holds_more}
use Rattle.card_judge.specs.Judge.{part, read_by, judge_line, added_by, Keeping}
use Rattle.reader_walk.specs.Walk.{behind}
use Rattle.reader_walk.proofs.ScratchLaws.{store_is, laid_length, hand_room, hand_line, hand_judged, hand_left}
use Rattle.reader_walk.proofs.judge_span.Goals as goal

pub lay_behind-n-requires : goal.lay_behind-n-requires
lay_behind-n-requires c =
    let fits : c.args.c.used + length (unfolded c.args.s.now) ≤ length c.args.scratch.now = omega (arith, c.requires.roomy.room, unfold_shorter c.args.s.now) in
    fits

pub overflow_add-end : goal.overflow_add-end
overflow_add-end c =
    let fits : c.args.c.used + length (unfolded c.args.s.now) ≤ length c.args.scratch.now = omega (arith, c.requires.roomy.room, unfold_shorter c.args.s.now) in
    let laid_room : c.args.c.used + length (pick c.args.folded (unfolded c.args.s.now) []) ≤ length c.args.scratch.now = hand_room c.args.c c.args.scratch.now c.args.s.now (unfolded c.args.s.now) c.requires.roomy.lies fits c.args.folded in
    let long : length c.lay_behind-n.new.scratch ≡ length c.args.scratch.now = let u = c.lay_behind-n in
    ap length u.ensures.scratch_after
    ∙ laid_length c.args.c c.args.scratch.now (pick c.args.folded (unfolded c.args.s.now) []) _ c.requires.roomy.lies laid_room refl in
    let reach : c.args.c.used + c.lay_behind-n.result ≤ length c.lay_behind-n.new.scratch = omega (arith, long, laid_room, c.lay_behind-n.ensures.value) in
    omega (arith, reach, long, c.requires.roomy.short)

pub slice_bounds-judge_at_hand-end : goal.slice_bounds-judge_at_hand-end
slice_bounds-judge_at_hand-end c =
    let fits : c.args.c.used + length (unfolded c.args.s.now) ≤ length c.args.scratch.now = omega (arith, c.requires.roomy.room, unfold_shorter c.args.s.now) in
    let laid_room : c.args.c.used + length (pick c.args.folded (unfolded c.args.s.now) []) ≤ length c.args.scratch.now = hand_room c.args.c c.args.scratch.now c.args.s.now (unfolded c.args.s.now) c.requires.roomy.lies fits c.args.folded in
    let long : length c.lay_behind-n.new.scratch ≡ length c.args.scratch.now = let u = c.lay_behind-n in
    ap length u.ensures.scratch_after
    ∙ laid_length c.args.c c.args.scratch.now (pick c.args.folded (unfolded c.args.s.now) []) _ c.requires.roomy.lies laid_room refl in
    let reach : c.args.c.used + c.lay_behind-n.result ≤ length c.lay_behind-n.new.scratch = omega (arith, long, laid_room, c.lay_behind-n.ensures.value) in
    reach

pub slice_bounds-judge_at_hand-end-2 : goal.slice_bounds-judge_at_hand-end-2
slice_bounds-judge_at_hand-end-2 c =
    let fits : c.args.c.used + length (unfolded c.args.s.now) ≤ length c.args.scratch.now = omega (arith, c.requires.roomy.room, unfold_shorter c.args.s.now) in
    let laid_room : c.args.c.used + length (pick c.args.folded (unfolded c.args.s.now) []) ≤ length c.args.scratch.now = hand_room c.args.c c.args.scratch.now c.args.s.now (unfolded c.args.s.now) c.requires.roomy.lies fits c.args.folded in
    let long : length c.lay_behind-n.new.scratch ≡ length c.args.scratch.now = let u = c.lay_behind-n in
    ap length u.ensures.scratch_after
    ∙ laid_length c.args.c c.args.scratch.now (pick c.args.folded (unfolded c.args.s.now) []) _ c.requires.roomy.lies laid_room refl in
    let reach : c.args.c.used + c.lay_behind-n.result ≤ length c.lay_behind-n.new.scratch = omega (arith, long, laid_room, c.lay_behind-n.ensures.value) in
    simp length-take (omega (arith, reach, long, c.requires.roomy.short))

pub judge_at_hand-j-requires : goal.judge_at_hand-j-requires
judge_at_hand-j-requires c =
    let fits : c.args.c.used + length (unfolded c.args.s.now) ≤ length c.args.scratch.now = omega (arith, c.requires.roomy.room, unfold_shorter c.args.s.now) in
    let laid_room : c.args.c.used + length (pick c.args.folded (unfolded c.args.s.now) []) ≤ length c.args.scratch.now = hand_room c.args.c c.args.scratch.now c.args.s.now (unfolded c.args.s.now) c.requires.roomy.lies fits c.args.folded in
    let long : length c.lay_behind-n.new.scratch ≡ length c.args.scratch.now = let u = c.lay_behind-n in
    ap length u.ensures.scratch_after
    ∙ laid_length c.args.c c.args.scratch.now (pick c.args.folded (unfolded c.args.s.now) []) _ c.requires.roomy.lies laid_room refl in
    let reach : c.args.c.used + c.lay_behind-n.result ≤ length c.lay_behind-n.new.scratch = omega (arith, long, laid_room, c.lay_behind-n.ensures.value) in
    let u = c.lay_behind-n in
    let r = c.requires.roomy in
    let n = length-take-le (c.args.c.used + u.result) u.new.scratch reach in
    record {
      tables = c.requires.tables;
      counted = c.requires.counted;
      roomy = (record { lies = r.lies; room = omega (arith, n); short = omega (arith, n, reach, long, r.short) }, omega (arith, r.room, r.short));
    }

-- what was laid behind the values
abbrev hand : Bool → List ℕ → List ℕ
hand folded s = pick folded (unfolded s) []

-- the judgement is that of the unfolded line, with the values that are kept as store
abbrev Heard : Edition → Kept → List ℕ → Bool → ℕ → List ℕ → Judgement → Type 0
Heard ed c s folded at scratch j =
    (read_by j (take c.used (behind c.used (hand folded s) scratch)) (unfolded s)
    ≡ judge_line ed (card_of c (take c.used (behind c.used (hand folded s) scratch))) at (unfolded s))
    × Keeping c (unfolded s) (added_by ed c.seen (unfolded s)) j

pub keep_part-requires : goal.keep_part-requires
keep_part-requires c =
    let fits : c.args.c.used + length (unfolded c.args.s.now) ≤ length c.args.scratch.now = omega (arith, c.requires.roomy.room, unfold_shorter c.args.s.now) in
    let plain : c.args.folded ≡ false → unfolded c.args.s.now ≡ c.args.s.now = c.requires.s_value in
    let laid_room : c.args.c.used + length (pick c.args.folded (unfolded c.args.s.now) []) ≤ length c.args.scratch.now = hand_room c.args.c c.args.scratch.now c.args.s.now (unfolded c.args.s.now) c.requires.roomy.lies fits c.args.folded in
    let long : length c.lay_behind-n.new.scratch ≡ length c.args.scratch.now = let u = c.lay_behind-n in
    ap length u.ensures.scratch_after
    ∙ laid_length c.args.c c.args.scratch.now (pick c.args.folded (unfolded c.args.s.now) []) _ c.requires.roomy.lies laid_room refl in
    let a = c.args in
    let u = c.lay_behind-n in
    let j = c.judge_at_hand-j in
    let lies = c.requires.roomy.lies in
    let line = hand_line a.c a.scratch.now a.s.now (unfolded a.s.now) lies fits a.folded plain in
    let store = store_is a.c a.scratch.now (hand a.folded a.s.now) (length (hand a.folded a.s.now)) lies laid_room refl in
    let heard : Heard a.edition a.c a.s.now a.folded a.at a.scratch.now j.result =
    (rw (u.ensures.scratch_after, u.ensures.value, line, store) at j.ensures.s_value, rw (u.ensures.scratch_after, u.ensures.value, line) at j.ensures.keeping) in
    let k = heard.1 in
    record { from_le_to = (k.order, omega (arith, k.inside, fits, long)); to_in_bounds = λ e. omega (arith, k.inside, ap length (plain e)) }

pub returns : goal.returns
returns c =
    let fits : c.args.c.used + length (unfolded c.args.s.now) ≤ length c.args.scratch.now = omega (arith, c.requires.roomy.room, unfold_shorter c.args.s.now) in
    let plain : c.args.folded ≡ false → unfolded c.args.s.now ≡ c.args.s.now = c.requires.s_value in
    let laid_room : c.args.c.used + length (pick c.args.folded (unfolded c.args.s.now) []) ≤ length c.args.scratch.now = hand_room c.args.c c.args.scratch.now c.args.s.now (unfolded c.args.s.now) c.requires.roomy.lies fits c.args.folded in
    let a = c.args in
    let u = c.lay_behind-n in
    let j = c.judge_at_hand-j in
    let lies = c.requires.roomy.lies in
    let line = hand_line a.c a.scratch.now a.s.now (unfolded a.s.now) lies fits a.folded plain in
    let store = store_is a.c a.scratch.now (hand a.folded a.s.now) (length (hand a.folded a.s.now)) lies laid_room refl in
    let heard : Heard a.edition a.c a.s.now a.folded a.at a.scratch.now j.result =
    (rw (u.ensures.scratch_after, u.ensures.value, line, store) at j.ensures.s_value, rw (u.ensures.scratch_after, u.ensures.value, line) at j.ensures.keeping) in
    let m = c.keep_part in
    let there = subst (λ (x : List ℕ). m.new.scratch ≡ behind a.c.used (part j.result.from j.result.to (pick a.folded (drop a.c.used x) a.s.now)) x) u.ensures.scratch_after m.ensures in
    record {
      result_after = hand_judged a.c a.scratch.now a.s.now (unfolded a.s.now) lies fits a.edition a.folded plain j.result a.at m.new.scratch _ heard.1 heard.0 there;
      holds = (
        holds_more j.result.step (a.c.used + (j.result.to - j.result.from)) (a.c.used + length a.s.now) (omega (arith, heard.1.order, heard.1.inside, unfold_shorter a.s.now)) heard.1.holds,
        hand_left a.c a.scratch.now a.s.now (unfolded a.s.now) lies fits a.edition a.folded plain refl j.result m.new.scratch heard.1 there,
      );
    }

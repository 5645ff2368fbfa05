-- `replay_script::count` meets its contract. Assumes nothing.
use Prim.Native.Nat.{ℕ, ◌+◌, ◌<◌, ◌≤◌}
use mathlib.Core.Path.{◌≡◌, sym, ap, ◌∙◌}
use mathlib.Core.List.{List}
use native.Mathlib.Omega.{arith}
use lib.ListN.{length, drop, length-drop}
use Rattle.replay_script.specs.Scripts.{width, call_of}
use Rattle.replay_script.specs.Counts.{shows}
use Rattle.replay_script.proofs.ScriptLaws.{tail_is, Counting, count_start, count_step, count_stop, count_end}
use Rattle.replay_script.proofs.count.Goals as goal

-- the count after one more call
step : (s : List ℕ) (at calls n w k : ℕ) → Counting s at calls n → at < length s → w ≡ width (drop at s) → k ≡ shows (call_of (drop at s)) → 1 ≤ w
    → Counting s (at + w) (calls + 1) (n + k)
step s at calls n w k i less wide shown some = rw (wide, shown) (count_step i less (rw wide at some))

pub loop-at-init : goal.loop-at-init
loop-at-init c = count_start _

pub slice_bounds-width-count : goal.slice_bounds-width-count
slice_bounds-width-count c = omega arith

pub slice_bounds-width-start : goal.slice_bounds-width-start
slice_bounds-width-start c = omega arith

pub slice_bounds-width-end : goal.slice_bounds-width-end
slice_bounds-width-end c = omega arith

pub width-w-requires : goal.width-w-requires
width-w-requires c = tt

pub returns-then-w-eq0 : goal.returns-then-w-eq0
returns-then-w-eq0 c =
    let wide : c.width-w.result ≡ width (drop c.loop-at.at c.args.script.now) = c.width-w.ensures ∙ ap width (tail_is c.args.script.now c.loop-at.at) in
    count_stop c.loop-at.invariant c.loop-at-test.true (sym wide ∙ c.if-w-eq0.true)

pub slice_bounds-count_show-count : goal.slice_bounds-count_show-count
slice_bounds-count_show-count c = omega arith

pub slice_bounds-count_show-start : goal.slice_bounds-count_show-start
slice_bounds-count_show-start c = omega arith

pub slice_bounds-count_show-end : goal.slice_bounds-count_show-end
slice_bounds-count_show-end c = omega arith

pub count_show-shows-requires : goal.count_show-shows-requires
count_show-shows-requires c = rw (tail_is _ _, length-drop) (omega arith)

pub overflow_add-shows : goal.overflow_add-shows
overflow_add-shows c =
    let l = c.loop-at in
    let s = c.args.script.now in
    let wide = c.width-w.ensures ∙ ap width (tail_is s l.at) in
    let shown = c.count_show-shows.ensures ∙ ap (λ (x : List ℕ). shows (call_of x)) (tail_is s l.at) in
    let i = step s l.at l.calls l.shows c.width-w.result c.count_show-shows.result l.invariant c.loop-at-test.true wide shown (omega arith) in
    omega arith

pub overflow_add-calls : goal.overflow_add-calls
overflow_add-calls c =
    let l = c.loop-at in
    let s = c.args.script.now in
    let wide = c.width-w.ensures ∙ ap width (tail_is s l.at) in
    let shown = c.count_show-shows.ensures ∙ ap (λ (x : List ℕ). shows (call_of x)) (tail_is s l.at) in
    let i = step s l.at l.calls l.shows c.width-w.result c.count_show-shows.result l.invariant c.loop-at-test.true wide shown (omega arith) in
    omega arith

pub overflow_add-at : goal.overflow_add-at
overflow_add-at c =
    let l = c.loop-at in
    let s = c.args.script.now in
    let wide = c.width-w.ensures ∙ ap width (tail_is s l.at) in
    let shown = c.count_show-shows.ensures ∙ ap (λ (x : List ℕ). shows (call_of x)) (tail_is s l.at) in
    let i = step s l.at l.calls l.shows c.width-w.result c.count_show-shows.result l.invariant c.loop-at-test.true wide shown (omega arith) in
    omega arith

pub loop-at-smaller : goal.loop-at-smaller
loop-at-smaller c =
    let l = c.loop-at in
    let s = c.args.script.now in
    let wide = c.width-w.ensures ∙ ap width (tail_is s l.at) in
    let shown = c.count_show-shows.ensures ∙ ap (λ (x : List ℕ). shows (call_of x)) (tail_is s l.at) in
    let i = step s l.at l.calls l.shows c.width-w.result c.count_show-shows.result l.invariant c.loop-at-test.true wide shown (omega arith) in
    omega arith

pub loop-at-preserved : goal.loop-at-preserved
loop-at-preserved c =
    let l = c.loop-at in
    let s = c.args.script.now in
    let wide = c.width-w.ensures ∙ ap width (tail_is s l.at) in
    let shown = c.count_show-shows.ensures ∙ ap (λ (x : List ℕ). shows (call_of x)) (tail_is s l.at) in
    step s l.at l.calls l.shows c.width-w.result c.count_show-shows.result l.invariant c.loop-at-test.true wide shown (omega arith)

pub returns : goal.returns
returns c = count_end c.loop-at.invariant c.loop-at-test.false

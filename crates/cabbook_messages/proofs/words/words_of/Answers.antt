-- `cabbook_messages::words::words_of` meets its contract. Assumes nothing.
use mathlib.Core.Path.{◌≡◌, sym, ◌∙◌}
use Prim.Native.Nat.{◌+◌, ◌-◌}
use native.Mathlib.Omega.{arith}
use lib.ListN.{length}
use Rattle.octets.specs.Ascii.{octets}
use Rattle.cabbook_messages.specs.Words.{messages}
use Rattle.cabbook_messages.proofs.WordLaws.{begin, stands, found, passed, none}
use Rattle.cabbook_messages.proofs.words.words_of.Goals as goal

pub loop-from-init : goal.loop-from-init
loop-from-init c = (messages, begin _ _ c.requires)

pub overflow_add-start : goal.overflow_add-start
overflow_add-start c = omega arith

pub overflow_add-from : goal.overflow_add-from
overflow_add-from c = omega arith

pub bounds-t-from : goal.bounds-t-from
bounds-t-from c =
    let l = c.loop-from in
    let s = (stands l.invariant.0 l.invariant.1 (omega arith)).1.1 in
    omega arith

pub overflow_add-end : goal.overflow_add-end
overflow_add-end c =
    let l = c.loop-from in
    let s = (stands l.invariant.0 l.invariant.1 (omega arith)).1.1 in
    omega arith

pub bounds-t-from-in-loop-from : goal.bounds-t-from-in-loop-from
bounds-t-from-in-loop-from c = omega arith

pub slice_bounds-result-count : goal.slice_bounds-result-count
slice_bounds-result-count c = omega arith

pub slice_bounds-result-start : goal.slice_bounds-result-start
slice_bounds-result-start c = omega arith

pub slice_bounds-result-end : goal.slice_bounds-result-end
slice_bounds-result-end c =
    let l = c.loop-from in
    let s = (stands l.invariant.0 l.invariant.1 (omega arith)).1.1 in
    omega arith

pub returns-then-wide-number : goal.returns-then-wide-number
returns-then-wide-number c =
    let l = c.loop-from in
    let st = stands l.invariant.0 l.invariant.1 (omega arith) in
    let s = st.1.1 in
    let n : l.from + 2 + c.wide.result - (l.from + 2) ≡ length (octets st.0.text) = omega arith in
    rw n (s.text ∙ sym (found s (omega arith)))

pub loop-from-smaller : goal.loop-from-smaller
loop-from-smaller c = omega arith

pub loop-from-preserved : goal.loop-from-preserved
loop-from-preserved c =
    let l = c.loop-from in
    let st = stands l.invariant.0 l.invariant.1 (omega arith) in
    (st.1.0, rw c.wide.ensures (passed st.1.1 (omega arith)))

pub returns : goal.returns
returns c =
    let l = c.loop-from in
    sym (none l.invariant.0 l.invariant.1 (omega arith))

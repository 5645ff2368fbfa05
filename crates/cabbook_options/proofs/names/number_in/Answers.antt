-- `cabbook_options::names::number_in` meets its contract. Assumes nothing.
use mathlib.Core.Path.{◌≡◌, sym, ◌∙◌}
use mathlib.Core.Bool.{false}
use Prim.Native.Nat.{◌+◌, ◌-◌}
use native.Mathlib.Omega.{arith}
use lib.ListN.{length}
use Rattle.octets.specs.Ascii.{octets}
use Rattle.octets.specs.Cases.{same}
use Rattle.cabbook_options.specs.Names.{names}
use Rattle.cabbook_options.proofs.NameLaws.{begin, stands, found, passed, none}
use Rattle.cabbook_options.proofs.names.number_in.Goals as goal

pub loop-from-init : goal.loop-from-init
loop-from-init c = (names, begin _ _ c.requires)

pub overflow_add-start : goal.overflow_add-start
overflow_add-start c = omega arith

pub overflow_add-from : goal.overflow_add-from
overflow_add-from c = omega arith

pub bounds-t-from : goal.bounds-t-from
bounds-t-from c =
    let l = c.loop-from in
    let s = (stands l.invariant.0 l.invariant.1 (omega arith)).1.1 in
    omega arith

pub overflow_add-end : goal.overflow_add-end
overflow_add-end c =
    let l = c.loop-from in
    let s = (stands l.invariant.0 l.invariant.1 (omega arith)).1.1 in
    omega arith

pub slice_bounds-same_name-count : goal.slice_bounds-same_name-count
slice_bounds-same_name-count c = omega arith

pub slice_bounds-same_name-start : goal.slice_bounds-same_name-start
slice_bounds-same_name-start c = omega arith

pub slice_bounds-same_name-end : goal.slice_bounds-same_name-end
slice_bounds-same_name-end c =
    let l = c.loop-from in
    let s = (stands l.invariant.0 l.invariant.1 (omega arith)).1.1 in
    omega arith

pub bounds-t-from-then-same_name : goal.bounds-t-from-then-same_name
bounds-t-from-then-same_name c = omega arith

pub returns-then-same_name : goal.returns-then-same_name
returns-then-same_name c =
    let l = c.loop-from in
    let st = stands l.invariant.0 l.invariant.1 (omega arith) in
    let s = st.1.1 in
    let n : l.from + 2 + c.wide.result - (l.from + 2) ≡ length (octets st.0.text) = omega arith in
    c.wide-then-same_name.ensures ∙ sym (found s (sym (rw (n, s.text) at c.same_name.ensures) ∙ c.if-same_name.true))

pub loop-from-smaller : goal.loop-from-smaller
loop-from-smaller c = omega arith

pub loop-from-preserved : goal.loop-from-preserved
loop-from-preserved c =
    let l = c.loop-from in
    let st = stands l.invariant.0 l.invariant.1 c.loop-from-test.true in
    let s = st.1.1 in
    let n : l.from + 2 + c.wide.result - (l.from + 2) ≡ length (octets st.0.text) = omega arith in
    let e : same _ (octets st.0.text) ≡ false = sym (rw (n, s.text) at c.same_name.ensures) ∙ c.if-same_name.false in
    (st.1.0, rw c.wide.ensures (passed s e))

pub returns : goal.returns
returns c =
    let l = c.loop-from in
    sym (none l.invariant.0 l.invariant.1 (omega arith))

-- `folder_line::cutting::cut` meets its contract. Assumes nothing.
use mathlib.Core.Path.{◌≡◌, sym, ◌∙◌}
use mathlib.Core.Bool.{true}
use Prim.Native.Nat.{◌<◌}
use native.Mathlib.Omega.{arith}
use lib.ListN.{get_or}
use Rattle.utf8.specs.Characters.{tail}
use Rattle.folder_line.proofs.Turns.{inside, cut_place, one_more}
use Rattle.folder_line.proofs.cutting.cut.Goals as goal

pub overflow_sub-e : goal.overflow_sub-e
overflow_sub-e c =
    -- the octet at e is no first one, so that e lies behind the start
    let l = c.loop-e in
    let b : c.args.from < l.e = inside c.args.s.now c.args.from c.requires.0 l.e (omega arith) l.invariant.0 (sym c.is_tail.ensures ∙ c.loop-e-test.true) in
    omega arith

pub loop-e-smaller : goal.loop-e-smaller
loop-e-smaller c =
    -- the octet at e is no first one, so that e lies behind the start
    let l = c.loop-e in
    let b : c.args.from < l.e = inside c.args.s.now c.args.from c.requires.0 l.e (omega arith) l.invariant.0 (sym c.is_tail.ensures ∙ c.loop-e-test.true) in
    omega arith

pub loop-e-preserved : goal.loop-e-preserved
loop-e-preserved c =
    let a = c.args in
    let b : a.from < c.loop-e.e = inside a.s.now a.from c.requires.0 c.loop-e.e (omega arith) c.loop-e.invariant.0 (sym c.is_tail.ensures ∙ c.loop-e-test.true) in
    let t = sym c.is_tail.ensures ∙ c.loop-e-test.true in
    (omega arith, omega arith, λ i p q. one_more (λ n. tail (get_or a.s.now n 0) ≡ true) c.loop-e.e i (omega arith) t (λ h. c.loop-e.invariant.2 i h q))

pub returns : goal.returns
returns c =
    let a = c.args in
    cut_place a.s.now a.from c.requires.0 a.room c.loop-e.e c.requires.1 c.loop-e.invariant.0 c.loop-e.invariant.1 (sym c.is_tail.ensures ∙ c.loop-e-test.false) c.loop-e.invariant.2

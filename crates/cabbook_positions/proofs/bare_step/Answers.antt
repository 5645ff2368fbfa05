-- `cabbook_positions::bare_step` meets its contract. Assumes nothing.
use Prim.Native.Nat.{◌-◌, ◌≤◌, ◌<◌}
use native.Mathlib.Omega.{arith}
use lib.ListN.{length, get_or}
use borrow.Author.Tests.{eq-eqb, ne_eqb, lt-ltb, le-ltb}
use Rattle.cabbook_positions.proofs.ComponentLaws.{at_place}
use Rattle.cabbook_positions.proofs.bare_step.Goals as goal

pub returns-then-s-i-eq44 : goal.returns-then-s-i-eq44
returns-then-s-i-eq44 c =
    let a = c.args in
    (at_place a.semicolons a.s.now a.i 0 (simp (eq-eqb _ _ c.if-s-i-eq44.true)), omega arith)

pub returns-then-semicolons : goal.returns-then-semicolons
returns-then-semicolons c =
    let a = c.args in
    (at_place a.semicolons a.s.now a.i 0 (simp (ne_eqb _ _ c.if-s-i-eq44.false, eq-eqb _ _ c.if-s-i-eq59.true, c.if-semicolons.true)), omega arith)

pub returns-then-s-i-eq59 : goal.returns-then-s-i-eq59
returns-then-s-i-eq59 c =
    let a = c.args in
    (at_place a.semicolons a.s.now a.i 1 (simp (c.if-s-i-eq59.true, c.if-semicolons.false)), omega arith)

pub returns-then-s-i-lt2 : goal.returns-then-s-i-lt2
returns-then-s-i-lt2 c =
    let a = c.args in
    let h : length a.s.now - a.i ≤ 1 = omega arith in
    (at_place a.semicolons a.s.now a.i 1 (simp (c.if-s-i-eq92.true, le-ltb 1 _ h)), omega arith)

pub returns-then-s-i-eq92 : goal.returns-then-s-i-eq92
returns-then-s-i-eq92 c =
    let a = c.args in
    let h : 1 < length a.s.now - a.i = omega arith in
    (at_place a.semicolons a.s.now a.i 2 (simp (c.if-s-i-eq92.true, lt-ltb 1 _ h)), omega arith)

pub returns : goal.returns
returns c =
    let a = c.args in
    let x = get_or a.s.now a.i 0 in
    (at_place a.semicolons a.s.now a.i 1 (simp (ne_eqb x 44 c.if-s-i-eq44.false, ne_eqb x 59 c.if-s-i-eq59.false, ne_eqb x 92 c.if-s-i-eq92.false)), omega arith)

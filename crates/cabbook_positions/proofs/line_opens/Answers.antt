-- `cabbook_positions::line_opens` meets its contract. Assumes nothing.
use mathlib.Core.Path.{◌≡◌}
use Prim.Native.Nat.{◌-◌, ◌≤◌}
use native.Mathlib.Omega.{arith}
use borrow.Author.Tests.{eq-eqb, ne_eqb}
use lib.ListN.{get_or, length, get_or-eq_default}
use Rattle.cabbook_positions.proofs.line_opens.Goals as goal

pub returns-then-s-i-ne10 : goal.returns-then-s-i-ne10
returns-then-s-i-ne10 c = simp (ne_eqb _ _ c.if-s-i-ne10.true)

pub returns-then-i-lt2 : goal.returns-then-i-lt2
returns-then-i-lt2 c =
    let i = c.args.i in
    let e : i - 2 ≡ i - 1 = omega arith in
    simp (e, c.if-s-i-ne10.false)

pub returns-then-s-i-ne13 : goal.returns-then-s-i-ne13
returns-then-s-i-ne13 c = simp (eq-eqb _ _ c.if-s-i-ne10.false, ne_eqb _ _ c.if-s-i-ne13.true)

pub returns-then-i-s : goal.returns-then-i-s
returns-then-i-s c =
    let s = c.args.s.now in
    let h : length s ≤ c.args.i = omega arith in
    simp (eq-eqb _ _ c.if-s-i-ne10.false, eq-eqb _ _ c.if-s-i-ne13.false, get_or-eq_default s 0 h)

pub returns-then-s-i-eq32 : goal.returns-then-s-i-eq32
returns-then-s-i-eq32 c = simp (eq-eqb _ _ c.if-s-i-ne10.false, eq-eqb _ _ c.if-s-i-ne13.false, eq-eqb _ _ c.if-s-i-eq32.true)

pub returns : goal.returns
returns c =
    let s = c.args.s.now in
    let i = c.args.i in
    let e1 = eq-eqb (get_or s (i - 1) 0) 10 c.if-s-i-ne10.false in
    let e3 = eq-eqb (get_or s (i - 2) 0) 13 c.if-s-i-ne13.false in
    let e5 = ne_eqb (get_or s i 0) 32 c.if-s-i-eq32.false in
    rw (e1, e3, e5)

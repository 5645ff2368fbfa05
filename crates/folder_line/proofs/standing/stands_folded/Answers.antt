-- `folder_line::standing::stands_folded` meets its contract. Assumes nothing.
use mathlib.Core.Path.{◌≡◌}
use Prim.Native.Nat.{◌-◌}
use native.Mathlib.Omega.{arith}
use Rattle.folder_line.specs.Pieces.{folded, pieces}
use Rattle.folder_line.proofs.FullLaws.{stands_last, stands_clean, stands_next}
use borrow.Author.Tests.{leb-true}
use Rattle.folder_line.proofs.standing.stands_folded.Goals as goal

pub loop-i-init : goal.loop-i-init
unfolding folded pieces
loop-i-init c = (omega arith, omega arith, c.requires, λ q. q)

pub returns-then-cr-s : goal.returns-then-cr-s
returns-then-cr-s c =
    let l = c.loop-i in
    let v = c.next_cr-cr in
    λ e. l.invariant.3 (stands_last c.args.s.now l.i v.result l.room v.ensures.1 l.invariant.2 l.invariant.0 c.if-cr-s.true (leb-true _ _ e))

pub loop-i-preserved : goal.loop-i-preserved
loop-i-preserved c =
    let s = c.args.s.now in
    let l = c.loop-i in
    let v = c.next_cr-cr in
    let t = c.if-not-is_cut.false in
    let k = c.is_cut.ensures.i_in_bounds t in
    let b = c.is_cut.ensures.fact t in
    let n : v.result - l.i ≡ l.room = omega arith in (
      omega (arith, k.0),
      omega arith,
      stands_clean s l.i v.result l.room v.ensures.1 l.invariant.2 n l.invariant.1 k.0 k.1 b.0 b.1,
      λ q. l.invariant.3 (stands_next s l.i v.result l.room v.ensures.1 l.invariant.2 n l.invariant.1 k.0 k.1 b.0 b.1 q),
    )

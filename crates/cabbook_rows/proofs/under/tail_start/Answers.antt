-- `cabbook_rows::under::tail_start` meets its contract. Assumes nothing.
use borrow.Author.Tests.{le-leb, lt-leb, lt-ltb}
use mathlib.Core.Path.{◌∙◌}
use native.Mathlib.Omega.{arith}
use lib.ListN.{length}
use Prim.Native.Nat.{◌-◌}
use Rattle.cabbook_rows.proofs.under.tail_start.Goals as goal

pub returns-then-text-le-BEFORE : goal.returns-then-text-le-BEFORE
returns-then-text-le-BEFORE c = rw (le-leb (length c.args.text.now) 72 c.if-text-le-BEFORE.true)

pub returns : goal.returns
returns c =
    let a = c.args in
    let t = a.text.now in
    rw (lt-leb (length t) 72 c.if-text-le-BEFORE.false) (c.character_start.ensures.0 ∙ rw (lt-ltb (length t - 72) (length t) (omega arith)))

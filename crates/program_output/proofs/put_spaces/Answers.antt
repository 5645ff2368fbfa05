-- `program_output::put_spaces` meets its contract. Assumes nothing.
use mathlib.Core.Path.{◌≡◌, sym, ap, ◌∙◌}
use Prim.Native.Nat.{◌+◌, ◌-◌}
use native.Mathlib.Omega.{arith}
use lib.ListN.{replicate}
use Rattle.program_output.specs.Pages.{page, added}
use Rattle.program_output.proofs.PageLaws.{added_like, added_no_more}
use borrow.Author.Rules.{rules}
use Rattle.program_output.proofs.put_spaces.Goals as goal

pub loop-preserved : goal.loop-preserved
unfolding added
loop-preserved c =
    let l = c.loop in
    let left = c.args.n - l.counter in
    let e : left - 1 ≡ c.args.n - (l.counter + 1) = omega arith in
    (search rules, rw e at (ap (added (replicate (left - 1) 32)) c.put-next.ensures ∙ sym (added_like 32 left (page l.next l.room) (omega arith)) ∙ l.invariant.1))

pub returns : goal.returns
returns c =
    let l = c.loop in
    sym (added_no_more 32 (c.args.n - l.counter) (page l.next l.room) (omega arith)) ∙ l.invariant.1

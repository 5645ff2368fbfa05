-- `cabbook_rows::faults::put_raw` meets its contract. Assumes nothing.
use native.Mathlib.Omega.{arith}
use mathlib.Core.Path.{ap, ◌∙◌}
use mathlib.Core.List.{List}
use Prim.Native.Nat.{ℕ}
use lib.ListN.{length, length-replicate}
use borrow.Author.Tests.{lt-ltb, le-ltb}
use Rattle.program_output.specs.Pages.{page, added}
use Rattle.line_folds.specs.Folds.{unfolded}
use Rattle.line_folds.proofs.FoldLaws.{unfold_shorter}
use Rattle.cabbook_rows.proofs.PartLaws.{part_front}
use Rattle.cabbook_rows.specs.Faults.{fault_words}
use Rattle.numbers.specs.Refusals.{number}
use Rattle.cabbook_rows.proofs.faults.put_raw.Goals as goal

pub returns-then-line-gt-READ_ROOM : goal.returns-then-line-gt-READ_ROOM
returns-then-line-gt-READ_ROOM c = rw (lt-ltb _ _ c.if-line-gt-READ_ROOM.true) c.put_words.ensures

pub unfold-n-requires : goal.unfold-n-requires
unfold-n-requires c = simp length-replicate (omega (arith, unfold_shorter c.args.line.now))

pub returns : goal.returns
returns c =
    let a = c.args in
    let l = a.line.now in
    let e = c.unfold-n.ensures in
    let q = c.part.ensures ∙ part_front (unfolded l) _ _ c.unfold-n.result e.0 e.1 in
    let f = c.put_fault.ensures ∙ ap (λ (t : List ℕ). added (fault_words (number a.reason) t) (page a.at a.room.now)) q in
    rw (le-ltb 16385 (length l) c.if-line-gt-READ_ROOM.false) f

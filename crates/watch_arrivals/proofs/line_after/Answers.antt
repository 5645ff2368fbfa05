-- `watch_arrivals::line_after` meets its contract. Assumes nothing.
use native.Mathlib.Omega.{arith}
use Prim.Native.Nat.{◌+◌}
use lib.ListN.{length}
use borrow.Author.Tests.{lt-ltb, le-ltb}
use Rattle.watch_arrivals.proofs.ArrivalLaws.{line_next}
use Rattle.watch_arrivals.proofs.line_after.Goals as goal

pub returns-then-chunk-end-le2 : goal.returns-then-chunk-end-le2
returns-then-chunk-end-le2 c =
    let b = line_next c.args.chunk.now c.args.from c.line_end-end.result c.requires.from_in_bounds c.requires.chunk_value c.line_end-end.ensures.0 in
    rw (le-ltb (c.line_end-end.result + 2) (length c.args.chunk.now) (omega (arith, c.if-chunk-end-le2.true, c.line_end-end.ensures.1))) at b

pub returns : goal.returns
returns c =
    let b = line_next c.args.chunk.now c.args.from c.line_end-end.result c.requires.from_in_bounds c.requires.chunk_value c.line_end-end.ensures.0 in
    rw (lt-ltb (c.line_end-end.result + 2) (length c.args.chunk.now) (omega (arith, c.if-chunk-end-le2.false, c.line_end-end.ensures.1))) at b

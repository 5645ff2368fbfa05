-- `watch_lines::judge_chunk` meets its contract. Assumes nothing.
use native.Mathlib.Omega.{arith}
use Rattle.watch_lines.proofs.judge_chunk.Goals as goal

pub judge_joined-requires : goal.judge_joined-requires
judge_joined-requires c =
    let z = c.requires in
    record { tables = c.requires.tables; next_in_bounds = c.requires.next_in_bounds; within = c.requires.within; chunk_value = c.requires.chunk_value; next_in_bounds_2 = omega (arith, c.if-n-le-SHORT.true) }

pub judge_joined-requires-2 : goal.judge_joined-requires-2
judge_joined-requires-2 c =
    let z = c.requires in
    record { tables = c.requires.tables; next_in_bounds = c.requires.next_in_bounds; within = c.requires.within; chunk_value = c.requires.chunk_value; next_in_bounds_2 = omega (arith, c.requires.next_in_bounds) }

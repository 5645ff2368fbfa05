-- `reader_walk::judge_at_hand` meets its contract. Assumes nothing.
use mathlib.Core.Path.{◌≡◌}
use mathlib.Core.List.{List}
use Prim.Native.Nat.{ℕ, ◌-◌}
use native.Mathlib.Omega.{arith}
use lib.ListN.{length, take, drop, length-drop}
use lib.Seq.{length-take-le, take_all}
use Rattle.reader_walk.proofs.judge_at_hand.Goals as goal

rest : (a : ℕ) (l : List ℕ) → take (length l - a) (drop a l) ≡ drop a l
rest a l = take_all (length l - a) (drop a l) (rw length-drop (omega arith))

pub judge_line-requires : goal.judge_line-requires
judge_line-requires c =
    let all : length (take c.args.c.used c.args.buffer.now) ≡ c.args.c.used = length-take-le c.args.c.used c.args.buffer.now (omega (arith, c.requires.roomy.0.room)) in
    let r = c.requires.roomy.0 in
    let b = c.args.buffer.now in
    let u = c.args.c.used in
    record { tables = c.requires.tables; counted = c.requires.counted; stored = record { lies = r.lies; all = all; short = rw (rest u b, length-drop) (omega (arith, r.room, r.short)) } }

-- `watch_lines::join` meets its contract. Assumes nothing.
use native.Mathlib.Omega.{arith}
use mathlib.Core.Path.{◌≡◌, ap, ◌∙◌}
use Prim.Native.Nat.{◌+◌}
use lib.ListN.{length, take, drop, length-drop}
use lib.Seq.{length-take-le}
use Rattle.desk_pool.proofs.Patches.{put_copied, part_size}
use Rattle.watch_lines.proofs.TakingLaws.{joined_front}
use Rattle.watch_lines.proofs.join.Goals as goal

pub returns : goal.returns
returns c =
    let a = c.args in
    let p = c.requires in
    let x = take a.«open» (drop a.used a.buffer.now) in
    let n : length x ≡ a.«open» = length-take-le a.«open» (drop a.used a.buffer.now) (rw length-drop (omega (arith, p.0))) in
    let m = c.copy_in.new.dst in
    let first = rw (part_size a.used a.«open») at c.copy_in.ensures in
    let size : length m ≡ length a.line.now = omega (arith, c.copy_in) in
    let put = put_copied m a.rest.now c.copy_in-2.new.dst a.«open» (omega (arith, p.1, size)) c.copy_in-2.ensures in
    ap (take (a.«open» + length a.rest.now)) put ∙ joined_front a.line.now x a.rest.now m a.«open» n first

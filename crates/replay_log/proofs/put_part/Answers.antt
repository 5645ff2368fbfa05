-- `replay_log::put_part` meets its contract. Assumes nothing.
use Prim.Native.Nat.{ℕ}
use mathlib.Core.Path.{ap, ◌∙◌}
use mathlib.Core.List.{List, ◌∷◌}
use native.Mathlib.Omega.{arith}
use lib.ListN.{length, length-take, length-drop}
use Rattle.desk_pool.specs.Pools.{patch}
use Rattle.desk_pool.proofs.Patches.{put_copied}
use Rattle.replay_script.specs.Numerals.{four_octets}
use Rattle.replay_log.specs.Logs.{entry}
use Rattle.replay_log.proofs.LogLaws.{one_length, part_length, put_behind}
use Rattle.replay_log.proofs.put_part.Goals as goal

pub put_one-n-requires : goal.put_one-n-requires
put_one-n-requires c = omega (arith, part_length c.args.octets.now)

pub slice_bounds-copy_in-count : goal.slice_bounds-copy_in-count
slice_bounds-copy_in-count c = let a = c.args in let n = one_length 3 (length a.octets.now) in let e = c.put_one-n.ensures.wrote in let k = c.put_one-n.auto in let v = part_length a.octets.now in omega arith

pub slice_bounds-copy_in-start : goal.slice_bounds-copy_in-start
slice_bounds-copy_in-start c = let a = c.args in let n = one_length 3 (length a.octets.now) in let e = c.put_one-n.ensures.wrote in let k = c.put_one-n.auto in let v = part_length a.octets.now in omega arith

pub copy_in-requires : goal.copy_in-requires
copy_in-requires c = let a = c.args in let n = one_length 3 (length a.octets.now) in let e = c.put_one-n.ensures.wrote in let k = c.put_one-n.auto in let v = part_length a.octets.now in simp (length-take, length-drop) (omega arith)

pub overflow_add-result : goal.overflow_add-result
overflow_add-result c = let a = c.args in let n = one_length 3 (length a.octets.now) in let e = c.put_one-n.ensures.wrote in let k = c.put_one-n.auto in let v = part_length a.octets.now in omega arith

pub returns : goal.returns
unfolding entry
returns c = let a = c.args in let n = one_length 3 (length a.octets.now) in let e = c.put_one-n.ensures.wrote in let k = c.put_one-n.auto in let v = part_length a.octets.now in record { wrote = omega arith; log = put_copied _ a.octets.now _ _ (omega arith) c.copy_in.ensures ∙ ap (λ (l : List ℕ). patch l c.put_one-n.result a.octets.now) c.put_one-n.ensures.log ∙ put_behind a.d.now (3 ∷ four_octets (length a.octets.now)) a.octets.now _ e }

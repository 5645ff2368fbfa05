-- `replay_log::put_two` meets its contract. Assumes nothing.
use Prim.Native.Nat.{ℕ}
use mathlib.Core.Path.{sym, ap, ◌∙◌}
use mathlib.Core.List.{List}
use native.Mathlib.Omega.{arith}
use lib.ListN.{length-set}
use lib.Seq.{sets}
use Rattle.replay_script.specs.Numerals.{four_octets}
use Rattle.replay_log.proofs.LogLaws.{two_length, put_two_is}
use Rattle.replay_log.proofs.put_two.Goals as goal

pub put_four-requires : goal.put_four-requires
put_four-requires c = simp length-set (omega arith)

pub put_four-requires-2 : goal.put_four-requires-2
put_four-requires-2 c = let z = length-set c.args.d.now 0 c.args.name in omega (arith, c.put_four.auto)

pub shape_of-d : goal.shape_of-d
shape_of-d c = let z = length-set c.args.d.now 0 c.args.name in omega (arith, c.put_four-2.auto, c.put_four.auto)

pub returns : goal.returns
returns c = let a = c.args in record { wrote = sym (two_length a.name a.n a.m); log = c.put_four-2.ensures ∙ ap (λ (l : List ℕ). sets l 5 (four_octets a.m)) c.put_four.ensures ∙ put_two_is a.d.now a.name a.n a.m c.requires }

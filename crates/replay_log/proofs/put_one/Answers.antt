-- `replay_log::put_one` meets its contract. Assumes nothing.
use mathlib.Core.Path.{sym, ◌∙◌}
use native.Mathlib.Omega.{arith}
use lib.ListN.{length-set}
use Rattle.replay_log.proofs.LogLaws.{one_length, put_one_is}
use Rattle.replay_log.proofs.put_one.Goals as goal

pub shape_of-d : goal.shape_of-d
shape_of-d c = let z = length-set c.args.d.now 0 c.args.name in omega (arith, c.put_four.auto)

pub returns : goal.returns
returns c = let a = c.args in record { wrote = sym (one_length a.name a.n); log = c.put_four.ensures ∙ put_one_is a.d.now a.name a.n c.requires }

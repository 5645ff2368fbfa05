-- `merge_pids::put_value` meets its contract. Assumes nothing.
use mathlib.Core.Path.{sym, ◌∙◌}
use Rattle.merge_pids.specs.Marks.{put_all}
use Rattle.merge_pids.proofs.put_value.Goals as goal

pub returns-in_default : goal.returns-in_default
unfolding put_all
returns-in_default c = rw (sym c.read_pid.ensures ∙ c.in_default.is)

pub returns : goal.returns
unfolding put_all
returns c = rw (sym c.read_pid.ensures ∙ c.in-Some.is) c.put_mark.ensures

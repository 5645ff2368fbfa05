-- `replay_script::count_show` meets its contract. Assumes nothing.
use mathlib.Core.Path.{sym}
use Rattle.replay_script.proofs.ScriptLaws.{show_is, show_not}
use Rattle.replay_script.proofs.count_show.Goals as goal

pub returns-then-s-eq-SHOW : goal.returns-then-s-eq-SHOW
returns-then-s-eq-SHOW c = sym (show_is _ c.if-s-eq-SHOW.true)

pub returns : goal.returns
returns c = sym (show_not _ c.if-s-eq-SHOW.false)

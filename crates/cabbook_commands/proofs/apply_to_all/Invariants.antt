-- `cabbook_commands::apply_to_all` is safe and ends, and meets its contract. Assumes nothing.
use Rattle.std.proofs.Common.{ℕ, ◌-◌, ◌<◌, ◌≤◌, Option, Some, None, IfSome}
use Rattle.cabbook_commands.proofs.apply_to_all.Given as goal

abbrev left : ℕ → Option ℕ → ℕ
left count (Some i) = count - i
left count None = 0

abbrev pub invariant-loop-next : goal.invariant-loop-next
invariant-loop-next l = (l.status ≤ 2) × IfSome l.next (λ i. i < l.count)

abbrev pub decreases-loop-next : goal.decreases-loop-next
decreases-loop-next l = left l.count l.next

-- `cabbook_morning::take_file` meets its contract. Assumes nothing.
use mir.Syntax.{w32}
use mir.Val.{of_z, to_z}
use mathlib.Core.Path.{refl, ap}
use Prim.Native.Nat.{◌+◌}
use native.Mathlib.Omega.{arith}
use Rattle.numbers.specs.Refusals.{number}
use Rattle.cabbook_morning.proofs.ReasonLaws.{no_free_slot}
use Rattle.desk.specs.Answer.{answer}
use Rattle.desk.specs.Steps.{Turned, turned}
use Rattle.cabbook_morning.specs.Depot.{from}
use Rattle.cabbook_morning.specs.Turns.{no_file, no_descriptor, opened}
use Rattle.cabbook_morning.proofs.TurnLaws.{open_done, open_waits, open_refused}
use Rattle.cabbook_morning.proofs.take_file.Goals as goal

pub returns-in_default : goal.returns-in_default
returns-in_default c = no_file c.args.m.count (omega arith) refl refl

pub returns-in_default-open_argument : goal.returns-in_default-open_argument
returns-in_default-open_argument c = no_descriptor c.in-Some.i c.in-Some.ensures.0 c.in-Some.ensures.1 c.count_unread.ensures refl

pub returns-in-Ok : goal.returns-in-Ok
returns-in-Ok c =
    let a = c.args in
    let n = c.in-Some in
    let o = c.open-t in
    opened n.i n.ensures.0 n.ensures.1 (open_done a.k n.i (from (n.i + 1) a.m) (turned o.result o.new.pool) _ o.ensures _ (ap answer c.in-Ok.is) (to_z w32 (of_z w32 c.in-Some-open_argument.fd)) _ (rw (c.ticket_of.ensures, c.more.ensures))) (ap (λ (t : Turned). t.pool) o.ensures)

pub returns-in-NoFreeSlot : goal.returns-in-NoFreeSlot
returns-in-NoFreeSlot c =
    let a = c.args in
    let n = c.in-Some in
    let o = c.open-t in
    opened n.i n.ensures.0 n.ensures.1 (open_waits a.k n.i (from (n.i + 1) a.m) (turned o.result o.new.pool) _ o.ensures _ _ (ap answer c.in-Err.is) (ap number c.in-NoFreeSlot.is) _ refl) (ap (λ (t : Turned). t.pool) o.ensures)

pub returns-in_default-reason : goal.returns-in_default-reason
returns-in_default-reason c =
    let a = c.args in
    let n = c.in-Some in
    let o = c.open-t in
    opened n.i n.ensures.0 n.ensures.1 (open_refused a.k n.i (from (n.i + 1) a.m) (turned o.result o.new.pool) _ o.ensures _ _ (ap answer c.in-Err.is) (λ e. c.in_default-reason.not-NoFreeSlot (no_free_slot c.in-Err.r.0 e)) _ c.count_verdict.ensures) (ap (λ (t : Turned). t.pool) o.ensures)

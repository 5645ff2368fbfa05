-- `value_automaton::scanner::is_settled` meets its contract. Assumes nothing.
use mathlib.Core.Path.{sym, ap, ◌∙◌}
use mathlib.Core.Bool.{false≢true}
use Prim.Native.Nat.{◌+◌, ◌-◌, ◌≤◌}
use native.Mathlib.Omega.{arith}
use lib.ListN.{length, drop, length-drop}
use lib.Seq.{take_all}
use Rattle.value_kinds.specs.Octets.{graphic, holds}
use Rattle.octets.specs.Counts.{all_in}
use Rattle.value_automaton.proofs.scanner.is_settled.Goals as goal

pub returns-then-n-ne-URI_TAIL : goal.returns-then-n-ne-URI_TAIL
returns-then-n-ne-URI_TAIL c = λ e. absurd (false≢true e)

pub returns : goal.returns
returns c =
    let a = c.args in
    let t = drop (a.i + 1) a.s.now in
    let le : length t ≤ length a.s.now - (a.i + 1) = omega (arith, length-drop (a.i + 1) a.s.now) in
    λ e. (c.if-n-ne-URI_TAIL.false, ap (all_in (holds graphic)) (sym (take_all (length a.s.now - (a.i + 1)) t le)) ∙ sym c.is_printing.ensures ∙ e)

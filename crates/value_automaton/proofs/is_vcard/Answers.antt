-- `value_automaton::is_vcard` meets its contract. Assumes nothing.
use borrow.Author.Tests.{eqb-true}
use mathlib.Core.Bool.{false≢true}
use native.Mathlib.Omega.{arith}
use Rattle.value_automaton.proofs.FixedLaws.{vcard_matches}
use Rattle.value_automaton.proofs.is_vcard.Goals as goal

pub returns-then-s-ne5 : goal.returns-then-s-ne5
returns-then-s-ne5 c = λ e. absurd (false≢true e)

pub returns : goal.returns
returns c =
    let s = c.args.s.now in
    λ e. vcard_matches s c.other_bit.result c.other_bit-2.result c.other_bit-3.result c.other_bit-4.result c.other_bit-5.result (omega arith) c.other_bit.ensures c.other_bit-2.ensures c.other_bit-3.ensures c.other_bit-4.ensures c.other_bit-5.ensures (eqb-true _ 0 e)

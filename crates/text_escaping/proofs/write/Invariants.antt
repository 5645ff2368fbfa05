-- `text_escaping::write` meets its contract. Assumes nothing.
use lib.ListN.{drop}
use Rattle.octets.proofs.Writes.{Written}
use Rattle.text_escaping.specs.Coded.{coded}
use Rattle.text_escaping.proofs.write.Given as goal

abbrev pub invariant-loop-b : goal.invariant-loop-b
invariant-loop-b l = Written (coded l.lead l.t l.text) (coded l.lead l.t (drop l.b-index l.text)) l.initial.out l.out l.j

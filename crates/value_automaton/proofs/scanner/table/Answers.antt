-- `value_automaton::scanner::table` meets its contract. Assumes nothing.
use Rattle.value_automaton.proofs.scanner.table.Goals as goal

pub returns : goal.returns
returns c = record { whole = λ h. c.whole_table.ensures }

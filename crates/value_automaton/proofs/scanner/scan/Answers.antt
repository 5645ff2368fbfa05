-- `value_automaton::scanner::scan` meets its contract. Assumes nothing.
use borrow.Author.Rules.{rules}
use Rattle.value_automaton.proofs.scanner.scan.Goals as goal

pub scan_by-requires : goal.scan_by-requires
scan_by-requires c = record { whole = c.requires.scanner.whole c.if-steps-eq0.false; first_lt_state_count = search rules }

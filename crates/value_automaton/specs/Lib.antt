-- The definitions that the contracts of `value_automaton` cite. Assumes nothing.
pub mod States

-- `cabbook_tables::fields::name_start` meets its contract. Assumes nothing.
use native.Mathlib.Omega.{arith}
use borrow.Author.Tests.{eq-eqb, ne_eqb}
use Rattle.cabbook_tables.proofs.fields.name_start.Goals as goal

pub returns-then-group_length-eq0 : goal.returns-then-group_length-eq0
returns-then-group_length-eq0 c = record { value = rw (eq-eqb c.args.group_length 0 c.if-group_length-eq0.true) (omega arith); upper_bound = omega arith }

pub returns : goal.returns
returns c = record { value = rw (ne_eqb c.args.group_length 0 c.if-group_length-eq0.false) (omega arith); upper_bound = omega arith }

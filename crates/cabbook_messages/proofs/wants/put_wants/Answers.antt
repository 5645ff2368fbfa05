-- `cabbook_messages::wants::put_wants` meets its contract. Assumes nothing.
use Rattle.octets.specs.Ascii.{octets}
use Rattle.cabbook_messages.specs.Wants.{wants}
use borrow.Author.Tests.{ne_eqb}
use Rattle.cabbook_messages.proofs.wants.put_wants.Goals as goal

pub returns-in-1 : goal.returns-in-1
unfolding octets wants
returns-in-1 c = rw c.in-1.is c.put_all.ensures

pub returns-in-2 : goal.returns-in-2
unfolding octets wants
returns-in-2 c = rw c.in-2.is c.put_all-in-2.ensures

pub returns-in-34 : goal.returns-in-34
unfolding octets wants
returns-in-34 c = rw c.in-34.is c.put_all-in-34.ensures

pub returns-in_default : goal.returns-in_default
unfolding wants
returns-in_default c =
    let a = c.args in
    rw (ne_eqb a.row 1 c.in_default.in_default-own.rest.0.0.1, ne_eqb a.row 2 c.in_default.in_default-own.rest.0.1, ne_eqb a.row 34 c.in_default.in_default-own.rest.1) c.put_value_wants.ensures

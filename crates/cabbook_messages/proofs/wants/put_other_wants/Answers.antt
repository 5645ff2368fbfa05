-- `cabbook_messages::wants::put_other_wants` meets its contract. Assumes nothing.
use Rattle.octets.specs.Ascii.{octets}
use Rattle.cabbook_messages.specs.Wants.{other_wants}
use borrow.Author.Tests.{ne_eqb}
use Rattle.cabbook_messages.proofs.wants.put_other_wants.Goals as goal

pub returns-in-8 : goal.returns-in-8
unfolding octets other_wants
returns-in-8 c = rw c.in-8.is c.put_all.ensures

pub returns-in-9 : goal.returns-in-9
unfolding octets other_wants
returns-in-9 c = rw c.in-9.is c.put_all-in-9.ensures

pub returns-in-10 : goal.returns-in-10
unfolding octets other_wants
returns-in-10 c = rw c.in-10.is c.put_all-in-10.ensures

pub returns-in-11 : goal.returns-in-11
unfolding octets other_wants
returns-in-11 c = rw c.in-11.is c.put_all-in-11.ensures

pub returns-in_default : goal.returns-in_default
unfolding octets other_wants
returns-in_default c =
    let a = c.args in
    rw (ne_eqb a.kind 8 c.in_default.in_default-own.rest.0.0.0.1, ne_eqb a.kind 9 c.in_default.in_default-own.rest.0.0.1, ne_eqb a.kind 10 c.in_default.in_default-own.rest.0.1, ne_eqb a.kind 11 c.in_default.in_default-own.rest.1) c.put_all-in_default.ensures

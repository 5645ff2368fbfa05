-- `cabbook_messages::wants::put_kind_wants` meets its contract. Assumes nothing.
use Rattle.octets.specs.Ascii.{octets}
use Rattle.cabbook_messages.specs.Wants.{kind_wants}
use borrow.Author.Tests.{ne_eqb}
use Rattle.cabbook_messages.proofs.wants.put_kind_wants.Goals as goal

pub returns-in-1 : goal.returns-in-1
unfolding octets kind_wants
returns-in-1 c = rw c.in-1.is c.put_all.ensures

pub returns-in-3 : goal.returns-in-3
unfolding octets kind_wants
returns-in-3 c = rw c.in-3.is c.put_all-in-3.ensures

pub returns-in-4 : goal.returns-in-4
unfolding octets kind_wants
returns-in-4 c = rw c.in-4.is c.put_parts.ensures

pub returns-in-5 : goal.returns-in-5
unfolding octets kind_wants
returns-in-5 c = rw c.in-5.is c.put_parts-in-5.ensures

pub returns-in-6 : goal.returns-in-6
unfolding octets kind_wants
returns-in-6 c = rw c.in-6.is c.put_all-in-6.ensures

pub returns-in-7 : goal.returns-in-7
unfolding octets kind_wants
returns-in-7 c = rw c.in-7.is c.put_all-in-7.ensures

pub returns-in_default : goal.returns-in_default
unfolding octets kind_wants
returns-in_default c =
    let a = c.args in
    rw (ne_eqb a.kind 1 c.in_default.in_default-own.rest.0.0.0.0.0.1, ne_eqb a.kind 3 c.in_default.in_default-own.rest.0.0.0.0.1, ne_eqb a.kind 4 c.in_default.in_default-own.rest.0.0.0.1, ne_eqb a.kind 5 c.in_default.in_default-own.rest.0.0.1, ne_eqb a.kind 6 c.in_default.in_default-own.rest.0.1, ne_eqb a.kind 7 c.in_default.in_default-own.rest.1) c.put_other_wants.ensures

-- `octets::cases::same_name` meets its contract. Assumes nothing.
use Rattle.octets.proofs.CaseLaws.{same_by}
use Rattle.octets.proofs.cases.same_name.Goals as goal

pub returns : goal.returns
returns c = same_by c.eq_ignore_ascii_case.result c.args.a.now c.args.b.now c.eq_ignore_ascii_case.ensures.test

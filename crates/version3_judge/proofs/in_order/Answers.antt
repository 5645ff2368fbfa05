-- `version3_judge::in_order` meets its contract. Assumes nothing.
use Rattle.version3_judge.proofs.JudgeLaws.{place_inside, place_outside}
use Rattle.version3_judge.proofs.in_order.Goals as goal

pub returns-in-Inside : goal.returns-in-Inside
returns-in-Inside c = place_inside c.args.phase c.args.row c.in-Inside.is

pub returns-in-BeforeBegin : goal.returns-in-BeforeBegin
returns-in-BeforeBegin c = place_outside c.args.phase c.args.row c.in-BeforeBegin.is

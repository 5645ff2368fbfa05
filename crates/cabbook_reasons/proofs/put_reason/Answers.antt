-- `cabbook_reasons::put_reason` meets its contract. Assumes nothing.
use Rattle.std.proofs.Common.{rules}
use Rattle.octets.specs.Ascii.{octets}
use Rattle.numbers.specs.declared.refusal.Reason.TheVariants.{Order, LoneCrOrLf}
use Rattle.numbers.proofs.Reasons.{other_reason}
use Rattle.cabbook_reasons.specs.Reasons.{reason}
use Rattle.cabbook_reasons.proofs.put_reason.Goals as goal

pub returns-in_default : goal.returns-in_default
unfolding reason octets
returns-in_default c = rw (other_reason c.args.r.0 Order c.in_default.not-Order, ← c.is_utf16.ensures, c.if-is_utf16.true) c.put_all.ensures

pub returns-in_default-2 : goal.returns-in_default-2
unfolding reason octets
returns-in_default-2 c =
    let e = other_reason c.args.r.0 LoneCrOrLf (search rules) in
    rw (other_reason c.args.r.0 Order c.in_default-2.not-Order, ← c.is_utf16.ensures, c.if-is_utf16.false, e) c.put_words.ensures

-- src/lib.rt:221:41
use mathlib.Core.Path.{sym, ap, ◌∙◌}
use Rattle.octets.specs.Ascii.{octets}
use Rattle.octets.specs.Cases.{same}
use Rattle.version3_judge.specs.Judge.{version_read}
use Rattle.version3_judge.proofs.is_version.Goals as goal

-- src/lib.rt:217:1
pub returns-in-Inward : goal.returns-in-Inward
unfolding octets
returns-in-Inward c = c.same_name.ensures ∙ ap (λ (w : _). same c.args.value.now (version_read w)) (sym c.in-Inward.is)

-- src/lib.rt:217:1
pub returns-in-Outward : goal.returns-in-Outward
unfolding octets
returns-in-Outward c = c.same_name-in-Outward.ensures ∙ ap (λ (w : _). same c.args.value.now (version_read w)) (sym c.in-Outward.is)

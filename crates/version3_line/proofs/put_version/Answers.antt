-- src/lib.rt:92:38
use mathlib.Core.Path.{refl}
use Rattle.octets.specs.Ascii.{octets}
use Rattle.version3_line.proofs.put_version.Goals as goal

-- src/lib.rt:86:1
pub returns-in-Inward : goal.returns-in-Inward
unfolding octets
returns-in-Inward c = rw c.in-Inward.is (refl, c.copy_in.ensures)

-- src/lib.rt:86:1
pub returns-in-Outward : goal.returns-in-Outward
unfolding octets
returns-in-Outward c = rw c.in-Outward.is (refl, c.copy_in-in-Outward.ensures)

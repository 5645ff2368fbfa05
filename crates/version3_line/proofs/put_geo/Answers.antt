-- src/lib.rt:108:53
use Rattle.version3_line.proofs.put_geo.Goals as goal

-- src/lib.rt:103:1
pub returns-in-Inward : goal.returns-in-Inward
returns-in-Inward c = rw c.in-Inward.is c.put_new.ensures

-- src/lib.rt:103:1
pub returns-in-Outward : goal.returns-in-Outward
returns-in-Outward c = rw c.in-Outward.is c.put_old.ensures

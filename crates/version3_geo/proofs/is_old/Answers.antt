-- src/lib.rt:144:5
use Rattle.version3_geo.specs.Floats.{old_geo}
use Rattle.version3_geo.proofs.is_old.Goals as goal

-- src/lib.rt:141:1
pub returns : goal.returns
unfolding old_geo
returns c = c.are_floats.ensures

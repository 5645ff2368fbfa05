-- src/lib.rt:174:35
use mathlib.Core.Path.{refl}
use native.Mathlib.Omega.{arith}
use Rattle.version3_text.proofs.PutLaws.{two_pieces}
use Rattle.octets.specs.Ascii.{octets}
use Rattle.version3_geo.specs.Floats.{geo_text, swapped, made_new}
use Rattle.version3_geo.proofs.GeoLaws.{made_new_length, swapped_length}
use Rattle.version3_geo.proofs.put_new.Goals as goal

-- src/lib.rt:170:1
pub returns : goal.returns
unfolding made_new octets
returns c =
    let s = c.args.s.now in
    let d = c.args.out.now in
    let n = swapped_length 59 44 _ s d refl in
    (made_new_length s, two_pieces d c.copy_in.new.dst geo_text (swapped 59 44 s) c.put_swapped.new.out 4 refl c.copy_in.ensures (omega (arith, n, c.requires)) c.put_swapped.ensures)

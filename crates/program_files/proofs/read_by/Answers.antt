-- `program_files::read_by` meets its contract. Assumes nothing.
use mathlib.Core.Path.{sym}
use native.Mathlib.Omega.{arith}
use lib.Seq.{length-take-le}
use Rattle.program_files.proofs.Rooms.{take_fits, filled_over}
use Rattle.program_files.proofs.read_by.Goals as goal

pub slice_bounds-read-end-2 : goal.slice_bounds-read-end-2
slice_bounds-read-end-2 c = sym (length-take-le c.min-want.result c.args.page.now (omega arith))

pub slice_bounds-copy_in-end-2 : goal.slice_bounds-copy_in-end-2
slice_bounds-copy_in-end-2 c = sym (length-take-le c.min-n.result _ (omega arith))

pub copy_in-requires : goal.copy_in-requires
copy_in-requires c = take_fits c.min-n.result _ c.args.room.now (omega arith)

pub returns : goal.returns
returns c = filled_over _ c.args.room.now c.copy_in.new.dst c.min-n.result (omega arith) (omega arith) c.copy_in.ensures

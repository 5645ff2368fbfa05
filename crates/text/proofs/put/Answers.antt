-- `text::put` meets its contract. Assumes nothing.
use mathlib.Core.Path.{refl}
use native.Mathlib.Omega.{arith}
use lib.ListN.{length}
use Rattle.octets.proofs.RoomLaws.{fill_short, fill_fits}
use Rattle.text.proofs.put.Goals as goal

pub returns-then-out-text : goal.returns-then-out-text
returns-then-out-text c =
    let a = c.args in
    fill_short a.text.now a.out.now (length a.text.now) refl c.if-out-text.true

pub copy_in-requires : goal.copy_in-requires
copy_in-requires c = omega arith

pub returns : goal.returns
returns c =
    let a = c.args in
    fill_fits a.text.now a.out.now (length a.text.now) refl (omega arith) c.copy_in.new.dst c.copy_in.ensures

-- `version3::sheet::add_line` meets its contract. Assumes nothing.
use native.Mathlib.Omega.{arith}
use lib.ListN.{length-take, length-drop}
use Rattle.folder_line.specs.Pieces.{folded}
use Rattle.version3.proofs.CardLaws.{folded_long}
use Rattle.version3.proofs.PlaceLaws.{grown}
use Rattle.version3.proofs.sheet.add_line.Goals as goal

pub returns-then-l-gt-OCTETS : goal.returns-then-l-gt-OCTETS
returns-then-l-gt-OCTETS c = omega (arith, folded_long c.args.l.now, c.if-l-gt-OCTETS.true, c.requires.2)

pub measure-n-requires : goal.measure-n-requires
measure-n-requires c = (c.requires.0, c.if-l-gt-OCTETS.false)

pub returns-then-room-w : goal.returns-then-room-w
returns-then-room-w c = omega (arith, c.measure-n.ensures.0, c.if-room-w.true)

pub fold_line-m-requires : goal.fold_line-m-requires
fold_line-m-requires c = (c.requires.0, simp (length-take, length-drop) (omega (arith, c.measure-n.ensures.0, c.if-room-w.false, c.requires.1)))

pub overflow_add-result : goal.overflow_add-result
overflow_add-result c = omega (arith, c.measure-n.ensures.0, c.fold_line-m.ensures.0, c.if-room-w.false, c.requires)

pub returns : goal.returns
returns c = grown (folded c.args.l.now) c.args.room.now _ c.args.w c.fold_line-m.result (omega (arith, c.measure-n.ensures.0, c.if-room-w.false, c.requires.1)) c.fold_line-m.ensures.0 c.fold_line-m.ensures.1

-- `desk::Desk::reclaim` meets its contract. Assumes nothing.
use mathlib.Core.Path.{sym, ap, ◌∙◌}
use native.Mathlib.Omega.{arith}
use Rattle.desk_entries.specs.Search.{place}
use Rattle.desk.proofs.DeskLaws.{idle_inside}
use Rattle.desk.proofs.Desk.reclaim.Goals as goal

pub clear-requires : goal.clear-requires
clear-requires c =
    let a = c.args in
    let h = idle_inside a.self a.tick _ (sym (rw c.table.ensures at c.find_idle.ensures) ∙ ap place c.in-Some.is) in
    omega (arith, c.requires.fits)

pub begin-requires : goal.begin-requires
begin-requires c =
    let a = c.args in
    let h = idle_inside a.self a.tick _ (sym (rw c.table.ensures at c.find_idle.ensures) ∙ ap place c.in-Some.is) in
    (omega (arith, c.requires.few), c.requires.left)

-- `crate::text::fold_buffered` meets its contract. Assumes nothing.
use mathlib.Core.Path.{refl, ap, ◌∙◌}
use native.Mathlib.Omega.{arith}
use Rattle.std.proofs.lemmas.Result.{err_from_is_err_and}
use Rattle.octets.specs.Room.{filled}
use Rattle.octets.specs.Room.{Written}
use Rattle.octets.proofs.RoomLaws.{fill_short, fill_fits, over_bound, within_bound}
use Rattle.folder.proofs.FitLaws.{from_buffer, poured_wrote, poured_refused}
use Rattle.folder.proofs.text.fold_buffered.Goals as goal

pub returns-in_err-n : goal.returns-in_err-n
returns-in_err-n c =
    let q = poured_refused c.in_err-n.ensures in
    let p = err_from_is_err_and c.from_residual.result c.from_residual.ensures.1 in
    rw (p.1, p.2) (ap (λ (a : Written). filled a c.args.out.now) q.0 ∙ over_bound _ c.args.out.now _ refl q.1)

pub returns-then-out-n : goal.returns-then-out-n
returns-then-out-n c =
    let w = poured_wrote c.in_ok-n.ensures in
    fill_short _ _ _ w.0 c.if-out-n.true ∙ within_bound _ _ _ w.0 (omega (arith, w.0, w.2))

pub returns : goal.returns
returns c =
    let p = c.in_ok-n.ensures in
    let w = poured_wrote p in
    let out = c.args.out.now in
    fill_fits _ out _ w.0 c.if-out-n.false _ (from_buffer p out _ c.copy_in.ensures)
    ∙ within_bound _ out _ w.0 (omega (arith, w.0, w.2))

-- `report::Report::print` meets its contract. Assumes nothing.
use mathlib.Core.Path.{sym, ap, ◌∙◌}
use mathlib.Core.List.{List, ◌++◌}
use Prim.Native.Nat.{ℕ}
use native.Mathlib.Omega.{arith}
use lib.ListN.{drop}
use lib.Seq.{length-take-le}
use Rattle.octets.specs.Room.{overlay}
use Rattle.octets.proofs.RoomLaws.{fill_short, fill_fits}
use Rattle.report.specs.Text.{report_text}
use Rattle.report.proofs.PageLaws.{Holds, holds}
use Rattle.report.proofs.TextLaws.{text_few}
use Rattle.report.proofs.Report.print.Goals as goal

pub returns-then-out-n : goal.returns-then-out-n
unfolding report_text
returns-then-out-n c =
    let here : Holds (report_text c.args.self) c.put_rows-n.result c.put_rows-n.new.room = holds _ _ _ _ c.put_rows-n.ensures (omega (arith, text_few c.args.self.counts)) in
    let h = here in
    fill_short _ _ _ h.count c.if-out-n.true

pub slice_bounds-page-end : goal.slice_bounds-page-end
unfolding report_text
slice_bounds-page-end c =
    let here : Holds (report_text c.args.self) c.put_rows-n.result c.put_rows-n.new.room = holds _ _ _ _ c.put_rows-n.ensures (omega (arith, text_few c.args.self.counts)) in
    here.fits

pub slice_bounds-copy_in-end : goal.slice_bounds-copy_in-end
unfolding report_text
slice_bounds-copy_in-end c =
    let here : Holds (report_text c.args.self) c.put_rows-n.result c.put_rows-n.new.room = holds _ _ _ _ c.put_rows-n.ensures (omega (arith, text_few c.args.self.counts)) in
    let h = here in sym (length-take-le _ _ h.fits)

pub copy_in-requires : goal.copy_in-requires
unfolding report_text
copy_in-requires c =
    let here : Holds (report_text c.args.self) c.put_rows-n.result c.put_rows-n.new.room = holds _ _ _ _ c.put_rows-n.ensures (omega (arith, text_few c.args.self.counts)) in
    let h = here in
    rw h.octets (omega (arith, h.count, c.if-out-n.false))

pub returns : goal.returns
unfolding report_text
returns c =
    let here : Holds (report_text c.args.self) c.put_rows-n.result c.put_rows-n.new.room = holds _ _ _ _ c.put_rows-n.ensures (omega (arith, text_few c.args.self.counts)) in
    let h = here in
    let out = c.args.out.now in
    let text = report_text c.args.self in
    fill_fits _ _ _ h.count c.if-out-n.false _
    (c.copy_in.ensures ∙ ap (λ (t : List ℕ). overlay t out) h.octets ∙ ap (λ (k : ℕ). text ++ drop k out) (sym h.count))

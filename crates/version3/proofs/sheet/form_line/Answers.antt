-- src/sheet.rt:73:11
use mathlib.Core.Path.{sym, ap, ◌∙◌}
use mathlib.Core.List.{List}
use Prim.Native.Nat.{ℕ}
use native.Mathlib.Omega.{arith}
use lib.ListN.{length, take}
use Rattle.octets.specs.Room.{overlay}
use Rattle.version3_text.proofs.PutLaws.{overlay_length}
use lib.Seq.{take_at}
use Rattle.line_parser.specs.Rule.{parse_line}
use Rattle.property_table.specs.declared.Edition.TheVariants.{First}
use Rattle.card_line.specs.Parts.{parted}
use Rattle.card_line.proofs.PartLaws.{read}
use Rattle.version3_line.specs.Lines.{written_by}
use Rattle.version3_line.proofs.BoundLaws.{written_most}
use Rattle.version3.specs.Card.{clear}
use Rattle.version3.proofs.CardLaws.{fault_form, line_turn, clear_taken, form_of_lem}
use Rattle.version3.proofs.sheet.form_line.Goals as goal

pub parts_of-requires : goal.parts_of-requires
parts_of-requires c = record { classes = c.requires.classes.0; lists = c.requires.classes.1; s_len_bound = c.requires.s_len_bound.0 }

-- src/sheet.rt:79:17
pub put_line-n-requires : goal.put_line-n-requires
put_line-n-requires c = record { classes = c.requires.classes.0; x_value = sym (ap parted c.in-Ok.is) ∙ c.parts_of.ensures; s_in_bounds = omega (arith, written_most c.args.way c.args.s.now, c.requires.s_len_bound.1) }

-- src/sheet.rt:80:42
pub slice_bounds-clear_length-end : goal.slice_bounds-clear_length-end
slice_bounds-clear_length-end c =
    let r = ap length c.put_line-n.ensures.1 ∙ overlay_length (written_by c.args.way (parse_line c.args.s.now)) c.args.d.now (omega (arith, written_most c.args.way c.args.s.now, c.requires.s_len_bound.1)) in
    omega (arith, r, c.put_line-n.ensures.0, written_most c.args.way c.args.s.now, c.requires.s_len_bound.1)

-- src/sheet.rt:80:42
pub slice_bounds-clear_length-end-in-Ok : goal.slice_bounds-clear_length-end-in-Ok
slice_bounds-clear_length-end-in-Ok c = sym (ap length (ap (take c.put_line-n.result) c.put_line-n.ensures.1 ∙ take_at (written_by c.args.way (parse_line c.args.s.now)) _ c.put_line-n.result (sym c.put_line-n.ensures.0)) ∙ sym c.put_line-n.ensures.0)

-- src/sheet.rt:80:17
pub clear_length-length-requires : goal.clear_length-length-requires
clear_length-length-requires c = c.requires.classes.0

-- src/sheet.rt:68:1
pub returns-in-Err : goal.returns-in-Err
returns-in-Err c =
    let f = fault_form c.args.way c.args.s.now _ (sym (ap parted c.in-Err.is) ∙ c.parts_of.ensures) in
    record { turn = sym f.0; count = sym (ap length f.1); text = sym f.1 }

-- src/sheet.rt:68:1
pub shape_of-d : goal.shape_of-d
shape_of-d c = ap length c.put_line-n.ensures.1 ∙ overlay_length (written_by c.args.way (parse_line c.args.s.now)) c.args.d.now (omega (arith, written_most c.args.way c.args.s.now, c.requires.s_len_bound.1))

-- src/sheet.rt:68:1
pub returns-in-Ok : goal.returns-in-Ok
returns-in-Ok c =
    let w = c.args.way in
    let s = c.args.s.now in
    let t = written_by w (parse_line s) in
    let r = read First s _ (sym (ap parted c.in-Ok.is) ∙ c.parts_of.ensures) in
    let k = ap (take c.put_line-n.result) c.put_line-n.ensures.1 ∙ take_at t _ c.put_line-n.result (sym c.put_line-n.ensures.0) in
    let n = c.clear_length-length.ensures ∙ ap (λ (l : List ℕ). length (clear l)) k in
    record { turn = c.turn_of.ensures ∙ line_turn s _ r; count = n ∙ ap length (form_of_lem w s); text = ap (take c.clear_length-length.result) c.put_line-n.ensures.1 ∙ ap (λ (j : ℕ). take j (overlay t c.args.d.now)) n ∙ clear_taken t c.args.d.now ∙ form_of_lem w s }

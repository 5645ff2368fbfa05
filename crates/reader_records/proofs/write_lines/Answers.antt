-- `reader_records::write_lines` meets its contract. Assumes nothing.
use mathlib.Core.Path.{◌≡◌, sym, ap, ◌∙◌}
use mathlib.Core.List.{List, ◌++◌}
use Prim.Native.Nat.{ℕ}
use native.Mathlib.Omega.{arith}
use lib.ListN.{take, drop}
use lib.Seq.{take_at}
use Rattle.octets.specs.Room.{overlay}
use Rattle.line_folds.specs.Folds.{unfolded}
use Rattle.line_folds.specs.Logical.{raw_lines}
use Rattle.line_folds.proofs.FoldLaws.{unfold_shorter}
use Rattle.reader_records.specs.Records.{records_from}
use Rattle.reader_records.proofs.write_lines.Goals as goal

pub write_records-requires : goal.write_records-requires
write_records-requires c =
    let p = c.requires in
    let s = c.args.s.now in
    let u = c.unfold_text-n in
    -- the copy holds the text without its folds
    let text : take u.result u.new.d ≡ unfolded c.args.s.now = ap (take u.result) u.ensures.1 ∙ take_at _ _ u.result (sym u.ensures.0) in
    record { classes = c.requires.classes; lists = c.requires.lists; s_len_bound = rw text (omega (arith, unfold_shorter s, c.requires.s_len_bound)); s_in_bounds = rw text c.requires.s_in_bounds.1; by_index = rw text c.requires.by_index }

pub returns : goal.returns
returns c =
    let a = c.args in
    let u = c.unfold_text-n in
    -- the copy holds the text without its folds
    let text : take u.result u.new.d ≡ unfolded c.args.s.now = ap (take u.result) u.ensures.1 ∙ take_at _ _ u.result (sym u.ensures.0) in
    record { copy_after = u.ensures.1 ∙ ap (λ (n : ℕ). unfolded a.s.now ++ drop n a.copy.now) u.ensures.0; out_after = (c.write_records.ensures ∙ ap (λ (l : List ℕ). overlay (records_from a.edition 0 (raw_lines l)) a.out.now) text) }

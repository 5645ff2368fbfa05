-- `reader_records::record_of` meets its contract. Assumes nothing.
use mathlib.Core.Path.{sym, ap, ◌∙◌}
use mathlib.Core.List.{[], ◌∷◌}
use Prim.Native.Nat.{ℕ, ◌+◌, ◌-◌, ◌≤◌}
use native.Mathlib.Omega.{arith}
use lib.ListN.{length}
use Rattle.line_parser.specs.Places.{name_start}
use Rattle.card_line.specs.Parts.{parted}
use Rattle.card_line.proofs.PartLaws.{parts_ok}
use Rattle.card_judge.proofs.CardLaws.{parts_fit, name_long}
use Rattle.reader_records.specs.Records.{record_by, record_of}
use Rattle.reader_records.proofs.record_of.Goals as goal

pub returns-in_default : goal.returns-in_default
unfolding record_of record_by
returns-in_default c =
    let a = c.args in
    sym (ap (record_by a.w (length a.l.now)) (sym c.parts_of.ensures ∙ ap parted c.in_default.is))

pub name_start-from-requires : goal.name_start-from-requires
name_start-from-requires c =
    let x = c.in-Ok.x in
    let within = parts_fit c.args.edition c.args.l.now x (sym (parts_ok _ _ c.parts_of.ensures c.in-Ok.is)) in
    omega (arith, within, c.requires.l_bound)

pub overflow_cast-result : goal.overflow_cast-result
overflow_cast-result c =
    let x = c.in-Ok.x in
    let within = parts_fit c.args.edition c.args.l.now x (sym (parts_ok _ _ c.parts_of.ensures c.in-Ok.is)) in
    omega (arith, within)

pub overflow_cast-result-4 : goal.overflow_cast-result-4
overflow_cast-result-4 c =
    let x = c.in-Ok.x in
    let within = parts_fit c.args.edition c.args.l.now x (sym (parts_ok _ _ c.parts_of.ensures c.in-Ok.is)) in
    omega (arith, within, c.requires.l_bound)

pub overflow_sub-result : goal.overflow_sub-result
overflow_sub-result c =
    let long : name_start c.in-Ok.x.group_length ≤ c.in-Ok.x.name_end = name_long c.args.edition c.args.l.now c.in-Ok.x (sym (parts_ok _ _ c.parts_of.ensures c.in-Ok.is)) in
    omega (arith, c.name_start-from.ensures, long)

pub overflow_cast-result-5 : goal.overflow_cast-result-5
overflow_cast-result-5 c =
    let x = c.in-Ok.x in
    let within = parts_fit c.args.edition c.args.l.now x (sym (parts_ok _ _ c.parts_of.ensures c.in-Ok.is)) in
    omega (arith, within, c.requires.l_bound)

pub overflow_cast-result-6 : goal.overflow_cast-result-6
overflow_cast-result-6 c =
    let x = c.in-Ok.x in
    let within = parts_fit c.args.edition c.args.l.now x (sym (parts_ok _ _ c.parts_of.ensures c.in-Ok.is)) in
    omega (arith, within, c.requires.l_bound)

pub overflow_add-result : goal.overflow_add-result
overflow_add-result c =
    let x = c.in-Ok.x in
    let within = parts_fit c.args.edition c.args.l.now x (sym (parts_ok _ _ c.parts_of.ensures c.in-Ok.is)) in
    omega (arith, within, c.requires.l_bound)

pub overflow_cast-result-7 : goal.overflow_cast-result-7
overflow_cast-result-7 c =
    let x = c.in-Ok.x in
    let within = parts_fit c.args.edition c.args.l.now x (sym (parts_ok _ _ c.parts_of.ensures c.in-Ok.is)) in
    omega (arith, within, c.requires.l_bound)

pub overflow_cast-result-8 : goal.overflow_cast-result-8
overflow_cast-result-8 c =
    let x = c.in-Ok.x in
    let within = parts_fit c.args.edition c.args.l.now x (sym (parts_ok _ _ c.parts_of.ensures c.in-Ok.is)) in
    omega (arith, within)

pub returns : goal.returns
unfolding record_of record_by
returns c =
    let a = c.args in
    let x = c.in-Ok.x in
    let n = length a.l.now in
    ap (λ (f : ℕ). x.row ∷ a.w ∷ n ∷ x.group_length ∷ (x.name_end - f) ∷ x.param_count ∷ (a.w + x.value_start) ∷ x.kind ∷ []) c.name_start-from.ensures
    ∙ sym (ap (record_by a.w n) (sym (parts_ok _ _ c.parts_of.ensures c.in-Ok.is)))

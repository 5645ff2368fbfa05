-- the line by its parts
use mathlib.Core.Path.{sym, ap, ◌∙◌}
use Rattle.property_table.specs.declared.Edition.TheVariants.{First}
use Rattle.card_line.specs.Parts.{parted}
use Rattle.card_line.proofs.PartLaws.{Read, read, read_accepted}
use Rattle.version3_judge.proofs.JudgeLaws.{line_flawed, line_fault, line_parts}
use Rattle.version3_judge.proofs.judge_line.Goals as goal

-- src/lib.rt:390:9
pub returns-then-bad-s : goal.returns-then-bad-s
returns-then-bad-s c = line_flawed c.args.way c.args.c c.args.at c.args.s.now c.first_bad-bad.result c.first_bad-bad.ensures c.if-bad-s.true

-- src/lib.rt:396:43
pub slice_bounds-judge_parts-count : goal.slice_bounds-judge_parts-count
slice_bounds-judge_parts-count c =
    let there : Read First c.args.s.now c.in-Ok.x = read First _ _ (sym (ap parted c.in-Ok.is) ∙ c.parts_of.ensures) in
    there.inside

-- src/lib.rt:396:43
pub slice_bounds-judge_parts-start : goal.slice_bounds-judge_parts-start
slice_bounds-judge_parts-start c =
    let there : Read First c.args.s.now c.in-Ok.x = read First _ _ (sym (ap parted c.in-Ok.is) ∙ c.parts_of.ensures) in
    there.inside

-- src/lib.rt:396:13
pub judge_parts-requires : goal.judge_parts-requires
judge_parts-requires c =
    let there : Read First c.args.s.now c.in-Ok.x = read First _ _ (sym (ap parted c.in-Ok.is) ∙ c.parts_of.ensures) in
    let z = c.requires in
    record { classes = (c.requires.tables.0, c.requires.tables.2); accepted = (read_accepted First c.args.s.now _ there, there.low) }

-- src/lib.rt:375:1
pub returns-in-Err : goal.returns-in-Err
returns-in-Err c = line_fault c.args.way c.args.c c.args.at c.args.s.now (rw (← c.first_bad-bad.ensures) c.if-bad-s.false) _ (sym (ap parted c.in-Err.is) ∙ c.parts_of.ensures)

-- src/lib.rt:375:1
pub returns-in-Ok : goal.returns-in-Ok
returns-in-Ok c =
    let there : Read First c.args.s.now c.in-Ok.x = read First _ _ (sym (ap parted c.in-Ok.is) ∙ c.parts_of.ensures) in
    c.judge_parts.ensures ∙ line_parts c.args.way c.args.c c.args.at c.args.s.now (rw (← c.first_bad-bad.ensures) c.if-bad-s.false) _ there

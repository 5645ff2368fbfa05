-- src/lib.rt:309:8
use mathlib.Core.Path.{sym, ◌∙◌}
use Rattle.version3_parameters.specs.Places.{params_of}
use Rattle.version3_judge.proofs.JudgeLaws.{good_frame, good_other}
use Rattle.version3_judge.proofs.is_good.Goals as goal

-- src/lib.rt:310:9
pub returns-then-is_framing : goal.returns-then-is_framing
returns-then-is_framing c = c.does_frame.ensures ∙ sym (good_frame c.args.way c.args.c c.args.x.row c.args.x.kind (params_of c.args.s.now) c.args.value.now (sym c.is_framing.ensures ∙ c.if-is_framing.true))

-- src/lib.rt:312:5
pub does_go-requires : goal.does_go-requires
does_go-requires c = record { classes = c.requires.classes; accepted = c.requires.accepted }

-- src/lib.rt:296:1
pub returns : goal.returns
returns c = c.does_go.ensures ∙ sym (good_other c.args.way c.args.c c.args.x.row c.args.x.kind (params_of c.args.s.now) c.args.value.now (sym c.is_framing.ensures ∙ c.if-is_framing.false))

-- src/lib.rt:282:9
use mathlib.Core.Path.{sym, ◌∙◌}
use borrow.Author.Tests.{not-true, not-false}
use Rattle.version3_parameters.specs.Places.{params_of}
use Rattle.version3_judge.proofs.JudgeLaws.{goes_foreign, goes_second, goes_preferred, goes_by}
use Rattle.version3_judge.proofs.does_go.Goals as goal

-- src/lib.rt:283:9
pub returns-then-not-is_common : goal.returns-then-not-is_common
returns-then-not-is_common c = goes_foreign c.args.way c.args.c c.args.x.row c.args.x.kind (params_of c.args.s.now) c.args.value.now (sym c.is_common.ensures ∙ not-true _ c.if-not-is_common.true-raw)

-- src/lib.rt:286:9
pub returns-then-is_second : goal.returns-then-is_second
returns-then-is_second c = goes_second c.args.way c.args.c c.args.x.row c.args.x.kind (params_of c.args.s.now) c.args.value.now (sym c.is_common.ensures ∙ not-false _ c.if-not-is_common.false-raw) (sym c.is_second.ensures ∙ c.if-is_second.true)

-- src/lib.rt:289:9
pub do_prefs_fit-requires : goal.do_prefs_fit-requires
do_prefs_fit-requires c = record { classes = c.requires.classes.0; accepted = c.requires.accepted.0 }

-- src/lib.rt:290:9
pub returns-then-not-do_prefs_fit : goal.returns-then-not-do_prefs_fit
returns-then-not-do_prefs_fit c = goes_preferred c.args.way c.args.c c.args.x.row c.args.x.kind (params_of c.args.s.now) c.args.value.now (sym c.is_common.ensures ∙ not-false _ c.if-not-is_common.false-raw) (sym c.is_second.ensures ∙ c.if-is_second.false) (sym c.do_prefs_fit.ensures ∙ not-true _ c.if-not-do_prefs_fit.true-raw)

-- src/lib.rt:292:5
pub does_go_over-requires : goal.does_go_over-requires
does_go_over-requires c = record { scanner = c.requires.classes.1; kind_lt_count = c.requires.accepted.1 }

-- src/lib.rt:269:1
pub returns : goal.returns
returns c = c.does_go_over.ensures ∙ sym (goes_by c.args.way c.args.c c.args.x.row c.args.x.kind (params_of c.args.s.now) c.args.value.now (sym c.is_common.ensures ∙ not-false _ c.if-not-is_common.false-raw) (sym c.is_second.ensures ∙ c.if-is_second.false) (sym c.do_prefs_fit.ensures ∙ not-false _ c.if-not-do_prefs_fit.false-raw))

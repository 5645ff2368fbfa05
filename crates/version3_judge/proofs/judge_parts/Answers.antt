-- src/lib.rt:362:9
use mathlib.Core.Path.{sym, ap, ◌∙◌}
use Prim.Native.Nat.{ℕ}
use borrow.Author.Tests.{not-true, not-false}
use Rattle.version3_parameters.specs.Places.{params_of}
use Rattle.version3_judge.specs.Judge.{Next, Refused}
use Rattle.version3_judge.proofs.JudgeLaws.{parts_order, parts_laden, parts_not, parts_next}
use Rattle.version3_judge.proofs.judge_parts.Goals as goal

-- src/lib.rt:363:9
pub returns-then-not-in_order : goal.returns-then-not-in_order
returns-then-not-in_order c = parts_order c.args.way c.args.c c.args.x.row c.args.x.kind (params_of c.args.s.now) c.args.value.now c.args.at c.args.x.group_length c.args.x.param_count (sym c.in_order.ensures ∙ not-true _ c.if-not-in_order.true-raw)

-- src/lib.rt:366:9
pub returns-then-is_laden : goal.returns-then-is_laden
returns-then-is_laden c = parts_laden c.args.way c.args.c c.args.x.row c.args.x.kind (params_of c.args.s.now) c.args.value.now c.args.at c.args.x.group_length c.args.x.param_count (sym c.in_order.ensures ∙ not-false _ c.if-not-in_order.false-raw) (sym c.is_laden.ensures ∙ c.if-is_laden.true)

-- src/lib.rt:368:9
pub is_good-requires : goal.is_good-requires
is_good-requires c = record { classes = c.requires.classes; accepted = c.requires.accepted }

-- src/lib.rt:369:9
pub returns-then-not-is_good : goal.returns-then-not-is_good
returns-then-not-is_good c = ap (λ (n : ℕ). Refused n c.args.at) c.reason_of.ensures ∙ parts_not c.args.way c.args.c c.args.x.row c.args.x.kind (params_of c.args.s.now) c.args.value.now c.args.at c.args.x.group_length c.args.x.param_count (sym c.in_order.ensures ∙ not-false _ c.if-not-in_order.false-raw) (sym c.is_laden.ensures ∙ c.if-is_laden.false) (sym c.is_good.ensures ∙ not-true _ c.if-not-is_good.true-raw)

-- src/lib.rt:348:1
pub returns : goal.returns
returns c = ap Next c.note.ensures ∙ parts_next c.args.way c.args.c c.args.x.row c.args.x.kind (params_of c.args.s.now) c.args.value.now c.args.at c.args.x.group_length c.args.x.param_count (sym c.in_order.ensures ∙ not-false _ c.if-not-in_order.false-raw) (sym c.is_laden.ensures ∙ c.if-is_laden.false) (sym c.is_good.ensures ∙ not-false _ c.if-not-is_good.false-raw)

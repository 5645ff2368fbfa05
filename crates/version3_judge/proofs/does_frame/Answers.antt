-- src/lib.rt:245:13
use mathlib.Core.Path.{sym, ap, ◌∙◌}
use borrow.Author.Tests.{not-true, not-false}
use Rattle.octets.specs.Ascii.{octets}
use Rattle.version3_judge.proofs.JudgeLaws.{frames_again, frames_version, frames_other, frames_begin, frames_end, not_before}
use Rattle.version3_judge.specs.Judge.{before_begin}
use Rattle.version3_judge.proofs.does_frame.Goals as goal

pub returns-then-c : goal.returns-then-c
returns-then-c c = frames_again c.args.way c.args.c c.args.row c.args.value.now c.if-row-eq-VERSION.true c.if-c.true

-- src/lib.rt:247:9
pub returns-then-row-eq-VERSION : goal.returns-then-row-eq-VERSION
returns-then-row-eq-VERSION c = c.is_version.ensures ∙ sym (frames_version c.args.way c.args.c c.args.row c.args.value.now c.if-row-eq-VERSION.true c.if-c.false)

-- src/lib.rt:250:9
pub returns-then-not-same_name : goal.returns-then-not-same_name
unfolding octets
returns-then-not-same_name c = frames_other c.args.way c.args.c c.args.row c.args.value.now c.if-row-eq-VERSION.false (sym c.same_name.ensures ∙ not-true _ c.if-not-same_name.true-raw)

-- src/lib.rt:253:9
pub returns-in-BeforeBegin : goal.returns-in-BeforeBegin
unfolding octets
returns-in-BeforeBegin c =
    let k = frames_begin c.args.way c.args.c c.args.row c.args.value.now c.if-row-eq-VERSION.false (sym c.same_name.ensures ∙ not-false _ c.if-not-same_name.false-raw) c.if-row-eq-BEGIN.true in
    sym (ap before_begin c.in-BeforeBegin.is) ∙ k

pub returns-in_default : goal.returns-in_default
unfolding octets
returns-in_default c =
    let k = frames_begin c.args.way c.args.c c.args.row c.args.value.now c.if-row-eq-VERSION.false (sym c.same_name.ensures ∙ not-false _ c.if-not-same_name.false-raw) c.if-row-eq-BEGIN.true in
    not_before c.args.c.phase c.in_default.not-BeforeBegin ∙ k

-- src/lib.rt:240:1
pub returns : goal.returns
unfolding octets
returns c = c.is_whole.ensures ∙ frames_end c.args.way c.args.c c.args.row c.args.value.now c.if-row-eq-VERSION.false (sym c.same_name.ensures ∙ not-false _ c.if-not-same_name.false-raw) c.if-row-eq-BEGIN.false

-- `watch_lines::take_line` meets its contract. Assumes nothing.
use Rattle.card_state.specs.Kept.{KeptStep}
use native.Mathlib.Omega.{arith}
use mathlib.Core.Path.{◌≡◌, subst}
use Prim.Native.Nat.{◌+◌}
use lib.ListN.{length}
use Rattle.octets.specs.Pick.{pick}
use Rattle.property_table.specs.declared.Edition.TheVariants.{First}
use Rattle.card_state.specs.Kept.{step_of, Holds}
use Rattle.reader_walk.specs.Walk.{Left}
use Rattle.watch_lines.specs.Taking.{judgement}
use Rattle.watch_lines.proofs.TakingLaws.{took_refused, took_next, kept_low}
use Rattle.watch_lines.proofs.take_line.Goals as goal

pub judge_either-j-requires : goal.judge_either-j-requires
judge_either-j-requires c = let p = c.requires in record { tables = c.requires.tables; counted = c.requires.counted; roomy = c.requires.roomy.0; other_value = c.requires.other_value }

pub returns-in_default : goal.returns-in_default
returns-in_default c =
    let p = c.requires in
    let a = c.args in
    let s = pick a.first a.line.now a.other.now in
    let j = c.judge_either-j in
    took_refused a.c s a.buffer.now j.new.buffer a.at a.to c.requires.roomy.1 (omega (arith, j)) c.requires.other_bound.0 c.requires.other_bound.1
    j.result c.in_default.not-Ok j.ensures.result_after j.ensures.holds.1 c.settle_either.result c.settle_either.ensures c.clear.new.buffer c.clear.ensures

pub clear-requires-2 : goal.clear-requires-2
clear-requires-2 c =
    let p = c.requires in
    let a = c.args in
    let s = pick a.first a.line.now a.other.now in
    let j = c.judge_either-j in
    let low = kept_low (a.c.used + length s) j.result c.in-Ok.next c.in-Ok.is j.ensures.holds.0 in
    (omega (arith, low, c.requires.other_bound.0), omega (arith, j, c.requires.roomy.1, c.requires.other_bound.1))

pub returns : goal.returns
returns c =
    let p = c.requires in
    let a = c.args in
    let s = pick a.first a.line.now a.other.now in
    let j = c.judge_either-j in
    let b = j.new.buffer in
    let e = c.in-Ok.is in
    let d = c.in-Ok.next in
    took_next a.c s a.buffer.now b a.at a.to c.requires.roomy.1 (omega (arith, j)) c.requires.other_bound.0 c.requires.other_bound.1 d
    (subst (λ (x : KeptStep). step_of b x ≡ judgement a.c a.buffer.now s a.at) e j.ensures.result_after)
    (subst (λ (x : KeptStep). Left First a.c s a.buffer.now b x) e j.ensures.holds.1)
    (subst (λ (x : KeptStep). Holds (a.c.used + length s) x) e j.ensures.holds.0)
    c.clear-2.new.buffer c.clear-2.ensures

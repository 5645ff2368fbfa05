-- `watch::conclude` meets its contract. Assumes nothing.
use native.Mathlib.Omega.{arith}
use mathlib.Core.Path.{ap, ◌∙◌}
use Prim.Native.Nat.{◌<◌}
use lib.ListN.{length}
use mathlib.Core.List.{[]}
use Rattle.card_state.specs.Kept.{step_of}
use Rattle.watch.proofs.FaultLaws.{lives, counted}
use Rattle.watch.proofs.EndLaws.{end_over, end_none, end_broken, end_waits, end_open, end_faulty, end_live}
use Rattle.reader.specs.Outcome.{verdict_of}
use Rattle.watch.proofs.OutcomeLaws.{end_is_over, end_is_empty, end_is_broken, end_is_waiting, end_is_open, end_is_faulty, end_is_judged}
use Rattle.watch.proofs.conclude.Goals as goal

pub returns-then-w-eq-TOO_LONG : goal.returns-then-w-eq-TOO_LONG
returns-then-w-eq-TOO_LONG c = record { by_index = λ i r. end_over c.args.w c.args.buffer.now i c.if-w-eq-TOO_LONG.true r.stands; value = (end_is_over c.args.w c.args.buffer.now c.if-w-eq-TOO_LONG.true) }

pub returns-then-n-eq0 : goal.returns-then-n-eq0
returns-then-n-eq0 c = record { by_index = λ i r. end_none c.args.w c.args.buffer.now i c.if-w-eq-TOO_LONG.false r.stands c.if-n-eq0.true; value = (end_is_empty c.args.w c.args.buffer.now c.if-w-eq-TOO_LONG.false c.if-n-eq0.true) }

pub returns-then-w-eq-LONE_BREAK : goal.returns-then-w-eq-LONE_BREAK
returns-then-w-eq-LONE_BREAK c = record { by_index = λ i r. end_broken c.args.w c.args.buffer.now i c.if-w-eq-LONE_BREAK.true r.stands; value = (end_is_broken c.args.w c.args.buffer.now c.if-w-eq-TOO_LONG.false c.if-n-eq0.false c.if-w-eq-LONE_BREAK.true) }

pub returns-then-w-eq-AFTER_CR : goal.returns-then-w-eq-AFTER_CR
returns-then-w-eq-AFTER_CR c = record { by_index = λ i r. end_waits c.args.w c.args.buffer.now i c.if-w-eq-TOO_LONG.false c.if-w-eq-LONE_BREAK.false r.stands c.requires.0.counts.short c.if-n-eq0.false c.if-w-eq-AFTER_CR.true; value = (end_is_waiting c.args.w c.args.buffer.now c.if-w-eq-TOO_LONG.false c.if-n-eq0.false c.if-w-eq-LONE_BREAK.false c.if-w-eq-AFTER_CR.true) }

pub returns-then-w-ne-AFTER_CR_LF : goal.returns-then-w-ne-AFTER_CR_LF
returns-then-w-ne-AFTER_CR_LF c = record { by_index = λ i r. end_open c.args.w c.args.buffer.now i c.if-w-eq-TOO_LONG.false c.if-w-eq-LONE_BREAK.false r.stands c.requires.0.counts.short c.if-n-eq0.false c.if-w-eq-AFTER_CR.false c.if-w-ne-AFTER_CR_LF.true; value = (end_is_open c.args.w c.args.buffer.now c.if-w-eq-TOO_LONG.false c.if-n-eq0.false c.if-w-eq-LONE_BREAK.false c.if-w-eq-AFTER_CR.false c.if-w-ne-AFTER_CR_LF.true) }

pub returns-then-w-eq-LINE_FAULT : goal.returns-then-w-eq-LINE_FAULT
returns-then-w-eq-LINE_FAULT c = record { by_index = λ i r. end_faulty c.args.w c.args.buffer.now i c.if-w-eq-TOO_LONG.false c.if-w-eq-LONE_BREAK.false r.stands c.requires.0.counts.short c.if-n-eq0.false c.if-w-ne-AFTER_CR_LF.false c.if-w-eq-LINE_FAULT.true; value = (end_is_faulty c.args.w c.args.buffer.now c.if-w-eq-TOO_LONG.false c.if-n-eq0.false c.if-w-eq-LONE_BREAK.false c.if-w-eq-AFTER_CR.false c.if-w-ne-AFTER_CR_LF.false c.if-w-eq-LINE_FAULT.true) }

pub last_line-last-requires : goal.last_line-last-requires
last_line-last-requires c =
    let p = c.requires in
    (p.0, p.1, omega (arith, p.0.counts.line c.if-w-eq-LINE_FAULT.false, c.if-w-ne-AFTER_CR_LF.false))

pub returns : goal.returns
returns c =
    let a = c.args in
    let p = c.requires in
    let j = c.last_line-last.ensures in record {
      by_index = λ i r.
          let l = lives a.w a.buffer.now i [] c.if-w-eq-TOO_LONG.false c.if-w-eq-LONE_BREAK.false c.if-w-eq-LINE_FAULT.false r.stands in
          let pos : 0 < length i = omega (arith, counted a.w a.buffer.now i c.if-w-eq-TOO_LONG.false r.stands, c.if-n-eq0.false) in
          c.conclude.ensures j.0
          ∙ end_live a.w a.buffer.now i c.if-w-eq-TOO_LONG.false c.if-w-eq-LONE_BREAK.false r.stands p.0.counts.short c.if-n-eq0.false c.if-w-ne-AFTER_CR_LF.false l (r.holds pos) (step_of j.0 c.last_line-last.result) j.1;
      value = (c.conclude.ensures j.0 ∙ ap (verdict_of _) j.1 ∙ end_is_judged a.w a.buffer.now c.if-w-eq-TOO_LONG.false c.if-n-eq0.false c.if-w-eq-LONE_BREAK.false c.if-w-eq-AFTER_CR.false c.if-w-ne-AFTER_CR_LF.false c.if-w-eq-LINE_FAULT.false);
    }

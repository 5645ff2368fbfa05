-- `card_judge::judge::enter` meets its contract. Assumes nothing.
use borrow.Author.Tests.{eq-eqb, ne_eqb}
use mathlib.Core.List.{[]}
use native.Mathlib.Omega.{arith}
use Rattle.card_state.specs.Kept.{step_of, Holds, gone_on}
use Rattle.card_state.proofs.KeptLaws.{holds_more}
use Rattle.card_judge.proofs.SettleLaws.{end_keeps, gone_keeps}
use Rattle.card_judge.proofs.judge.enter.Goals as goal

pub returns-then-row-eq-END : goal.returns-then-row-eq-END
returns-then-row-eq-END c =
    record {
      by_index = λ store. simp (eq-eqb _ _ c.if-row-eq-END.true) (c.close.ensures.by_index store);
      holds = ((
        holds_more c.close.result 0 c.args.c.used (omega arith) c.close.ensures.holds,
        end_keeps c.args.c c.args.at _ c.close.result (c.close.ensures.by_index []) c.close.ensures.holds,
      ));
    }

pub returns : goal.returns
unfolding step_of Holds gone_on
returns c = record { by_index = λ store. simp (ne_eqb _ _ c.if-row-eq-END.false, c.note.ensures, c.is_group-group.ensures); holds = (rw c.note.ensures ((c.requires.lies, omega arith), gone_keeps c.args.c _ _)) }

-- `card_state::close` meets its contract. Assumes nothing.
use borrow.Author.Tests.{not-true, not-false}
use mathlib.Core.Path.{◌≡◌}
use native.Mathlib.Omega.{arith}
use mathlib.Core.Bool.{not, false, ◌&&◌, and-false}
use Rattle.card_state.specs.State.{closed}
use Rattle.card_state.specs.Kept.{places_of, end_of, tag_at, Inside, card_of, step_of, Holds}
use Rattle.card_state.proofs.KeptLaws.{none_lie}
use Rattle.card_state.proofs.close.Goals as goal
use Rattle.card_state.proofs.close.Goals.{else-c-via-then-c+else-not-c-2, else-c-via-else-c}

pub returns-then-not-c : goal.returns-then-not-c
unfolding closed card_of step_of Holds
returns-then-not-c c = record { by_index = λ store. simp (not-true c.args.c.has_fn c.if-not-c.true); holds = tt }

pub returns-then-not-c-2 : goal.returns-then-not-c-2
unfolding closed card_of step_of Holds
returns-then-not-c-2 c =
    let k = c.args.c in
    record { by_index = λ store. simp (not-false k.has_fn c.if-not-c.false, c.if-c.true, not-true k.is_group c.if-not-c-2.true); holds = tt }

pub returns : goal.returns
unfolding closed card_of step_of places_of tag_at Holds Inside end_of
returns c =
    let k = c.args.c in
    let kept : (k.has_member && not k.is_group) ≡ false =
    elim c.else-c.branch [
      | else-c-via-then-c+else-not-c-2 w ↦ simp (not-false k.is_group w.if-not-c-2.false, and-false)
      | else-c-via-else-c w ↦ simp w.if-c.false
    ] in
    record {
      by_index = λ store.
          simp (
            not-false c.args.c.has_fn c.if-not-c.false,
            kept,
            c.fresh-next.ensures,
          );
      holds = rw c.fresh-next.ensures (none_lie, omega arith);
    }

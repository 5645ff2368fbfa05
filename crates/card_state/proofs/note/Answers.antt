-- `card_state::note` meets its contract. Assumes nothing.
use mathlib.Core.Path.{◌≡◌}
use mathlib.Core.Bool.{◌||◌}
use lib.Dec.{eqb}
use Rattle.card_state.specs.State.{once_flag}
use Rattle.card_state.specs.Kept.{gone_on}
use Rattle.card_state.proofs.note.Goals as goal
use Rattle.card_state.proofs.note.Goals.{then-c, else-c, then-c-2, else-c-2}

pub returns-then-c-3 : goal.returns-then-c-3
unfolding gone_on once_flag
returns-then-c-3 c =
    let a = c.args in
    let named : c.if-c.result ≡ (a.c.has_fn || eqb a.row 6) = elim c.if-c.branch [ then-c w ↦ simp (w.result-is, w.if-c.true) | else-c w ↦ simp (w.result-is, w.if-c.false) ] in
    let member : c.if-c-2.result ≡ (a.c.has_member || eqb a.row 24) = elim c.if-c-2.branch [ then-c-2 w ↦ simp (w.result-is, w.if-c-2.true) | else-c-2 w ↦ simp (w.result-is, w.if-c-2.false) ] in
    simp (c.phase_after.ensures, c.flag_of.ensures, c.requires.once_value.0, named, member, c.if-c-3.true)

pub returns-else-c-3 : goal.returns-else-c-3
unfolding gone_on once_flag
returns-else-c-3 c =
    let a = c.args in
    let named : c.if-c.result ≡ (a.c.has_fn || eqb a.row 6) = elim c.if-c.branch [ then-c w ↦ simp (w.result-is, w.if-c.true) | else-c w ↦ simp (w.result-is, w.if-c.false) ] in
    let member : c.if-c-2.result ≡ (a.c.has_member || eqb a.row 24) = elim c.if-c-2.branch [ then-c-2 w ↦ simp (w.result-is, w.if-c-2.true) | else-c-2 w ↦ simp (w.result-is, w.if-c-2.false) ] in
    simp (c.phase_after.ensures, c.flag_of.ensures, c.requires.once_value.0, named, member, c.if-c-3.false, c.says_group-grouped.ensures)

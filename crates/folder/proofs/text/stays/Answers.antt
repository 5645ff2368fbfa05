-- `crate::text::stays` meets its contract. Assumes nothing.
use mathlib.Core.Path.{sym, ◌∙◌}
use mathlib.Core.List.{[], ◌∷◌}
use Prim.Native.Nat.{ℕ, ◌+◌, ◌≤◌}
use native.Mathlib.Omega.{arith}
use lib.ListN.{length, length-take, length-drop}
use Rattle.folder_line.proofs.FullLaws.{starts_at}
use Rattle.folder.proofs.RunLaws.{only_true, with_end, styled_stands}
use Rattle.folder.proofs.text.stays.Goals.{then-starts_with, else-starts_with}
use Rattle.folder.proofs.text.stays.Goals as goal

pub returns-then-stands : goal.returns-then-stands
returns-then-stands c =
    let a = c.args in
    elim c.if-starts_with.branch [
      | then-starts_with w ↦
          let found = w.if-starts_with.true in
          let room : a.end + 2 ≤ length a.s.now = omega (arith, c.starts_with.ensures.bound found, length-take {A = ℕ}, length-drop {A = ℕ}) in
          let mark = starts_at (13 ∷ 10 ∷ []) a.s.now a.end _ c.starts_with.ensures.value found in
          let k = w.stands.ensures (sym w.value-is ∙ c.if-stands.true) in
          λ e. (room, styled_stands a.style _ _ k (c.keeps_names.ensures e) ∙ with_end a.s.now a.at a.end c.requires.at_le_end.0 mark)
      | else-starts_with w ↦ only_true (sym w.if-starts_with.false ∙ sym w.value-is ∙ c.if-stands.true)
    ]

-- An answer added to the output, beside the report. Assumes nothing.
use mathlib.Core.Path.{◌≡◌, refl, ap, ◌∙◌}
use mathlib.Core.List.{List, ◌∷◌}
use Prim.Native.Nat.{ℕ, zero, suc, ◌-◌, ◌≤◌}
use native.Mathlib.Omega.{arith}
use lib.ListN.{take, replicate}
use Rattle.octets.specs.Room.{fill}
use Rattle.report.specs.Text.{report_text}
use Rattle.console_entries.specs.Rooms.{octet_fill, octet_room}
use Rattle.console_entries.specs.Entries.{write_text}
use Rattle.console_entries.proofs.RoomLaws.{less_none}
use Rattle.program_output.specs.Pages.{Page, page, added}
use Rattle.report.specs.declared.Report.{Report}
use Rattle.console_desk.specs.declared.Console.{Console}
use Rattle.console_desk.specs.DeskAnswers.{State, state, state_of, moved, says}
use Rattle.console_report.specs.ReportAnswers.{kept}

pub kept_says : (c : Console) (out text : List ℕ) {after : List ℕ} {r : Console} {at : ℕ} {x y : Report} → r ≡ moved c at
    → page at after ≡ added text (page c.at out) → x ≡ y → kept (state_of r after) x ≡ kept (says text (state_of c out)) y
kept_says c out text {after} {r} {at} {x} {y} e f g =
    ap (λ (d : Console). kept (state_of d after) x) e
    ∙ ap (λ (o : Page). kept (state c.desk c.size o) x) f
    ∙ ap (λ (z : Report). kept (says text (state_of c out)) z) g

-- a state, and the report as it was
pub kept_with : {s t : State} (r : Report) → s ≡ t → kept s r ≡ kept t r
kept_with r e = ap (λ (x : State). kept x r) e

-- the first r of n octets that are alike
take_like : (r n v : ℕ) → r ≤ n → take r (replicate n v) ≡ replicate r v
take_like zero n v h = refl
take_like (suc r) zero v h = absurd (omega arith)
take_like (suc r) (suc n) v h = ap (λ (l : List ℕ). v ∷ l) (take_like r n v (omega arith))

-- what is answered with the first octets of a larger room
pub print_part : (x : Report) (n r : ℕ) (p : Page) {q : Page} → r ≤ n
    → q ≡ added (write_text (fill (report_text x) (take (r - 0) (replicate n octet_fill)))) p → q ≡ added (write_text (fill (report_text x) (octet_room r))) p
print_part x n r p h e =
    let part : take (r - 0) (replicate n octet_fill) ≡ replicate r octet_fill = ap (λ (m : ℕ). take m (replicate n octet_fill)) (less_none r) ∙ take_like r n octet_fill h in
    rw part at e

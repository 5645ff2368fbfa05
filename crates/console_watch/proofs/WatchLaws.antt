-- An answer added to the output beside all else that is kept, and the part of the buffer that is lent. Assumes nothing.
use mathlib.Core.Path.{◌≡◌, ap, ◌∙◌}
use mathlib.Core.List.{List}
use Prim.Native.Nat.{ℕ, ◌-◌}
use lib.ListN.{take}
use Rattle.program_output.specs.Pages.{Page, page, added}
use Rattle.console_desk.specs.DeskAnswers.{state}
use Rattle.console_report.specs.ReportAnswers.{kept, kept_of}
use Rattle.console_entries.proofs.RoomLaws.{less_none}
use Rattle.console_watch.specs.WatchAnswers.{watching, watching_of, shown_at, adds, says_all, lent_length}
use Rattle.console_watch.specs.declared.Session.{Session}

module _ (s : Session) (out text : List ℕ) {after : List ℕ} {r : Session} {at : ℕ} (e : r ≡ shown_at at s) (f : page at after ≡ added text (page s.kept.console.at out)) where
  pub says_kept : kept_of r.kept after ≡ adds text (kept_of s.kept out)
  says_kept =
      ap (λ (z : Session). kept_of z.kept after) e
      ∙ ap (λ (o : Page). kept (state s.kept.console.desk s.kept.console.size o) s.kept.report) f

  pub says_all_lem : watching_of r after ≡ says_all text (watching_of s out)
  says_all_lem =
      ap (λ (z : Session). watching_of z after) e
      ∙ ap (λ (o : Page). watching (kept (state s.kept.console.desk s.kept.console.size o) s.kept.report) s.watch s.size) f

-- the first octets of a buffer, as a slice has them
pub lent_part : (size n : ℕ) (b : List ℕ) → n ≡ lent_length size b → take (n - 0) b ≡ take (lent_length size b) b
lent_part size n b e = ap (λ (m : ℕ). take m b) (less_none n ∙ e)

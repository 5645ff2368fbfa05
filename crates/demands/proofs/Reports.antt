-- What taking a judgement and printing a report refuse. Assumes nothing.
use Prim.Native.Nat.{ℕ, ◌<◌}
use mathlib.Core.Path.{◌≡◌, refl, sym, ◌∙◌}
use mathlib.Core.List.{List}
use lib.ListN.{length}
use Rattle.octets.specs.Room.{fill}
use Rattle.octets.proofs.RoomLaws.{fill_short}
use Rattle.octets.specs.Room.{Refused as Unwritten}
use Rattle.report.specs.Steps.{take_step}
use Rattle.report.specs.Text.{report_text}
use Rattle.report.specs.declared.Report.{Report}
use Rattle.report.specs.Answer.{Refused}
use Rattle.report.specs.Answer.{Taken}
use Rattle.report_laws.proofs.Totals.{only_full, to_count, take_refused}
use Rattle.demands.specs.Demand1.{TakeBy, passes, PrintBy, print_room}
use Rattle.demands.proofs.Refusing.{ByCase, FillingByCase}
use Rattle.demands.proofs.Texts.{fill_told}

pub take_exactly : (r : Report) (i : List ℕ) → ByCase (λ (t : Taken). t.answer) (take_step r i) (λ n p. record { answer = Refused n p; report = r }) (TakeBy r i)
take_exactly r i = record { only = only; unchanged = unchanged }
  where
    only : (n p : ℕ) → (take_step r i).answer ≡ Refused n p → TakeBy r i n p
    only n p e =
        let f = only_full r i n p e in
        let d = to_count r i (e ∙ rw (f.0, f.1)) in
        rw (f.0, f.1) (passes d.0 d.1 d.2)

    unchanged : (n p : ℕ) → TakeBy r i n p → take_step r i ≡ record { answer = Refused n p; report = r }
    unchanged n p (passes c low h) = take_refused r i c low h

pub print_exactly : (r : Report) (out : List ℕ) → FillingByCase (fill (report_text r) out) out (PrintBy r out)
print_exactly r out = record { only = only; unchanged = unchanged }
  where
    only : (n p : ℕ) → (fill (report_text r) out).answer ≡ Unwritten n p → PrintBy r out n p
    only n p e = fill_told (PrintBy r out) (report_text r) out n p e (λ h. print_room h)

    short : (xs : List ℕ) → length out < length xs → fill xs out ≡ record { answer = Unwritten 15 (length xs); room = out }
    short xs h = sym (fill_short xs out (length xs) refl h)

    unchanged : (n p : ℕ) → PrintBy r out n p → fill (report_text r) out ≡ record { answer = Unwritten n p; room = out }
    unchanged n p (print_room h) = short (report_text r) h

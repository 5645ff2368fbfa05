-- `console_watch::answer_lent` meets its contract. Assumes nothing.
use mathlib.Core.Path.{◌≡◌, refl, ap, ◌∙◌}
use mathlib.Core.Bool.{Bool}
use mathlib.Core.List.{List}
use Prim.Native.Nat.{ℕ, ◌-◌}
use lib.ListN.{length, take, drop, replicate}
use lib.Seq.{take_at}
use Rattle.octets.specs.Room.{overlay}
use Rattle.program_numbers.specs.Alike.{alike}
use Rattle.program_numbers.proofs.ListLaws.{told}
use Rattle.watch.specs.declared.Watch.{Watch}
use Rattle.console_report.specs.ReportAnswers.{KeptState, kept_of}
use Rattle.console_entries.proofs.RoomLaws.{less_none}
use Rattle.console_watch.specs.WatchAnswers.{watching, adds, arrived_text}
use Rattle.console_watch.proofs.WatchLaws.{says_kept}
use Rattle.console_watch.proofs.answer_lent.Goals as goal

pub shape_of-lent : goal.shape_of-lent
shape_of-lent c = c.chunk-a.ensures.size

pub returns : goal.returns
returns c =
    let a = c.args in
    let b = a.lent.now in
    let left = c.chunk-a.new.buffer in
    let r = c.chunk-a.result in
    let o = a.out.now in
    let k = kept_of a.s.kept o in
    let n = length b in
    let copy : take (n - 0) c.copy_in.new.dst ≡ b =
    ap (λ (l : List ℕ). take (n - 0) l) c.copy_in.ensures ∙ ap (λ (m : ℕ). take m (overlay b (replicate 20000 0))) (less_none n) ∙ take_at b (drop n (replicate 20000 0)) n refl in
    record {
      arrived = r;
      chunk = c.chunk-a.ensures;
      says =
          ap (λ (x : KeptState). watching x c.next_of.result a.s.size) (says_kept a.s o (arrived_text r c.same-kept.result) c.with_output-next.ensures (rw (← c.at.ensures) c.put_arrived-at.ensures))
          ∙ ap (λ (t : Bool). watching (adds (arrived_text r t) k) c.next_of.result a.s.size) (told c.same-kept.result (take (n - 0) c.copy_in.new.dst) left c.same-kept.ensures ∙ ap (λ (l : List ℕ). alike l left) copy)
          ∙ ap (λ (w : Watch). watching (adds (arrived_text r (alike b left)) k) w a.s.size) c.next_of.ensures;
    }

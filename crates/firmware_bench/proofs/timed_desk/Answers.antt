-- `firmware_bench::timed_desk` meets its contract. Assumes nothing.
use mathlib.Core.Path.{◌≡◌, refl, ap, ◌∙◌}
use mathlib.Core.List.{List}
use Prim.Native.Nat.{ℕ}
use Rattle.std.specs.Prelude.{Result, Ok, Err}
use Rattle.numbers.specs.declared.refusal.Refusal.{Refusal}
use Rattle.octets.specs.Room.{written}
use Rattle.desk.specs.Answer.{answer}
use Rattle.desk.specs.Steps.{Turned, turned, new_step}
use Rattle.desk.specs.declared.Turn.{Turn}
use Rattle.firmware_bench.specs.Answers.{written_number, answer_number}
use Rattle.firmware_bench.specs.Calls.{run, served}
use Rattle.firmware_bench.proofs.timed_desk.Goals as goal

-- a fresh desk, the openings, the additions, and the calls after them
by_turns : (p q : List ℕ) (opens adds kind n : ℕ) {fresh : Turn} {opened ready done : Turned} → fresh ≡ new_step 40 → opened ≡ run q 0 opens 1 opens (turned fresh p)
    → ready ≡ run q 1 opens 1 adds opened → done ≡ run q kind opens 1 n ready → done ≡ served p q opens adds kind n
unfolding served
by_turns p q opens adds kind n e f g h =
    h ∙ ap (run q kind opens 1 n) (g ∙ ap (run q 1 opens 1 adds) (f ∙ ap (λ (t : Turn). run q 0 opens 1 opens (turned t p)) e))

-- what a desk answers is packed as what a writer answers
alike : (r : Result ℕ Refusal) → written_number (written r) ≡ answer_number (answer r)
alike (Ok n) = refl
alike (Err r) = refl

pub returns : goal.returns
returns c =
    let e = by_turns _ _ _ _ _ _ c.new-fresh.ensures c.run-opened.ensures c.run-ready.ensures c.run-done.ensures in
    record {
      value = c.pack_count.ensures ∙ alike c.run-done.result.answer ∙ ap (λ (s : Turned). answer_number s.answer) e;
      pool_after = ap (λ (s : Turned). s.pool) e;
    }

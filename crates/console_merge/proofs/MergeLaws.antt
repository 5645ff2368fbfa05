-- The words of the planner's and the checker's answers, and what they are called with. Assumes nothing.
use mathlib.Core.Path.{◌≡◌, refl, ap, ◌∙◌}
use mathlib.Core.Bool.{Bool}
use mathlib.Core.List.{List, [], ◌∷◌, ◌++◌}
use Prim.Native.Nat.{ℕ, ◌+◌, ◌-◌, ◌/◌, ◌≤◌, min}
use native.Mathlib.Omega.{arith}
use lib.ListN.{length, take, drop, replicate, length-append, length-replicate, replicate-append-replicate}
use lib.Seq.{take_at}
use Rattle.octets.specs.Ascii.{octets}
use Rattle.octets.specs.Room.{overlay}
use Rattle.octets.specs.Slices.{part}
use Rattle.program_output.specs.Pages.{Page, added}
use Rattle.merge_sources.specs.declared.Source.{Source}
use Rattle.merge.specs.Outcome.{plan_outcome, check_outcome}
use Rattle.merge.specs.Paired.{Paired}
use Rattle.console_answers.specs.Texts.{joined, room_end}
use Rattle.console_entries.specs.Rooms.{number_fill, number_room, all}
use Rattle.console_entries.proofs.RoomLaws.{less_none, part_whole}
use Rattle.console_parts.specs.Parts.{part_of, sources_up_to}
use Rattle.console_merge.specs.MergeAnswers.{paired_text, numbers_word, written_word, numbers_in, planned_by, planned_text, plan_of, check_with}

pub word_none : (s : List ℕ) → length s ≡ 0 → numbers_word s ≡ 45 ∷ []
unfolding numbers_word octets
word_none [] h = refl
word_none (x ∷ xs) h = absurd (omega arith)

pub word_some : (s : List ℕ) → (length s ≡ 0 → ⊥) → numbers_word s ≡ joined s
unfolding numbers_word
word_some [] h = absurd (h refl)
word_some (x ∷ xs) h = refl

-- the planner's text, by what was measured
module _ (a : Paired) (room taken : List ℕ) (n : ℕ) (b : Bool) where
  pub planned_text_lem : n ≡ numbers_in a (length room) → taken ≡ part room 0 n → b ≡ all number_fill (drop n room)
      → paired_text a ++ (written_word a taken ++ room_end b) ≡ planned_by a room (numbers_in a (length room))
  planned_text_lem en et eb = rw (eb, et, en)

-- what both are called with, part by part
module _ (s i j m n : List ℕ) (x y : List Source) (ei : i ≡ part_of s 0) (ej : j ≡ part_of s 1) (em : m ≡ part_of s 2) (en : n ≡ part_of s 3) (ex : x ≡ sources_up_to m 17) (ey : y ≡ sources_up_to n 17) where
  pub plan_of_lem : (room : List ℕ) → plan_outcome i j (take (min (length m / 12) 17) x) (take (min (length n / 12) 17) y) room ≡ plan_of s room
  unfolding plan_of
  plan_of_lem room = rw (ex, ey, ei, ej, em, en)

  pub check_with_lem : (plan : List ℕ) → check_outcome i j (take (min (length m / 12) 17) x) (take (min (length n / 12) 17) y) plan ≡ check_with s plan
  unfolding check_with
  check_with_lem plan = rw (ex, ey, ei, ej, em, en)

-- the first of some equal numbers
like : (r k v : ℕ) → take r (replicate (r + k) v) ≡ replicate r v
like r k v = rw (← replicate-append-replicate {A = ℕ} r k v) (take_at (replicate r v) (replicate k v) r (length-replicate {A = ℕ} r v))

-- what is answered with the first numbers of a larger room
pub plan_part : (s : List ℕ) (n r : ℕ) (p : Page) {q : Page} → r ≤ n
    → q ≡ added (planned_text (plan_of s (take (r - 0) (replicate n number_fill)))) p → q ≡ added (planned_text (plan_of s (number_room r))) p
plan_part s n r p h e =
    let k : r + (n - r) ≡ n = omega arith in
    let room : take (r - 0) (replicate n number_fill) ≡ number_room r = rw (less_none r, ← k) (like r (n - r) number_fill) in
    rw room at e

-- numbers that stand at the front of room
pub front : (xs room : List ℕ) (n : ℕ) → length xs ≡ n → part (overlay xs room) 0 n ≡ xs
front xs room n h =
    part_whole (overlay xs room) 0 n (omega arith) (rw (length-append xs (drop (length xs) room)) (omega arith))
    ∙ ap (λ (m : ℕ). take m (xs ++ drop (length xs) room)) (less_none n) ∙ take_at xs (drop (length xs) room) n h

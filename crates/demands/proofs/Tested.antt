-- A test of each example that can be computed, and the law that what it passes holds. Assumes nothing.
use Prim.Native.Nat.{ℕ, ◌*◌}
use mathlib.Core.Path.{◌≡◌, refl, ap, ◌∙◌}
use mathlib.Core.Bool.{Bool, true, false, ◌&&◌}
use mathlib.Core.List.{List, [], ◌∷◌, map}
use native.Mathlib.Omega.{arith}
use lib.Dec.{eqb, leb}
use lib.ListN.{replicate, length-replicate}
use borrow.Author.Tests.{eqb-true, leb-true}
use Rattle.line_parser.specs.Grammar.{Each}
use Rattle.octets.specs.Room.{Filled, fill}
use Rattle.report.specs.Steps.{fresh_report}
use Rattle.report.specs.Text.{report_text}
use Rattle.report_laws.specs.Totals.{after}
use Rattle.text.specs.Outcomes.{unescape_outcome}
use Rattle.reader.specs.Outcome.{Taken, read_in}
use Rattle.folder.specs.Outcome.{fold_in}
use Rattle.desk_slots.specs.Sound.{state_at, bounds}
use Rattle.desk.specs.Steps.{new_step}
use Rattle.desk_entries.specs.declared.Session.{Session}
use Rattle.desk_entries.specs.declared.State.{State}
use Rattle.desk_entries.specs.declared.State.TheVariants.{Free, Open}
use Rattle.desk_ledger.specs.Answers.{Reply, refused, told, counts, part, verdict, wrote}
use Rattle.desk_ledger.specs.Ticks.{Ticked}
use Rattle.desk_ledger.specs.Desks.{Proper, world, ledger_answers}
use Rattle.desk_laws.proofs.Demand.{demand3}
use Rattle.desk_laws.proofs.PoolNoninterference.{same_desk}
use Rattle.demands.specs.Examples.{Example, reads, folds, unescapes, reports, turns, Turns, Fills, Reads, Holds}

-- ---- the tests

unfoldable pub same_numbers : List ℕ → List ℕ → Bool
same_numbers [] [] = true
same_numbers [] (y ∷ ys) = false
same_numbers (x ∷ xs) [] = false
same_numbers (x ∷ xs) (y ∷ ys) = eqb x y && same_numbers xs ys

abbrev same_reply : Reply → Reply → Bool
same_reply (refused k p) (refused l q) = eqb k l && eqb p q
same_reply (refused k p) (told m) = false
same_reply (refused k p) (counts l m) = false
same_reply (refused k p) (part v) = false
same_reply (told n) (refused l q) = false
same_reply (told n) (told m) = eqb n m
same_reply (told n) (counts l m) = false
same_reply (told n) (part v) = false
same_reply (counts k n) (refused l q) = false
same_reply (counts k n) (told m) = false
same_reply (counts k n) (counts l m) = eqb k l && eqb n m
same_reply (counts k n) (part v) = false
same_reply (part o) (refused l q) = false
same_reply (part o) (told m) = false
same_reply (part o) (counts l m) = false
same_reply (part o) (part v) = same_numbers o v

abbrev same_taken : Taken → Reply → List ℕ → List ℕ → Bool
same_taken t a copy records = same_reply (verdict t.answer) a && (same_numbers t.copy copy && same_numbers t.records records)

abbrev same_filled : Filled → Reply → List ℕ → Bool
same_filled f a room = same_reply (wrote f.answer) a && same_numbers f.room room

unfoldable pub same_answers : List Reply → List ℕ → Bool
same_answers [] [] = true
same_answers [] (n ∷ ns) = false
same_answers (r ∷ rs) [] = false
same_answers (r ∷ rs) (n ∷ ns) = same_reply r (told n) && same_answers rs ns

abbrev same_session : State → Session → Bool
same_session Free s = false
same_session (Open r) s = eqb r.ticket s.ticket && (eqb r.tram s.tram && eqb r.held s.held)

-- a pool for n slots that holds zeros
abbrev zeros : ℕ → List ℕ
zeros n = replicate (n * 16384) 0

-- the ledger answers so, and on a pool of zeros the slot is so
abbrev same_turns : ℕ → List Ticked → List ℕ → ℕ → Session → Bool
same_turns n cs ns i s =
    (leb 1 n && leb n 40) && (same_answers (ledger_answers n cs) ns && same_session (state_at (world n (zeros n) cs).desk.entries i) s)

abbrev holds : Example → Bool
holds (reads e i c r a c' r') = same_taken (read_in e i c r) a c' r'
holds (folds e s i o a o') = same_filled (fold_in e s i o) a o'
holds (unescapes t o a o') = same_filled (unescape_outcome t o) a o'
holds (reports is o a o') = same_filled (fill (report_text (after fresh_report is)) o) a o'
holds (turns n cs ns i s) = same_turns n cs ns i s

unfoldable pub all_hold : List Example → Bool
all_hold [] = true
all_hold (c ∷ cs) = holds c && all_hold cs

-- ---- what passes holds

both : (a b : Bool) → a && b ≡ true → (a ≡ true) × (b ≡ true)
both true b e = (refl, e)
both false b e = let z : ◌≡◌ {A = ℕ} 0 1 = cc in absurd (omega arith)

no : {A : Type 0} → false ≡ true → A
no e = let z : ◌≡◌ {A = ℕ} 0 1 = cc in absurd (omega arith)

same_numbers_lem : (xs ys : List ℕ) → same_numbers xs ys ≡ true → xs ≡ ys
unfolding same_numbers
same_numbers_lem [] [] e = refl
same_numbers_lem [] (y ∷ ys) e = no e
same_numbers_lem (x ∷ xs) [] e = no e
same_numbers_lem (x ∷ xs) (y ∷ ys) e =
    let b = both (eqb x y) (same_numbers xs ys) e in
    rw (eqb-true x y b.0, same_numbers_lem xs ys b.1)

same_pair : (k n l m : ℕ) → eqb k l && eqb n m ≡ true → (k ≡ l) × (n ≡ m)
same_pair k n l m e = let b = both (eqb k l) (eqb n m) e in (eqb-true k l b.0, eqb-true n m b.1)

same_reply_lem : (r s : Reply) → same_reply r s ≡ true → r ≡ s
same_reply_lem (refused k p) (refused l q) e = let b = same_pair k p l q e in rw (b.0, b.1)
same_reply_lem (refused k p) (told m) e = no e
same_reply_lem (refused k p) (counts l m) e = no e
same_reply_lem (refused k p) (part v) e = no e
same_reply_lem (told n) (refused l q) e = no e
same_reply_lem (told n) (told m) e = rw (eqb-true n m e)
same_reply_lem (told n) (counts l m) e = no e
same_reply_lem (told n) (part v) e = no e
same_reply_lem (counts k n) (refused l q) e = no e
same_reply_lem (counts k n) (told m) e = no e
same_reply_lem (counts k n) (counts l m) e = let b = same_pair k n l m e in rw (b.0, b.1)
same_reply_lem (counts k n) (part v) e = no e
same_reply_lem (part o) (refused l q) e = no e
same_reply_lem (part o) (told m) e = no e
same_reply_lem (part o) (counts l m) e = no e
same_reply_lem (part o) (part v) e = ap part (same_numbers_lem o v e)

same_taken_lem : (t : Taken) (a : Reply) (c r : List ℕ) → same_taken t a c r ≡ true → Reads t a c r
same_taken_lem t a c r e =
    let b = both (same_reply (verdict t.answer) a) _ e in
    let d = both (same_numbers t.copy c) (same_numbers t.records r) b.1 in
    record {
      answer = same_reply_lem (verdict t.answer) a b.0;
      copy = same_numbers_lem t.copy c d.0;
      records = same_numbers_lem t.records r d.1;
    }

same_filled_lem : (f : Filled) (a : Reply) (room : List ℕ) → same_filled f a room ≡ true → Fills f a room
same_filled_lem f a room e =
    let b = both (same_reply (wrote f.answer) a) _ e in
    record { answer = same_reply_lem (wrote f.answer) a b.0; room = same_numbers_lem f.room room b.1 }

same_answers_lem : (rs : List Reply) (ns : List ℕ) → same_answers rs ns ≡ true → rs ≡ map told ns
unfolding same_answers
same_answers_lem [] [] e = refl
same_answers_lem [] (n ∷ ns) e = no e
same_answers_lem (r ∷ rs) [] e = no e
same_answers_lem (r ∷ rs) (n ∷ ns) e =
    let b = both (same_reply r (told n)) (same_answers rs ns) e in
    rw (same_reply_lem r (told n) b.0, same_answers_lem rs ns b.1)

same_session_lem : (a : State) (s : Session) → same_session a s ≡ true → a ≡ Open s
same_session_lem Free s e = no e
same_session_lem (Open r) s e =
    let b = both (eqb r.ticket s.ticket) _ e in
    let c = same_pair r.tram r.held s.tram s.held b.1 in
    let o : Open (record { ticket = r.ticket; tram = r.tram; held = r.held }) ≡ Open (record { ticket = s.ticket; tram = s.tram; held = s.held }) =
    rw (eqb-true r.ticket s.ticket b.0, c.0, c.1) in
    o

same_turns_lem : (n : ℕ) (cs : List Ticked) (ns : List ℕ) (i : ℕ) (s : Session) → same_turns n cs ns i s ≡ true → Turns n cs ns i s
unfolding new_step bounds
same_turns_lem n cs ns i s e =
    let a = both (leb 1 n && leb n 40) _ e in
    let r = both (leb 1 n) (leb n 40) a.0 in
    let b = both (same_answers (ledger_answers n cs) ns) _ a.1 in
    let z : Proper n (zeros n) = record { some = leb-true 1 n r.0; most = leb-true n 40 r.1; sized = length-replicate (n * 16384) 0 } in
    record {
      granted = rw (r.0, r.1);
      answered = λ p f. demand3.answered n p f cs ∙ same_answers_lem (ledger_answers n cs) ns b.0;
      slot = λ p f. rw (same_desk n p (zeros n) f z cs) (same_session_lem _ s b.1);
    }

pub tested : (cs : List Example) → all_hold cs ≡ true → Each Holds cs
unfolding all_hold Each
tested [] e = tt
tested (c ∷ cs) e = let b = both (holds c) (all_hold cs) e in (one c b.0, tested cs b.1)
  where
    one : (c : Example) → holds c ≡ true → Holds c
    one (reads d i c r a c' r') e = same_taken_lem (read_in d i c r) a c' r' e
    one (folds d s i o a o') e = same_filled_lem (fold_in d s i o) a o' e
    one (unescapes t o a o') e = same_filled_lem (unescape_outcome t o) a o' e
    one (reports is o a o') e = same_filled_lem (fill (report_text (after fresh_report is)) o) a o' e
    one (turns n cs ns i s) e = same_turns_lem n cs ns i s e

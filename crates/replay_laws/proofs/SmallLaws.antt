-- Each number that the ledger answers has 32 bits. Assumes nothing.
use Prim.Native.Nat.{ℕ, ◌+◌, ◌≤◌}
use mathlib.Core.Path.{◌≡◌, refl, sym, subst}
use mathlib.Core.Bool.{Bool, true, false}
use mathlib.Core.List.{List, [], ◌∷◌, ◌++◌}
use native.Mathlib.Omega.{arith}
use lib.Dec.{ltb, eqb}
use lib.ListN.{length, length-append}
use borrow.Author.Tests.{ltb-false, eqb-false}
use Rattle.octets.specs.Pick.{pick}
use Rattle.desk_ledger.specs.Ledger.{Deed, adds, judges, shows, asks, releases, Call, opens, on, Reply, refused, told, Found, absent, present, answer, leaves, Row, Ledger, lookup, renew, change, Out, opening, ledger_step}
use Rattle.desk_ledger.specs.Ticks.{Ticked, plain, Clocked, Whose, nobody, of, taken, freed, clocked_step, fresh_clocked, run_ticked}
use Rattle.desk_ledger.specs.Desks.{ledger_answers}
use Rattle.desk_laws.proofs.Reclaims.{step_reply, step_ledger}
use Rattle.replay_laws.specs.Tells.{Small, AllSmall}
use Rattle.replay_laws.proofs.VerdictLaws.{verdict_small}

-- octets that fit a slot
abbrev Fits : Found → Type 0
Fits absent = Unit {0}
Fits (present o) = length o ≤ 16384

abbrev AllFit : List Row → Type 0
AllFit [] = Unit {0}
AllFit (r ∷ rs) = (length r.octets ≤ 16384) × AllFit rs

look_fits : (rs : List Row) (t : ℕ) → AllFit rs → Fits (lookup rs t)
unfolding lookup
look_fits [] t h = tt
look_fits (r ∷ rs) t h = go (look_fits rs t h.1) (eqb r.ticket t)
  where
    go : Fits (lookup rs t) → (b : Bool) → Fits (pick b (present r.octets) (lookup rs t))
    go k true = h.0
    go k false = k

renew_fits : (r : Row) (f : Found) (rs : List Row) → Fits f → AllFit rs → AllFit (renew r f rs)
renew_fits r absent rs h k = k
renew_fits r (present o) rs h k = (h, k)

change_fits : (rs : List Row) (t : ℕ) (f : Found) → Fits f → AllFit rs → AllFit (change rs t f)
unfolding change
change_fits [] t f h k = tt
change_fits (r ∷ rs) t f h k = go (change_fits rs t f h k.1) (eqb r.ticket t)
  where
    go : AllFit (change rs t f) → (b : Bool) → AllFit (pick b (renew r f rs) (r ∷ change rs t f))
    go m true = renew_fits r f rs h k.1
    go m false = (k.0, m)

leaves_fits : (f : Found) (x : Deed) → Fits f → Fits (leaves f x)
leaves_fits absent x h = tt
leaves_fits (present o) (adds q) h = go (ltb 16384 (length o + length q)) refl
  where
    go : (b : Bool) → ltb 16384 (length o + length q) ≡ b → length (pick b o (o ++ q)) ≤ 16384
    go true e = h
    go false e = rw (length-append o q) (ltb-false 16384 (length o + length q) e)
leaves_fits (present o) judges h = h
leaves_fits (present o) shows h = h
leaves_fits (present o) asks h = h
leaves_fits (present o) releases h = tt

answer_small : (f : Found) (x : Deed) → Fits f → Small (answer f x)
answer_small absent (adds q) h = (omega arith, omega arith)
answer_small absent judges h = (omega arith, omega arith)
answer_small absent shows h = omega arith
answer_small absent asks h = (omega arith, omega arith)
answer_small absent releases h = (omega arith, omega arith)
answer_small (present o) (adds q) h = go (ltb 16384 (length o + length q)) refl
  where
    go : (b : Bool) → ltb 16384 (length o + length q) ≡ b → Small (pick b (refused 23 (length o)) (told (length o + length q)))
    go true e = (omega arith, omega arith)
    go false e = omega (arith, ltb-false 16384 (length o + length q) e)
answer_small (present o) judges h = verdict_small o
answer_small (present o) shows h = omega arith
answer_small (present o) asks h = omega arith
answer_small (present o) releases h = omega arith

-- tickets are not past the last, and octets fit their slots
record Kept (l : Ledger) : Type 0 where
  next : l.next ≤ 4294967295
  rows : AllFit l.rows

record Keeps (x : Out Ledger) : Type 0 where
  small : Small x.reply
  kept : Kept x.then

open_keeps : (l : Ledger) → Kept l → Keeps (opening l)
open_keeps l h = go (eqb l.next 4294967295) refl (eqb (length l.rows) l.slots)
  where
    go : (a : Bool) → eqb l.next 4294967295 ≡ a → (b : Bool)
        → Keeps (pick a (record { reply = refused 21 0; then = l }) (pick b (record { reply = refused 20 0; then = l })
        (record { reply = told l.next; then = record { slots = l.slots; next = l.next + 1; rows = record { ticket = l.next; octets = [] } ∷ l.rows } })))
    go true e b = record { small = (omega arith, omega arith); kept = h }
    go false e true = record { small = (omega arith, omega arith); kept = h }
    go false e false =
        let n : l.next ≡ 4294967295 → ⊥ = eqb-false l.next 4294967295 e in
        let m = h.next in
        record { small = omega arith; kept = record { next = omega arith; rows = (omega arith, h.rows) } }

step_keeps : (l : Ledger) (c : Call) → Kept l → Keeps (ledger_step l c)
step_keeps l (opens m) h = open_keeps l h
step_keeps l (on t x) h =
    let f = look_fits l.rows t h.rows in
    record {
      small = answer_small (lookup l.rows t) x f;
      kept = record { next = h.next; rows = change_fits l.rows t (leaves (lookup l.rows t) x) (leaves_fits (lookup l.rows t) x f) h.rows };
    }

freed_keeps : (l : Ledger) (w : Whose) → Kept l → Kept (freed l w)
freed_keeps l nobody h = h
freed_keeps l (of t) h = (step_keeps l (on t releases) h).kept

ticked_keeps : (c : Clocked) (x : Ticked) → Kept c.ledger → Small (clocked_step c x).reply × Kept (clocked_step c x).then.ledger
ticked_keeps c x h =
    let k = step_keeps (freed c.ledger (taken c x)) (plain x) (freed_keeps c.ledger (taken c x) h) in
    (subst (λ (r : Reply). Small r) (sym (step_reply c x)) k.small, subst (λ (l : Ledger). Kept l) (sym (step_ledger c x)) k.kept)

run_small : (xs : List Ticked) (c : Clocked) → Kept c.ledger → AllSmall (run_ticked clocked_step c xs)
unfolding run_ticked AllSmall
run_small [] c h = tt
run_small (x ∷ xs) c h = let k = ticked_keeps c x h in (k.0, run_small xs (clocked_step c x).then k.1)

pub answers_small : (n : ℕ) (xs : List Ticked) → AllSmall (ledger_answers n xs)
answers_small n xs = run_small xs (fresh_clocked n) (record { next = omega arith; rows = tt })

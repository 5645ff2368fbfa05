-- A turn of an upload, by what the desk answered and by what was read. Assumes nothing.
use Prim.Native.Nat.{ℕ, zero, suc, ◌+◌, ◌-◌, ◌<◌, ◌≤◌}
use mathlib.Core.Path.{◌≡◌, refl, subst, ◌∙◌}
use mathlib.Core.Bool.{true, false}
use mathlib.Core.Logic.{◌⊎◌, inl, inr}
use mathlib.Core.List.{List}
use native.Mathlib.Omega.{arith}
use lib.Dec.{ltb}
use lib.IntN.{ℤ}
use lib.ListN.{length, take, length-take}
use lib.Seq.{length-take-le}
use borrow.Author.Tests.{le-ltb, eq-eqb, ne_eqb}
use Rattle.octets.specs.Slices.{part}
use Rattle.desk.specs.Steps.{Turned}
use Rattle.std.specs.Prelude.{Option, Some, None}
use Rattle.desk.specs.Answer.{Done, Refused}
use Rattle.reader.specs.Outcome.{Refused as NotAdded}
use Rattle.program_files.specs.Inputs.{Fetched}
use Rattle.cabbook_morning.specs.Depot.{as_ticket, at_desk, counted, from, started_at}
use Rattle.cabbook_morning.specs.Turns.{Opened, Finished, Added, Taken, FedWith, Fed, unread, judged, added}
use Rattle.cabbook_morning.specs.declared.depot.Morning.{Morning}

-- the desk granted a chunk
pub add_done : (k : ℕ) (m : Morning) (t s : Turned) → t ≡ s → (n : ℕ) → t.answer ≡ Done n → Added k m s s.answer (at_desk t.desk m) t.pool
add_done k m t s e n a = subst (λ (x : Turned). Added k m x x.answer (at_desk t.desk m) t.pool) e (rw a (refl, refl))

-- it refused one
pub add_ended : (k : ℕ) (m : Morning) (t s : Turned) → t ≡ s → (n at : ℕ) → t.answer ≡ Refused n at
    → (r : Morning) (q : List ℕ) → Finished k (NotAdded n at) (at_desk t.desk m) t.pool r q → Added k m s s.answer r q
add_ended k m t s e n at a r q f = subst (λ (x : Turned). Added k m x x.answer r q) e (rw a f)

-- the desk granted an opening
pub open_done : (k i : ℕ) (m : Morning) (t s : Turned) → t ≡ s → (n : ℕ) → t.answer ≡ Done n → (fd : ℤ) (r : Morning)
    → r ≡ started_at k (record { file = i; fd = fd; ticket = as_ticket n }) (at_desk t.desk m) → Opened k i m s s.answer r
open_done k i m t s e n a fd r h = subst (λ (x : Turned). Opened k i m x x.answer r) e (rw a (fd, h))

-- it refused one for want of a slot
pub open_waits : (k i : ℕ) (m : Morning) (t s : Turned) → t ≡ s → (n at : ℕ) → t.answer ≡ Refused n at → n ≡ 20 → (r : Morning)
    → r ≡ from i (at_desk t.desk m) → Opened k i m s s.answer r
open_waits k i m t s e n at a z r h = subst (λ (x : Turned). Opened k i m x x.answer r) e (rw (a, eq-eqb n 20 z) h)

-- it refused one otherwise
pub open_refused : (k i : ℕ) (m : Morning) (t s : Turned) → t ≡ s → (n at : ℕ) → t.answer ≡ Refused n at → (n ≡ 20 → ⊥) → (r : Morning)
    → r ≡ counted (NotAdded n at) true (at_desk t.desk m) → Opened k i m s s.answer r
open_refused k i m t s e n at a z r h = subst (λ (x : Turned). Opened k i m x x.answer r) e (rw (a, ne_eqb n 20 z) h)

-- a chunk is read to the first octets of the room
pub taken : (g : Option ℕ) (size n : ℕ) (room left after : List ℕ) → Fetched g (take n room) left → n ≤ size → n ≤ length room → length after ≡ length room → Taken g size after
taken (Some k) size n room left after f a b e =
    let h : k ≤ n = omega (arith, f.0, length-take n room) in
    (omega arith, omega arith)
taken None size n room left after f a b e = tt

-- the first octets of a room that has them
pub part_length : (room : List ℕ) (n : ℕ) → n ≤ length room → length (part room 0 n) ≡ n
part_length room n h =
    let e : ltb (length room) n ≡ false = le-ltb (length room) n h in
    let z : ltb n 0 ≡ false = le-ltb n 0 (omega arith) in
    rw (e, z) (length-take-le (n - 0) room (omega arith) ∙ omega arith)

zero_or_more : (n : ℕ) → (n ≡ 0) ⊎ (0 < n)
zero_or_more zero = inl refl
zero_or_more (suc n) = inr (omega arith)

-- what was read is fed
pub fed : (g : Option ℕ) (k : ℕ) (room : List ℕ) (m : Morning) (p : List ℕ) (r : Morning) (q : List ℕ) → Taken g m.chunk room → FedWith k g room m p r q → Fed k m p r q
fed None k room m p r q t f = unread f
fed (Some n) k room m p r q t f = by_count (zero_or_more n)
  where
    by_count : (n ≡ 0) ⊎ (0 < n) → Fed k m p r q
    by_count (inl e) = judged (f.0 e)
    by_count (inr h) =
        let l : length (part room 0 n) ≡ n = part_length room n t.1 in
        added (part room 0 n) (omega (arith, l)) (omega (arith, l, t.0)) (f.1 (λ e. omega (arith, e, h)))

-- Noninterference in the plain ledger: an upload is answered by its own calls alone. Assumes nothing.
use Prim.Native.Nat.{ℕ, zero, suc, ◌+◌, ◌<◌, ◌≤◌}
use mathlib.Core.Path.{◌≡◌, refl, sym, ap, ◌∙◌}
use mathlib.Core.Bool.{Bool, true, false}
use mathlib.Core.List.{List, [], ◌∷◌, ◌++◌}
use native.Mathlib.Omega.{arith}
use lib.Dec.{eqb}
use lib.ListN.{length, take}
use borrow.Author.Tests.{eqb-true, eqb-false, eq-eqb, ne_eqb}
use Rattle.octets.specs.Pick.{pick}
use Rattle.desk_entries.proofs.Searches.{clash}
use Rattle.desk_ledger.specs.Ledger.{Deed, Call, opens, on, Reply, refused, told, Found, absent, present, answer, leaves, Row, Ledger, lookup, change, Out, opening, ledger_step, run, after}
use Rattle.desk_ledger.specs.Uploads.{keep, mine, own, solo}
use Rattle.desk_laws.proofs.LedgerRows.{Below, change_same, change_other, change_absent, below_change}

-- ---- one call of the ledger

-- tickets fall along the rows, and t was given out
pub record Given (l : Ledger) (t : ℕ) : Type 0 where
  pub falls : Below l.next l.rows
  pub past : t < l.next

-- an opening leaves the same ledger, or one with the next ticket
pub data Opens (l : Ledger) : Out Ledger → Type 0 where
  stays : (n : ℕ) → Opens l (record { reply = refused n 0; then = l })
  grants : Opens l (record { reply = told l.next; then = record { slots = l.slots; next = l.next + 1; rows = record { ticket = l.next; octets = [] } ∷ l.rows } })

pub opens_so : (l : Ledger) → Opens l (opening l)
opens_so l = go (eqb l.next 4294967295) (eqb (length l.rows) l.slots)
  where
    go : (a b : Bool)
        → Opens l
        (pick {A = Out Ledger} a (record { reply = refused 21 0; then = l })
        (pick b (record { reply = refused 20 0; then = l })
        (record { reply = told l.next; then = record { slots = l.slots; next = l.next + 1; rows = record { ticket = l.next; octets = [] } ∷ l.rows } })))
    go true b = stays 21
    go false true = stays 20
    go false false = grants

pub falls_open : (l : Ledger) (x : Out Ledger) → Opens l x → Below l.next l.rows → Below x.then.next x.then.rows
falls_open l x (stays n) b = b
falls_open l x grants b = (omega arith, b)

pub falls_step : (l : Ledger) (c : Call) → Below l.next l.rows → Below (ledger_step l c).then.next (ledger_step l c).then.rows
falls_step l (opens m) b = falls_open l (opening l) (opens_so l) b
falls_step l (on u x) b = below_change l.rows l.next u (leaves (lookup l.rows u) x) b

-- what a call leaves of ticket t
abbrev pub fate : ℕ → Call → Found → Found
fate t (opens m) f = f
fate t (on u x) f = pick (eqb u t) (leaves f x) f

-- a deed on t makes its row so
pub made : (rs : List Row) (b t : ℕ) (x : Deed) → Below b rs → (f : Found) → lookup rs t ≡ f → lookup (change rs t (leaves f x)) t ≡ leaves f x
made rs b t x k absent e = rw (change_absent rs t absent e) e
made rs b t x k (present o) e = change_same rs b t (leaves (present o) x) o k e

on_step : (l : Ledger) (u t : ℕ) (x : Deed) → Below l.next l.rows → (b : Bool) → eqb u t ≡ b
    → lookup (change l.rows u (leaves (lookup l.rows u) x)) t ≡ pick b (leaves (lookup l.rows t) x) (lookup l.rows t)
on_step l u t x k true q = let w : u ≡ t = eqb-true u t q in rw w (made l.rows l.next t x k (lookup l.rows t) refl)
on_step l u t x k false q = change_other l.rows u t (leaves (lookup l.rows u) x) (λ e. eqb-false u t q (sym e))

open_step : (l : Ledger) (t : ℕ) (x : Out Ledger) → Opens l x → t < l.next → lookup x.then.rows t ≡ lookup l.rows t
unfolding lookup
open_step l t x (stays n) h = refl
open_step l t x grants h = rw (ne_eqb l.next t (λ e. omega arith))

pub step_fate : (l : Ledger) (t : ℕ) (c : Call) → Given l t → lookup (ledger_step l c).then.rows t ≡ fate t c (lookup l.rows t)
step_fate l t (opens m) g = open_step l t (opening l) (opens_so l) g.past
step_fate l t (on u x) g = on_step l u t x g.falls (eqb u t) refl

next_open : (l : Ledger) (x : Out Ledger) → Opens l x → l.next ≤ x.then.next
next_open l x (stays n) = omega arith
next_open l x grants = omega arith

pub given_step : (l : Ledger) (t : ℕ) (c : Call) → Given l t → Given (ledger_step l c).then t
given_step l t (opens m) g =
    let h = next_open l (opening l) (opens_so l) in
    let p = g.past in
    record { falls = falls_step l (opens m) g.falls; past = omega arith }
given_step l t (on u x) g = record { falls = falls_step l (on u x) g.falls; past = g.past }

pub falls_after : (cs : List Call) (l : Ledger) → Below l.next l.rows → Below (after ledger_step l cs).next (after ledger_step l cs).rows
unfolding after
falls_after [] l b = b
falls_after (c ∷ cs) l b = falls_after cs (ledger_step l c).then (falls_step l c b)

pub given_after : (cs : List Call) (l : Ledger) (t : ℕ) → Given l t → Given (after ledger_step l cs) t
unfolding after
given_after [] l t g = g
given_after (c ∷ cs) l t g = given_after cs (ledger_step l c).then t (given_step l t c g)

slots_open : (l : Ledger) (x : Out Ledger) → Opens l x → x.then.slots ≡ l.slots
slots_open l x (stays n) = refl
slots_open l x grants = refl

pub same_slots : (cs : List Call) (l : Ledger) → (after ledger_step l cs).slots ≡ l.slots
unfolding after
same_slots [] l = refl
same_slots (opens m ∷ cs) l = same_slots cs (ledger_step l (opens m)).then ∙ slots_open l (opening l) (opens_so l)
same_slots (on u x ∷ cs) l = same_slots cs (ledger_step l (on u x)).then

-- a granted opening starts with no octets
pub starts : (l : Ledger) (m t : ℕ) → Below l.next l.rows → (ledger_step l (opens m)).reply ≡ told t
    → (lookup (ledger_step l (opens m)).then.rows t ≡ present []) × Given (ledger_step l (opens m)).then t
unfolding lookup
starts l m t b e = go (opening l) (opens_so l) e
  where
    go : (x : Out Ledger) → Opens l x → x.reply ≡ told t → (lookup x.then.rows t ≡ present []) × Given x.then t
    go x (stays n) h = clash cc
    go x grants h =
        let w : l.next ≡ t = cc in
        (rw (eq-eqb l.next t w), record { falls = (omega arith, b); past = omega arith })

-- ---- its own calls alone

pub own_solo : (cs : List Call) (l : Ledger) (t : ℕ) → Given l t → own t cs (run ledger_step l cs) ≡ solo (lookup l.rows t) (mine t cs)
unfolding run mine own solo
own_solo [] l t g = refl
own_solo (opens m ∷ cs) l t g =
    own_solo cs (ledger_step l (opens m)).then t (given_step l t (opens m) g) ∙ ap (λ (f : Found). solo f (mine t cs)) (step_fate l t (opens m) g)
own_solo (on u x ∷ cs) l t g =
    go (own_solo cs (ledger_step l (on u x)).then t (given_step l t (on u x) g) ∙ ap (λ (f : Found). solo f (mine t cs)) (step_fate l t (on u x) g)) (eqb u t) refl
  where
    go : own t cs (run ledger_step (ledger_step l (on u x)).then cs) ≡ solo (pick (eqb u t) (leaves (lookup l.rows t) x) (lookup l.rows t)) (mine t cs) → (b : Bool) → eqb u t ≡ b
        → keep b (answer (lookup l.rows u) x) (own t cs (run ledger_step (ledger_step l (on u x)).then cs)) ≡ solo (lookup l.rows t) (keep b x (mine t cs))
    go ih true q =
        let w : u ≡ t = eqb-true u t q in
        let h : own t cs (run ledger_step (ledger_step l (on u x)).then cs) ≡ solo (leaves (lookup l.rows t) x) (mine t cs) = rw q at ih in
        rw h (ap (λ (n : ℕ). answer (lookup l.rows n) x ∷ solo (leaves (lookup l.rows t) x) (mine t cs)) w)
    go ih false q = rw q at ih

-- what a ticket is after deeds
unfoldable pub fates : Found → List Deed → Found
fates f [] = f
fates f (x ∷ xs) = fates (leaves f x) xs

pub after_fates : (cs : List Call) (l : Ledger) (t : ℕ) → Given l t → lookup (after ledger_step l cs).rows t ≡ fates (lookup l.rows t) (mine t cs)
unfolding after mine fates
after_fates [] l t g = refl
after_fates (opens m ∷ cs) l t g =
    after_fates cs (ledger_step l (opens m)).then t (given_step l t (opens m) g) ∙ ap (λ (f : Found). fates f (mine t cs)) (step_fate l t (opens m) g)
after_fates (on u x ∷ cs) l t g =
    after_fates cs (ledger_step l (on u x)).then t (given_step l t (on u x) g) ∙ ap (λ (f : Found). fates f (mine t cs)) (step_fate l t (on u x) g) ∙ go (eqb u t)
  where
    go : (b : Bool) → fates (pick b (leaves (lookup l.rows t) x) (lookup l.rows t)) (mine t cs) ≡ fates (lookup l.rows t) (keep b x (mine t cs))
    go true = refl
    go false = refl

-- a first part of the deeds is answered with that part of the answers
pub solo_take : (k : ℕ) (f : Found) (xs : List Deed) → take k (solo f xs) ≡ solo f (take k xs)
unfolding solo
solo_take zero f xs = refl
solo_take (suc k) f [] = refl
solo_take (suc k) f (x ∷ xs) = ap (λ (rs : List Reply). answer f x ∷ rs) (solo_take k (leaves f x) xs)

pub fates_append : (xs ys : List Deed) (f : Found) → fates f (xs ++ ys) ≡ fates (fates f xs) ys
unfolding fates
fates_append [] ys f = refl
fates_append (x ∷ xs) ys f = fates_append xs ys (leaves f x)

pub fates_absent : (xs : List Deed) → fates absent xs ≡ absent
unfolding fates
fates_absent [] = refl
fates_absent (x ∷ xs) = fates_absent xs

pub mine_append : (t : ℕ) (cs ds : List Call) → mine t (cs ++ ds) ≡ mine t cs ++ mine t ds
unfolding mine
mine_append t [] ds = refl
mine_append t (opens m ∷ cs) ds = mine_append t cs ds
mine_append t (on u x ∷ cs) ds = go (eqb u t) (mine_append t cs ds)
  where
    go : (b : Bool) → mine t (cs ++ ds) ≡ mine t cs ++ mine t ds → keep b x (mine t (cs ++ ds)) ≡ keep b x (mine t cs) ++ mine t ds
    go true e = ap (λ (xs : List Deed). x ∷ xs) e
    go false e = e

pub after_append : {S : Type 0} (step : S → Call → Out S) (xs ys : List Call) (s : S) → after step s (xs ++ ys) ≡ after step (after step s xs) ys
unfolding after
after_append step [] ys s = refl
after_append step (x ∷ xs) ys s = after_append step xs ys (step s x).then

-- ---- tickets

-- a granted opening answers the next ticket
pub next_granted : (l : Ledger) (m t : ℕ) → (ledger_step l (opens m)).reply ≡ told t → l.next ≡ t
next_granted l m t e = go (opening l) (opens_so l) e
  where
    go : (x : Out Ledger) → Opens l x → x.reply ≡ told t → l.next ≡ t
    go x (stays n) h = clash cc
    go x grants h = cc

-- The octets of an open ticket are the chunks that were accepted, joined, as calls and answers tell. Assumes nothing.
use Prim.Native.Nat.{ℕ, ◌+◌, ◌<◌, ◌≤◌}
use mathlib.Core.Path.{◌≡◌, refl, sym, ap, subst, ◌∙◌}
use mathlib.Core.Bool.{Bool, true, false}
use mathlib.Core.List.{List, [], ◌∷◌, ◌++◌, append_assoc, append-nil}
use native.Mathlib.Omega.{arith}
use lib.Dec.{ltb, eqb}
use lib.ListN.{length}
use borrow.Author.Tests.{ltb-true, ltb-false, eqb-true, eqb-false}
use Rattle.octets.specs.Pick.{pick}
use Rattle.desk_ledger.specs.Ledger.{Deed, adds, judges, shows, asks, releases, Call, opens, on, refused, told, Found, absent, present, answer, leaves, Ledger, lookup, Out, opening, ledger_step, run, after}
use Rattle.desk_ledger.specs.Uploads.{accepted, chunk, joined}
use Rattle.desk_laws.proofs.LedgerRows.{no, Below, below_absent, change_same, change_other}
use Rattle.desk_laws.proofs.Noninterference.{Given, Opens, stays, grants, opens_so, made, falls_step, given_step, fates, fates_absent, after_fates}
use Rattle.desk_ledger.specs.Uploads.{mine}

abbrev pub base : Found → List ℕ
base absent = []
base (present o) = o

-- ---- a ticket that was closed stays so

never_again : {A : Type 0} (cs : List Call) (l : Ledger) (t : ℕ) (o : List ℕ) → Given l t → lookup l.rows t ≡ absent → lookup (after ledger_step l cs).rows t ≡ present o → A
never_again cs l t o g e f =
    no o (sym (after_fates cs l t g ∙ ap (λ (x : Found). fates x (mine t cs)) e ∙ fates_absent (mine t cs)) ∙ f)

adds_chunk : (o q : List ℕ) → base (leaves (present o) (adds q)) ≡ o ++ chunk (adds q) (answer (present o) (adds q))
adds_chunk o q = go (ltb 16384 (length o + length q))
  where
    go : (b : Bool) → pick b o (o ++ q) ≡ o ++ accepted (pick b (refused 23 (length o)) (told (length o + length q))) q
    go true = sym (append-nil _)
    go false = refl

-- ---- what was given out and what not

-- t is given out, or has no row yet
pub data Known (l : Ledger) (t : ℕ) : Type 0 where
  given : t < l.next → Known l t
  later : l.next ≤ t → Known l t

pub known : (l : Ledger) (t : ℕ) → Known l t
known l t = go (ltb t l.next) refl
  where
    go : (b : Bool) → ltb t l.next ≡ b → Known l t
    go true q = given (ltb-true t l.next q)
    go false q = later (ltb-false t l.next q)

-- an opening leaves the octets as they are, or begins with none
open_base : (l : Ledger) (t : ℕ) (x : Out Ledger) → Opens l x → Below l.next l.rows → base (lookup x.then.rows t) ≡ base (lookup l.rows t)
unfolding lookup
open_base l t x (stays n) b = refl
open_base l t x grants b = go (eqb l.next t) refl
  where
    go : (c : Bool) → eqb l.next t ≡ c → base (pick (eqb l.next t) (present []) (lookup l.rows t)) ≡ base (lookup l.rows t)
    go true q =
        let w : l.next ≡ t = eqb-true l.next t q in
        let e : lookup l.rows t ≡ absent = below_absent l.rows l.next t b (omega arith) in
        rw (q, e)
    go false q = rw q

-- a deed on another ticket leaves t's row
other_row : (l : Ledger) (u t : ℕ) (x : Deed) → (u ≡ t → ⊥) → lookup (ledger_step l (on u x)).then.rows t ≡ lookup l.rows t
other_row l u t x n = change_other l.rows u t (leaves (lookup l.rows u) x) (λ e. n (sym e))

shut_chunk : (x : Deed) → chunk x (answer absent x) ≡ []
shut_chunk (adds q) = refl
shut_chunk judges = refl
shut_chunk shows = refl
shut_chunk asks = refl
shut_chunk releases = refl

-- a deed on t: its chunk joins the octets, unless it releases t, which then stays closed
module _ (cs : List Call) (l : Ledger) (t : ℕ) (o : List ℕ) (b : Below l.next l.rows) where
  open_given : (a : List ℕ) → lookup l.rows t ≡ present a → Known l t → Given l t
  open_given a e (given h) = record { falls = b; past = h }
  open_given a e (later h) = no a (sym (below_absent l.rows l.next t b h) ∙ e)

  one_deed : (x : Deed) (f : Found) → lookup l.rows t ≡ f → lookup (after ledger_step (ledger_step l (on t x)).then cs).rows t ≡ present o → base (leaves f x) ≡ base f ++ chunk x (answer f x)
  one_deed x absent q e = rw (shut_chunk x)
  one_deed (adds c) (present a) q e = adds_chunk a c
  one_deed judges (present a) q e = sym (append-nil _)
  one_deed shows (present a) q e = sym (append-nil _)
  one_deed asks (present a) q e = sym (append-nil _)
  one_deed releases (present a) q e =
      let g = open_given a q (known l t) in
      let w : lookup (ledger_step l (on t releases)).then.rows t ≡ absent = rw q (change_same l.rows l.next t absent a b q) in
      never_again cs (ledger_step l (on t releases)).then t o (given_step l t (on t releases) g) w e

  on_joins : (x : Deed) (rest : List ℕ) → lookup (after ledger_step (ledger_step l (on t x)).then cs).rows t ≡ present o
      → o ≡ base (lookup (ledger_step l (on t x)).then.rows t) ++ rest
      → o ≡ base (lookup l.rows t) ++ (chunk x (answer (lookup l.rows t) x) ++ rest)
  on_joins x rest e ih =
      ih
      ∙ ap (λ (f : Found). base f ++ rest) (made l.rows l.next t x b (lookup l.rows t) refl)
      ∙ ap (λ (c : List ℕ). c ++ rest) (one_deed x (lookup l.rows t) refl e)
      ∙ append_assoc (base (lookup l.rows t)) (chunk x (answer (lookup l.rows t) x)) rest

pub joins : (cs : List Call) (l : Ledger) (t : ℕ) (o : List ℕ) → Below l.next l.rows → lookup (after ledger_step l cs).rows t ≡ present o
    → o ≡ base (lookup l.rows t) ++ joined t cs (run ledger_step l cs)
unfolding after run joined
joins [] l t o b e = rw e (sym (append-nil _))
joins (opens m ∷ cs) l t o b e =
    joins cs (ledger_step l (opens m)).then t o (falls_step l (opens m) b) e
    ∙ ap (λ (x : List ℕ). x ++ joined t cs (run ledger_step (ledger_step l (opens m)).then cs)) (open_base l t (opening l) (opens_so l) b)
joins (on u x ∷ cs) l t o b e = go e (joins cs (ledger_step l (on u x)).then t o (falls_step l (on u x) b) e) (eqb u t) refl
  where
    -- what is to be shown where the deed is on v and counts as one on t
    Joins : ℕ → Type 0
    Joins v =
        lookup (after ledger_step (ledger_step l (on v x)).then cs).rows t ≡ present o
        → o ≡ base (lookup (ledger_step l (on v x)).then.rows t) ++ joined t cs (run ledger_step (ledger_step l (on v x)).then cs)
        → o ≡ base (lookup l.rows t) ++ (chunk x (answer (lookup l.rows v) x) ++ joined t cs (run ledger_step (ledger_step l (on v x)).then cs))

    here : Joins t
    here = on_joins cs l t o b x (joined t cs (run ledger_step (ledger_step l (on t x)).then cs))

    go : lookup (after ledger_step (ledger_step l (on u x)).then cs).rows t ≡ present o
        → o ≡ base (lookup (ledger_step l (on u x)).then.rows t) ++ joined t cs (run ledger_step (ledger_step l (on u x)).then cs) → (c : Bool) → eqb u t ≡ c
        → o ≡ base (lookup l.rows t) ++ (pick c (chunk x (answer (lookup l.rows u) x)) [] ++ joined t cs (run ledger_step (ledger_step l (on u x)).then cs))
    go e ih true q = subst (λ (v : ℕ). Joins v) (sym (eqb-true u t q)) here e ih
    go e ih false q = ih ∙ ap (λ (f : Found). base f ++ joined t cs (run ledger_step (ledger_step l (on u x)).then cs)) (other_row l u t x (eqb-false u t q))

-- Laws of the ledger's rows: tickets fall along them, and a change of one row leaves the others. Assumes nothing.
use Prim.Native.Nat.{ℕ, suc, ◌<◌, ◌≤◌}
use mathlib.Core.Path.{◌≡◌, refl, sym, ap, ◌∙◌}
use mathlib.Core.Bool.{Bool, true, false}
use mathlib.Core.List.{List, [], ◌∷◌}
use native.Mathlib.Omega.{arith}
use lib.Dec.{eqb}
use lib.ListN.{length}
use borrow.Author.Tests.{eqb-true, ne_eqb}
use Rattle.octets.specs.Pick.{pick}
use Rattle.desk_entries.proofs.Searches.{clash}
use Rattle.desk_ledger.specs.Ledger.{Found, absent, present, Row, lookup, renew, change}

pub no : {A : Type 0} (o : List ℕ) → absent ≡ present o → A
no o e = clash cc

-- tickets fall along the rows, and all are below b
abbrev pub Below : ℕ → List Row → Type 0
Below b [] = Unit
Below b (r ∷ rs) = (r.ticket < b) × Below r.ticket rs

pub below_more : (rs : List Row) (a b : ℕ) → a ≤ b → Below a rs → Below b rs
below_more [] a b h k = tt
below_more (r ∷ rs) a b h k = let x : r.ticket < a = k.0 in (omega arith, k.1)

-- a ticket that was not given out yet has no row
pub below_absent : (rs : List Row) (b t : ℕ) → Below b rs → b ≤ t → lookup rs t ≡ absent
unfolding lookup
below_absent [] b t k h = refl
below_absent (r ∷ rs) b t k h =
    let x : r.ticket < b = k.0 in
    rw (ne_eqb r.ticket t (λ e. omega arith)) (below_absent rs r.ticket t k.1 (omega arith))

pub change_same : (rs : List Row) (b t : ℕ) (x : Found) (o : List ℕ) → Below b rs → lookup rs t ≡ present o → lookup (change rs t x) t ≡ x
unfolding lookup change
change_same [] b t x o k e = no o e
change_same (r ∷ rs) b t x o k e = go (λ h. change_same rs r.ticket t x o k.1 h) (eqb r.ticket t) refl e
  where
    made : (x : Found) → eqb r.ticket t ≡ true → lookup (renew r x rs) t ≡ x
    made absent q = let w : r.ticket ≡ t = eqb-true r.ticket t q in below_absent rs r.ticket t k.1 (omega arith)
    made (present y) q = rw q

    go : (lookup rs t ≡ present o → lookup (change rs t x) t ≡ x) → (c : Bool) → eqb r.ticket t ≡ c
        → pick c (present r.octets) (lookup rs t) ≡ present o
        → lookup (pick c (renew r x rs) (r ∷ change rs t x)) t ≡ x
    go ih true q h = made x q
    go ih false q h = rw q (ih h)

pub change_other : (rs : List Row) (t u : ℕ) (x : Found) → (u ≡ t → ⊥) → lookup (change rs t x) u ≡ lookup rs u
unfolding lookup change
change_other [] t u x n = refl
change_other (r ∷ rs) t u x n = go (change_other rs t u x n) (eqb r.ticket t) refl
  where
    made : (x : Found) → eqb r.ticket u ≡ false → lookup (renew r x rs) u ≡ pick (eqb r.ticket u) (present r.octets) (lookup rs u)
    made absent q = rw q
    made (present y) q = rw q

    go : lookup (change rs t x) u ≡ lookup rs u → (c : Bool) → eqb r.ticket t ≡ c
        → lookup (pick c (renew r x rs) (r ∷ change rs t x)) u ≡ pick (eqb r.ticket u) (present r.octets) (lookup rs u)
    go ih true q = let w : r.ticket ≡ t = eqb-true r.ticket t q in made x (ne_eqb r.ticket u (λ e. n (sym e ∙ w)))
    go ih false q = rw ih

-- a row that is not there stays so
pub change_absent : (rs : List Row) (t : ℕ) (x : Found) → lookup rs t ≡ absent → change rs t x ≡ rs
unfolding lookup change
change_absent [] t x e = refl
change_absent (r ∷ rs) t x e = go (λ h. change_absent rs t x h) (eqb r.ticket t) e
  where
    go : (lookup rs t ≡ absent → change rs t x ≡ rs) → (c : Bool) → pick c (present r.octets) (lookup rs t) ≡ absent
        → pick c (renew r x rs) (r ∷ change rs t x) ≡ r ∷ rs
    go ih true h = no r.octets (sym h)
    go ih false h = ap (λ (l : List Row). r ∷ l) (ih h)

-- a row made as it was
pub change_back : (rs : List Row) (t : ℕ) (o : List ℕ) → lookup rs t ≡ present o → change rs t (present o) ≡ rs
unfolding lookup change
change_back [] t o e = refl
change_back (r ∷ rs) t o e = go (λ h. change_back rs t o h) (eqb r.ticket t) e
  where
    go : (lookup rs t ≡ present o → change rs t (present o) ≡ rs) → (c : Bool) → pick c (present r.octets) (lookup rs t) ≡ present o
        → pick c (renew r (present o) rs) (r ∷ change rs t (present o)) ≡ r ∷ rs
    go ih true h = let w : r.octets ≡ o = cc in rw (← w)
    go ih false h = ap (λ (l : List Row). r ∷ l) (ih h)

pub below_change : (rs : List Row) (b t : ℕ) (x : Found) → Below b rs → Below b (change rs t x)
unfolding change
below_change [] b t x k = tt
below_change (r ∷ rs) b t x k = go (below_change rs r.ticket t x k.1) (eqb r.ticket t)
  where
    made : (x : Found) → Below b (renew r x rs)
    made absent = let h : r.ticket < b = k.0 in below_more rs r.ticket b (omega arith) k.1
    made (present y) = k

    go : Below r.ticket (change rs t x) → (c : Bool) → Below b (pick c (renew r x rs) (r ∷ change rs t x))
    go ih true = made x
    go ih false = (k.0, ih)

pub length_put : (rs : List Row) (t : ℕ) (o : List ℕ) → length (change rs t (present o)) ≡ length rs
unfolding change
length_put [] t o = refl
length_put (r ∷ rs) t o = go (length_put rs t o) (eqb r.ticket t)
  where
    go : length (change rs t (present o)) ≡ length rs → (c : Bool) → length (pick c (renew r (present o) rs) (r ∷ change rs t (present o))) ≡ suc (length rs)
    go ih true = refl
    go ih false = ap suc ih

pub length_close : (rs : List Row) (t : ℕ) (o : List ℕ) → lookup rs t ≡ present o → length rs ≡ suc (length (change rs t absent))
unfolding lookup change
length_close [] t o e = no o e
length_close (r ∷ rs) t o e = go (λ h. length_close rs t o h) (eqb r.ticket t) e
  where
    go : (lookup rs t ≡ present o → length rs ≡ suc (length (change rs t absent))) → (c : Bool) → pick c (present r.octets) (lookup rs t) ≡ present o
        → suc (length rs) ≡ suc (length (pick c rs (r ∷ change rs t absent)))
    go ih true h = refl
    go ih false h = ap suc (ih h)

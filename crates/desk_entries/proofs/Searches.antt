-- Laws of searches and of tests at every position: each turn of a loop, and what the whole tells. Assumes nothing.
use Prim.Native.Nat.{ℕ, zero, suc, ◌+◌, ◌-◌, ◌<◌, ◌≤◌}
use mathlib.Core.Path.{◌≡◌, refl, sym, ap, ◌∙◌}
use mathlib.Core.Bool.{Bool, true, false}
use native.Mathlib.Numerals.{add-one}
use native.Mathlib.Omega.{arith}
use lib.Dec.{ltb, eqb}
use borrow.Author.Tests.{ltb-true, ltb-false, eqb-true, eqb-false, eq-eqb, ne_eqb}
use Rattle.octets.specs.Pick.{pick}
use Rattle.std.specs.Prelude.{Option, Some, None, is_some, List, ◌≢◌, length, take, MatchOption, IsSomeAnd}
use Rattle.std.specs.List.{AllWithin, HoldsAt}
use lib.Seq.{get_or-take, length-take-le}
use Rattle.desk_entries.specs.Search.{Position, At, Nowhere, Barred, place, first_at, all_at, any_at, column, same_as, is_at, among, AtMost, lower, lowest_of, at_lowest, lowest_at, longer, leading}
use Rattle.desk_entries.specs.declared.tickets.Lowest.{Lowest}

-- no two constructors are equal
pub clash : {A : Type 0} → ◌≡◌ {A = ℕ} 0 1 → A
clash e = absurd (omega arith)

pub pick_both : (b x : Bool) → pick b x false ≡ true → (b ≡ true) × (x ≡ true)
pick_both true x e = (refl, e)
pick_both false x e = clash cc

rest : (n i : ℕ) → i < n → n - i ≡ suc (n - (i + 1))
rest n i h = omega arith

next : (i j : ℕ) → i ≤ j → (i ≡ j → ⊥) → i + 1 ≤ j
next i j h n = omega arith

-- ---- the turns of a loop

pub all_at_none : (p : ℕ → Bool) (n i : ℕ) → n ≤ i → all_at p i (n - i) ≡ true
unfolding all_at
all_at_none p n i h = let e : n - i ≡ 0 = omega arith in rw e

pub all_at_hit : (p : ℕ → Bool) (n i : ℕ) → i < n → p i ≡ true → all_at p i (n - i) ≡ all_at p (i + 1) (n - (i + 1))
unfolding all_at
all_at_hit p n i h e = rw (rest n i h, e)

pub all_at_miss : (p : ℕ → Bool) (n i : ℕ) → i < n → p i ≡ false → all_at p i (n - i) ≡ false
unfolding all_at
all_at_miss p n i h e = rw (rest n i h, e)

-- ---- what the whole tells

pub all_at_all : (p : ℕ → Bool) (k i : ℕ) → all_at p i k ≡ true → (j : ℕ) → i ≤ j → j < i + k → p j ≡ true
unfolding all_at
all_at_all p zero i e j h l = absurd (omega arith)
all_at_all p (suc k) i e j h l =
    let b = pick_both (p i) (all_at p (i + 1) k) e in
    go (all_at_all p k (i + 1) b.1 j) b (eqb i j) refl
  where
    go : (i + 1 ≤ j → j < i + 1 + k → p j ≡ true) → (p i ≡ true) × (all_at p (i + 1) k ≡ true) → (t : Bool) → eqb i j ≡ t → p j ≡ true
    go ih b true q = let w : i ≡ j = eqb-true i j q in rw w at b.0
    go ih b false q = ih (next i j h (eqb-false i j q)) (omega arith)

pub all_all_at : (p : ℕ → Bool) (k i : ℕ) → ((j : ℕ) → i ≤ j → j < i + k → p j ≡ true) → all_at p i k ≡ true
unfolding all_at
all_all_at p zero i f = refl
all_all_at p (suc k) i f = rw (f i (omega arith) (omega arith)) (all_all_at p k (i + 1) (λ j h l. f j (omega arith) (omega arith)))

-- tests that agree at every place
pub first_at_same : (p q : ℕ → Bool) (k i : ℕ) → ((j : ℕ) → i ≤ j → j < i + k → p j ≡ q j) → first_at p i k ≡ first_at q i k
unfolding first_at
first_at_same p q zero i f = refl
first_at_same p q (suc k) i f = rw (f i (omega arith) (omega arith), first_at_same p q k (i + 1) (λ j h l. f j (omega arith) (omega arith)))

-- what a search finds: the test holds there, and at no place before
pub first_at_is : (p : ℕ → Bool) (k i j : ℕ) → first_at p i k ≡ At j → (p j ≡ true) × (i ≤ j) × (j < i + k)
unfolding first_at
first_at_is p zero i j e = clash cc
first_at_is p (suc k) i j e = go (λ h. first_at_is p k (i + 1) j h) (p i) refl e
  where
    go : (first_at p (i + 1) k ≡ At j → (p j ≡ true) × (i + 1 ≤ j) × (j < i + 1 + k)) → (b : Bool) → p i ≡ b → pick b (At i) (first_at p (i + 1) k) ≡ At j → (p j ≡ true) × (i ≤ j) × (j < i + suc k)
    go ih true q h = let w : i ≡ j = cc in (rw w at q, omega arith, omega arith)
    go ih false q h = let r = ih h in (r.0, omega arith, omega arith)

pub first_at_not : (p : ℕ → Bool) (k i : ℕ) → first_at p i k ≡ Nowhere → (j : ℕ) → i ≤ j → j < i + k → p j ≡ false
unfolding first_at
first_at_not p zero i e j h l = absurd (omega arith)
first_at_not p (suc k) i e j h l = go (λ x. first_at_not p k (i + 1) x j) (p i) refl e
  where
    fin : (i + 1 ≤ j → j < i + 1 + k → p j ≡ false) → p i ≡ false → (t : Bool) → eqb i j ≡ t → p j ≡ false
    fin ih q true w = let v : i ≡ j = eqb-true i j w in rw v at q
    fin ih q false w = ih (next i j h (eqb-false i j w)) (omega arith)

    go : (first_at p (i + 1) k ≡ Nowhere → i + 1 ≤ j → j < i + 1 + k → p j ≡ false) → (b : Bool) → p i ≡ b → pick b (At i) (first_at p (i + 1) k) ≡ Nowhere → p j ≡ false
    go ih true q x = clash cc
    go ih false q x = fin (ih x) q (eqb i j) refl

-- a search is never barred
pub unbarred : {A : Type 0} (p : ℕ → Bool) (k i n : ℕ) → first_at p i k ≡ Barred n → A
unfolding first_at
unbarred p zero i n e = clash cc
unbarred {A} p (suc k) i n e = go (λ h. unbarred p k (i + 1) n h) (p i) e
  where
    go : (first_at p (i + 1) k ≡ Barred n → A) → (b : Bool) → pick b (At i) (first_at p (i + 1) k) ≡ Barred n → A
    go ih true h = clash cc
    go ih false h = ih h

-- ---- numbers side by side

pub among_not : (f : ℕ → ℕ) (t n : ℕ) → among f t n ≡ false → (t ≡ 0 → ⊥) → (j : ℕ) → j < n → f j ≡ t → ⊥
unfolding among
among_not f t n e z j h q = go (first_at (same_as f t) 0 n) refl
  where
    go : (r : Position) → first_at (same_as f t) 0 n ≡ r → ⊥
    go (At i) s = let w : true ≡ false = rw (ne_eqb t 0 z, s) at e in clash cc
    go Nowhere s = let w : true ≡ false = sym (eq-eqb (f j) t q) ∙ first_at_not (same_as f t) n 0 s j (omega arith) (omega arith) in clash cc
    go (Barred m) s = unbarred (same_as f t) n 0 m s

pub not_among : (f : ℕ → ℕ) (t n : ℕ) → ((t ≡ 0 → ⊥) → (j : ℕ) → j < n → f j ≡ t → ⊥) → among f t n ≡ false
unfolding among
not_among f t n u = go (eqb t 0) refl (first_at (same_as f t) 0 n) refl
  where
    go : (b : Bool) → eqb t 0 ≡ b → (r : Position) → first_at (same_as f t) 0 n ≡ r → pick b false (is_at r) ≡ false
    go true z r s = refl
    go false z Nowhere s = refl
    go false z (Barred m) s = refl
    go false z (At i) s =
        let w = first_at_is (same_as f t) n 0 i s in
        absurd (u (eqb-false t 0 z) i (omega arith) (eqb-true (f i) t w.0))

pub among_same : (f g : ℕ → ℕ) (t n : ℕ) → ((j : ℕ) → j < n → f j ≡ g j) → among f t n ≡ among g t n
unfolding among
among_same f g t n e = ap (λ (r : Position). pick (eqb t 0) false (is_at r)) (first_at_same (same_as f t) (same_as g t) n 0 (λ j h l. ap (λ (x : ℕ). eqb x t) (e j (omega arith))))

pub above_all : (f : ℕ → ℕ) (t n h : ℕ) → AtMost f n h → h < t → among f t n ≡ false
unfolding AtMost
above_all f t n h m l = not_among f t n (λ z j k e. (let w = m j k in omega arith))

-- ---- one of the first positions

either : (a b : Bool) → pick a true b ≡ false → (a ≡ false) × (b ≡ false)
either true b e = clash cc
either false b e = (refl, e)

pub any_at_none : (p : ℕ → Bool) → any_at p 0 ≡ false
unfolding any_at
any_at_none p = refl

pub any_at_more : (p : ℕ → Bool) (n : ℕ) → any_at p (n + 1) ≡ pick (any_at p n) true (p n)
unfolding any_at
any_at_more p n = rw (add-one n)

pub any_at_not : (p : ℕ → Bool) (n : ℕ) → any_at p n ≡ false → (j : ℕ) → j < n → p j ≡ false
unfolding any_at
any_at_not p zero e j h = absurd (omega arith)
any_at_not p (suc n) e j h = let b = either (any_at p n) (p n) e in go (any_at_not p n b.0 j) b.1 (eqb j n) refl
  where
    go : (j < n → p j ≡ false) → p n ≡ false → (t : Bool) → eqb j n ≡ t → p j ≡ false
    go ih b true q = let w : j ≡ n = eqb-true j n q in rw w b
    go ih b false q = ih (omega (arith, eqb-false j n q))

pub not_any_at : (p : ℕ → Bool) (n : ℕ) → ((j : ℕ) → j < n → p j ≡ false) → any_at p n ≡ false
unfolding any_at
not_any_at p zero f = refl
not_any_at p (suc n) f = rw (not_any_at p n (λ j h. f j (omega arith)), f n (omega arith))

pub any_at_same : (p q : ℕ → Bool) (n : ℕ) → ((j : ℕ) → j < n → p j ≡ q j) → any_at p n ≡ any_at q n
unfolding any_at
any_at_same p q zero f = refl
any_at_same p q (suc n) f = rw (any_at_same p q n (λ j h. f j (omega arith)), f n (omega arith))

pub any_at_some : (p : ℕ → Bool) (n j : ℕ) → j < n → p j ≡ true → any_at p n ≡ true
any_at_some p n j h e = go (any_at p n) refl
  where
    go : (b : Bool) → any_at p n ≡ b → b ≡ true
    go true q = refl
    go false q = let w : false ≡ true = sym (any_at_not p n q j h) ∙ e in clash cc

-- ---- the positions that come first

pub leading_none : (p : ℕ → Bool) → leading p 0 ≡ 0
unfolding leading
leading_none p = refl

pub leading_more : (p : ℕ → Bool) (n : ℕ) → leading p (n + 1) ≡ pick (p n) (leading p n) (longer (leading p n) n)
unfolding leading
leading_more p n = ap (leading p) (add-one n)

-- p holds at none of the first k positions, and at k where that is one of the first n
record Leads (p : ℕ → Bool) (n k : ℕ) : Type 0 where
  few : k ≤ n
  before : (j : ℕ) → j < k → p j ≡ false
  there : k < n → p k ≡ true

leads_more : (p : ℕ → Bool) (n k : ℕ) → Leads p n k → (b : Bool) → p n ≡ b → Leads p (suc n) (pick b k (longer k n))
leads_more p n k h true e =
    record { few = omega (arith, h.few); before = h.before; there = λ l. there l (eqb k n) refl }
  where
    there : k < suc n → (t : Bool) → eqb k n ≡ t → p k ≡ true
    there l true q = let w : k ≡ n = eqb-true k n q in rw w e
    there l false q = h.there (omega (arith, eqb-false k n q))
leads_more p n k h false e = go (eqb k n) refl
  where
    before : k ≡ n → (j : ℕ) → j < n + 1 → (t : Bool) → eqb j n ≡ t → p j ≡ false
    before w j l true q = let v : j ≡ n = eqb-true j n q in rw v e
    before w j l false q = h.before j (omega (arith, eqb-false j n q))

    go : (t : Bool) → eqb k n ≡ t → Leads p (suc n) (pick t (n + 1) k)
    go true q =
        record { few = omega arith; before = λ j l. before (eqb-true k n q) j l (eqb j n) refl; there = λ l. absurd (omega arith) }
    go false q =
        let f = h.few in
        record { few = omega arith; before = h.before; there = λ l. h.there (omega (arith, eqb-false k n q)) }

leads : (p : ℕ → Bool) (n : ℕ) → Leads p n (leading p n)
unfolding leading
leads p zero = record { few = omega arith; before = λ j l. absurd (omega arith); there = λ l. absurd (omega arith) }
leads p (suc n) = leads_more p n (leading p n) (leads p n) (p n) refl

-- a search past positions at which the test does not hold
pub first_at_past : (p : ℕ → Bool) (m i k : ℕ) → i ≤ k → k < i + m → ((j : ℕ) → i ≤ j → j < k → p j ≡ false) → p k ≡ true → first_at p i m ≡ At k
unfolding first_at
first_at_past p zero i k h l f e = absurd (omega arith)
first_at_past p (suc m) i k h l f e = go (eqb i k) refl (λ n. first_at_past p m (i + 1) k (next i k h n) (omega arith) (λ j u v. f j (omega arith) v) e)
  where
    go : (t : Bool) → eqb i k ≡ t → ((i ≡ k → ⊥) → first_at p (i + 1) m ≡ At k) → pick (p i) (At i) (first_at p (i + 1) m) ≡ At k
    go true q ih = let w : i ≡ k = eqb-true i k q in rw (w, e)
    go false q ih = let n = eqb-false i k q in rw (f i (omega arith) (omega (arith, next i k h n))) (ih n)

pub first_at_nowhere : (p : ℕ → Bool) (m i : ℕ) → ((j : ℕ) → i ≤ j → j < i + m → p j ≡ false) → first_at p i m ≡ Nowhere
unfolding first_at
first_at_nowhere p zero i f = refl
first_at_nowhere p (suc m) i f = rw (f i (omega arith) (omega arith)) (first_at_nowhere p m (i + 1) (λ j h l. f j (omega arith) (omega arith)))

pub leading_there : (p : ℕ → Bool) (n m : ℕ) → m ≤ n → leading p n < m → first_at p 0 m ≡ At (leading p n)
leading_there p n m h l = let k = leads p n in first_at_past p m 0 (leading p n) (omega arith) (omega arith) (λ j u v. k.before j v) (k.there (omega arith))

pub leading_not : (p : ℕ → Bool) (n m : ℕ) → m ≤ leading p n → first_at p 0 m ≡ Nowhere
leading_not p n m h = let k = leads p n in first_at_nowhere p m 0 (λ j u v. k.before j (omega arith))

-- ---- a number among the first

-- what a search of the library finds
pub found_at : (r : Option ℕ) (ts : List ℕ) (t n : ℕ) → n ≤ length ts
    → MatchOption r (AllWithin (λ x. x ≢ t) (take n ts) 0 (length (take n ts))) (λ i. (i < length (take n ts)) × HoldsAt (λ x. x ≡ t) (take n ts) i × AllWithin (λ x. x ≢ t) (take n ts) 0 i)
    → place r ≡ first_at (same_as (column ts) t) 0 n
found_at None ts t n l h =
    sym (first_at_nowhere (same_as (column ts) t) n 0 (λ j u v. (let w : j < n = omega arith in ne_eqb (column ts j) t (λ e. h j 0 u (rw (length-take-le n ts l) w) (get_or-take n ts j 0 w ∙ e)))))
found_at (Some i) ts t n l h =
    let b : i < n = rw (length-take-le n ts l) at h.0 in
    sym (first_at_past (same_as (column ts) t) n 0 i (omega arith) (omega arith) (λ j u v. ne_eqb (column ts j) t (λ e. h.2 j 0 u v (get_or-take n ts j 0 (omega arith) ∙ e))) (eq-eqb (column ts i) t (sym (get_or-take n ts i 0 b) ∙ h.1 0)))

pub is_some_place : (r : Option ℕ) → is_some r ≡ is_at (place r)
is_some_place None = refl
is_some_place (Some i) = refl

-- ---- the lowest number

-- the lowest number among the first n, and where it stands
pub record FindsAt (f : ℕ → ℕ) (n : ℕ) (b : Lowest) : Type 0 where
  pub some : b.ticket ≡ 0 → ⊥
  pub inside : b.at < n
  pub there : f b.at ≡ b.ticket
  pub least : (j : ℕ) → j < n → (f j ≡ 0 → ⊥) → b.ticket ≤ f j

-- what was found among the first n numbers: none of them is a number, or the lowest
abbrev pub Finds : (ℕ → ℕ) → ℕ → Option Lowest → Type 0
Finds f n None = (j : ℕ) → j < n → f j ≡ 0
Finds f n (Some b) = FindsAt f n b

module _ (f : ℕ → ℕ) (n : ℕ) where
  -- a number more where the others are none
  none_more : Finds f n None → f n ≡ 0 → Finds f (suc n) None
  none_more h z j l = go (eqb j n) refl
    where
      go : (t : Bool) → eqb j n ≡ t → f j ≡ 0
      go true q = let w : j ≡ n = eqb-true j n q in rw w z
      go false q = h j (omega (arith, eqb-false j n q))

  -- the same among one number more, which is none or not lower
  same : (b : Lowest) → FindsAt f n b → ((f n ≡ 0 → ⊥) → b.ticket ≤ f n) → FindsAt f (suc n) b
  same b h k =
      record { some = h.some; inside = omega (arith, h.inside); there = h.there; least = λ j l z. least j l z (eqb j n) refl }
    where
      least : (j : ℕ) → j < suc n → (f j ≡ 0 → ⊥) → (t : Bool) → eqb j n ≡ t → b.ticket ≤ f j
      least j l z true q = let w : j ≡ n = eqb-true j n q in rw w (k (λ e. z (rw w e)))
      least j l z false q = h.least j (omega (arith, eqb-false j n q)) z

  -- a number more that is the lowest then
  new : (f n ≡ 0 → ⊥) → ((j : ℕ) → j < n → (f j ≡ 0 → ⊥) → f n ≤ f j) → FindsAt f (suc n) (record { ticket = f n; at = n })
  new z k =
      record { some = z; inside = omega arith; there = refl; least = λ j l e. least j l e (eqb j n) refl }
    where
      least : (j : ℕ) → j < suc n → (f j ≡ 0 → ⊥) → (t : Bool) → eqb j n ≡ t → f n ≤ f j
      least j l e true q = let w : j ≡ n = eqb-true j n q in rw w (omega arith)
      least j l e false q = k j (omega (arith, eqb-false j n q)) e

  finds_more : (b : Option Lowest) → Finds f n b → Finds f (suc n) (lower b (f n) n)
  finds_more None h = go (eqb (f n) 0) refl
    where
      go : (x : Bool) → eqb (f n) 0 ≡ x → Finds f (suc n) (lower None (f n) n)
      go true p = rw p (none_more h (eqb-true (f n) 0 p))
      go false p = rw p (new (eqb-false (f n) 0 p) (λ j l e. absurd (e (h j l))))
  finds_more (Some b) h = go (eqb (f n) 0) refl (ltb (f n) b.ticket) refl
    where
      go : (x : Bool) → eqb (f n) 0 ≡ x → (y : Bool) → ltb (f n) b.ticket ≡ y → Finds f (suc n) (lower (Some b) (f n) n)
      go true p y q = rw p (same b h (λ e. absurd (e (eqb-true (f n) 0 p))))
      go false p true q =
          rw (p, q) (new (eqb-false (f n) 0 p) (λ j l e. (let k = h.least j l e in omega (arith, ltb-true (f n) b.ticket q))))
      go false p false q = rw (p, q) (same b h (λ e. ltb-false (f n) b.ticket q))

finds : (f : ℕ → ℕ) (n : ℕ) → Finds f n (lowest_of f n)
unfolding lowest_of
finds f zero = λ j l. absurd (omega arith)
finds f (suc n) = finds_more f n (lowest_of f n) (finds f n)

pub lowest_of_none : (f : ℕ → ℕ) → lowest_of f 0 ≡ None
unfolding lowest_of
lowest_of_none f = refl

pub lowest_of_more : (f : ℕ → ℕ) (n : ℕ) → lowest_of f (n + 1) ≡ lower (lowest_of f n) (f n) n
unfolding lowest_of
lowest_of_more f n = rw (add-one n)

pub lowest_found : (f : ℕ → ℕ) (n : ℕ) (b : Option Lowest) → b ≡ lowest_of f n → at_lowest b ≡ lowest_at f n
unfolding lowest_at
lowest_found f n b e = ap at_lowest e

-- where what was found stands
pub lowest_mapped : (b : Option Lowest) (r : Option ℕ) (Q : Lowest → ℕ → Type 0) → MatchOption b (r ≡ None) (λ x. IsSomeAnd r (Q x)) → ((x : Lowest) (y : ℕ) → Q x y → y ≡ x.at) → place r ≡ at_lowest b
lowest_mapped None r Q e f = ap place e
lowest_mapped (Some x) None Q e f = absurd e
lowest_mapped (Some x) (Some y) Q e f = ap At (f x y e)

pub lowest_at_not : (f : ℕ → ℕ) (n : ℕ) → lowest_at f n ≡ Nowhere → (j : ℕ) → j < n → f j ≡ 0
unfolding lowest_at
lowest_at_not f n e = go (lowest_of f n) (finds f n) e
  where
    go : (b : Option Lowest) → Finds f n b → at_lowest b ≡ Nowhere → (j : ℕ) → j < n → f j ≡ 0
    go None h e = h
    go (Some b) h e = clash cc

-- position i is one of the first n, and no number there is lower but 0
pub record LowestIs (f : ℕ → ℕ) (n i : ℕ) : Type 0 where
  pub inside : i < n
  pub some : f i ≡ 0 → ⊥
  pub least : (j : ℕ) → j < n → (f j ≡ 0 → ⊥) → f i ≤ f j

pub lowest_at_is : (f : ℕ → ℕ) (n i : ℕ) → lowest_at f n ≡ At i → LowestIs f n i
unfolding lowest_at
lowest_at_is f n i e = go (lowest_of f n) (finds f n) e
  where
    go : (b : Option Lowest) → Finds f n b → at_lowest b ≡ At i → LowestIs f n i
    go None h e = clash cc
    go (Some b) h e =
        let w : b.at ≡ i = cc in
        let t : f i ≡ b.ticket = rw (← w) h.there in
        record { inside = rw w at h.inside; some = λ k. h.some (sym t ∙ k); least = λ j l k. rw t (h.least j l k) }

pub lowest_unbarred : {A : Type 0} (f : ℕ → ℕ) (n k : ℕ) → lowest_at f n ≡ Barred k → A
unfolding lowest_at
lowest_unbarred {A} f n k e = go (lowest_of f n) e
  where
    go : (b : Option Lowest) → at_lowest b ≡ Barred k → A
    go None e = clash cc
    go (Some b) e = clash cc

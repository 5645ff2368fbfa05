-- Places and members of lists. Assumes nothing.
use mathlib.Core.Path.{◌≡◌, refl, sym, ap, subst, ◌∙◌}
use mathlib.Core.List.{List, [], ◌∷◌}
use Prim.Native.Nat.{ℕ, zero, suc, ◌<◌}
use native.Mathlib.Omega.{arith}
use lib.ListN.{length}
use Rattle.merge_partners.specs.Pairs.{Pair, pair}
use Rattle.merge_words.specs.Lists.{Member, At}
use Rattle.merge_words.specs.Lists.Member.{here}
use Rattle.merge_words.specs.Lists.At.{first, later}
use Rattle.merge_words.proofs.Members.{at_member, member_at, at_below}

module _ {A : Type 0} where
  pub at_some : (xs : List A) (i : ℕ) → i < length xs → (x : A) × At xs i x
  at_some [] i h = absurd (omega arith)
  at_some (x ∷ xs) zero h = (x, first)
  at_some (x ∷ xs) (suc i) h =
      let r = at_some xs i (omega arith) in
      (r.0, later r.1)

  pub at_same : {xs : List A} {i : ℕ} {x y : A} → At xs i x → At xs i y → x ≡ y
  at_same first first = refl
  at_same (later h) (later k) = at_same h k

pub pair_is : (q : Pair) (i j : ℕ) → q.left ≡ i → q.right ≡ j → q ≡ pair i j
pair_is q i j e f = ap (λ (a : ℕ). pair a q.right) e ∙ ap (pair i) f

pub head_is : (q : Pair) (qs : List Pair) (i j : ℕ) → q.left ≡ i → q.right ≡ j → Member (pair i j) (q ∷ qs)
head_is q qs i j e f = subst (λ (z : Pair). Member z (q ∷ qs)) (pair_is q i j e f) here

-- of no two places of the list the pairs have a line in common
abbrev pub Once : List Pair → Type 0
Once ps = (m n : ℕ) (q r : Pair) → At ps m q → At ps n r → (m ≡ n → ⊥) → (q.left ≡ r.left → ⊥) × (q.right ≡ r.right → ⊥)

-- a pair has no line in common with any of the list
abbrev pub Away : Pair → List Pair → Type 0
Away q ps = (r : Pair) → Member r ps → (q.left ≡ r.left → ⊥) × (q.right ≡ r.right → ⊥)

pub once_none : Once []
once_none m n q r h k d = absurd (omega (arith, at_below h))

pub once_cons : (p : Pair) (ps : List Pair) → Away p ps → Once ps → Once (p ∷ ps)
once_cons p ps a o m n q r first first d = absurd (d refl)
once_cons p ps a o m n q r first (later k) d = a r (at_member k)
once_cons p ps a o m n q r (later h) first d =
    let z = a q (at_member h) in
    (λ e. z.0 (sym e), λ e. z.1 (sym e))
once_cons p ps a o m n q r (later {i = i} h) (later {i = j} k) d = o i j q r h k (λ e. d (ap suc e))

pub once_head : (p : Pair) (ps : List Pair) → Once (p ∷ ps) → Away p ps
once_head p ps o r h =
    let k = member_at h in
    o 0 (suc k.0) p r first (later k.1) (λ e. absurd (omega arith))

pub once_tail : (p : Pair) (ps : List Pair) → Once (p ∷ ps) → Once ps
once_tail p ps o m n q r h k d = o (suc m) (suc n) q r (later h) (later k) (λ e. d (omega arith))

-- the first card's lines rise
abbrev pub Rises : List Pair → Type 0
Rises ps = (m n : ℕ) (q r : Pair) → At ps m q → At ps n r → m < n → q.left < r.left

pub rises_none : Rises []
rises_none m n q r h k d = absurd (omega (arith, at_below h))

pub rises_cons : (p : Pair) (ps : List Pair) → ((r : Pair) → Member r ps → p.left < r.left) → Rises ps → Rises (p ∷ ps)
rises_cons p ps a o m n q r first first d = absurd (omega arith)
rises_cons p ps a o m n q r first (later k) d = a r (at_member k)
rises_cons p ps a o m n q r (later h) first d = absurd (omega arith)
rises_cons p ps a o m n q r (later {i = i} h) (later {i = j} k) d = o i j q r h k (omega arith)

pub rises_head : (p : Pair) (ps : List Pair) → Rises (p ∷ ps) → (r : Pair) → Member r ps → p.left < r.left
rises_head p ps o r h =
    let k = member_at h in
    o 0 (suc k.0) p r first (later k.1) (omega arith)

pub rises_tail : (p : Pair) (ps : List Pair) → Rises (p ∷ ps) → Rises ps
rises_tail p ps o m n q r h k d = o (suc m) (suc n) q r (later h) (later k) (omega arith)

-- Refusal 3: `first_lone` is the first lone CR or LF, and the length where there is none. Assumes nothing.
use mathlib.Core.Path.{◌≡◌, refl}
use mathlib.Core.Bool.{Bool, true, false}
use mathlib.Core.List.{List, [], ◌∷◌}
use Prim.Native.Nat.{ℕ, zero, suc, ◌<◌, ◌≤◌}
use native.Mathlib.Nat.{le_of_suc-le-suc, not-suc-le-zero}
use native.Mathlib.Omega.{arith}
use lib.Dec.{eqb}
use lib.ListN.{length, get_or}
use borrow.Author.Tests.{eqb-true, eqb-false}
use Rattle.octets.specs.Scan.{scan}
use Rattle.octets.proofs.Scans.{scan_le}
use Rattle.line_breaks.specs.Lone.{lone_step, first_lone}
use Rattle.reader_laws.specs.Lone.{Alone, cr, lf, before, Lone}

-- the k-th octet of l, where o stands before it
LoneAfter : ℕ → List ℕ → ℕ → Type 0
LoneAfter o l k = Alone (before o l k) (get_or l k 0) (get_or l (suc k) 0)

-- one octet on
shift : (o x : ℕ) (xs : List ℕ) (k : ℕ) → LoneAfter x xs k → LoneAfter o (x ∷ xs) (suc k)
unfolding before LoneAfter
shift o x xs zero h = h
shift o x xs (suc k) h = h

unshift : (o x : ℕ) (xs : List ℕ) (k : ℕ) → LoneAfter o (x ∷ xs) (suc k) → LoneAfter x xs k
unfolding before LoneAfter
unshift o x xs zero h = h
unshift o x xs (suc k) h = h

-- an octet that is neither CR nor LF is not alone
neither : {a b c : ℕ} → (b ≡ 13 → ⊥) → (b ≡ 10 → ⊥) → Alone a b c → ⊥
neither h g (cr e f) = h e
neither h g (lf e f) = g e

-- what holds of the first place: it is alone, and none before it is
record First (o : ℕ) (l : List ℕ) (n : ℕ) : Type 0 where
  here : n < length l → LoneAfter o l n
  none : (k : ℕ) → k < n → LoneAfter o l k → ⊥

stopped : (o : ℕ) (l : List ℕ) → LoneAfter o l 0 → First o l 0
stopped o l h = record { here = λ p. h; none = λ k p. absurd (not-suc-le-zero p) }

passed : (o x : ℕ) (xs : List ℕ) (n : ℕ) → (LoneAfter o (x ∷ xs) 0 → ⊥) → First x xs n → First o (x ∷ xs) (suc n)
passed o x xs n h f = record { here = λ p. shift o x xs n (f.here (le_of_suc-le-suc p)); none = each }
  where
    each : (k : ℕ) → k < suc n → LoneAfter o (x ∷ xs) k → ⊥
    each zero p a = h a
    each (suc k) p a = f.none k (le_of_suc-le-suc p) (unshift o x xs k a)

module _ (o x : ℕ) (ne : o ≡ 13 → ⊥) where
  -- the last octet
  one : (a b : Bool) → eqb x 10 ≡ a → eqb x 13 ≡ b → First o (x ∷ []) (scan lone_step (x ∷ []) 0)
  unfolding scan lone_step LoneAfter before
  one true b p q = simp p (stopped o (x ∷ []) (lf (eqb-true x 10 p) ne))
  one false true p q = simp (p, q) (stopped o (x ∷ []) (cr (eqb-true x 13 q) (λ z. omega arith)))
  one false false p q =
      simp (p, q) (passed o x [] 0 (neither (eqb-false x 13 q) (eqb-false x 10 p))
      (record { here = λ h. absurd (not-suc-le-zero h); none = λ k h. absurd (not-suc-le-zero h) }))

  -- two octets on
  two : (y : ℕ) (ys : List ℕ) (a b c : Bool) → eqb x 10 ≡ a → eqb x 13 ≡ b → eqb y 10 ≡ c
      → ((x ≡ 13 → ⊥) → First x (y ∷ ys) (scan lone_step (y ∷ ys) 0))
      → ((y ≡ 13 → ⊥) → First y ys (scan lone_step ys 0))
      → First o (x ∷ y ∷ ys) (scan lone_step (x ∷ y ∷ ys) 0)
  unfolding scan lone_step LoneAfter before
  two y ys true b c p q r f g = simp p (stopped o (x ∷ y ∷ ys) (lf (eqb-true x 10 p) ne))
  two y ys false true true p q r f g =
      let ex = eqb-true x 13 q in
      let ey = eqb-true y 10 r in
      simp (p, q, r) (passed o x (y ∷ ys) (suc (scan lone_step ys 0)) first
      (passed x y ys (scan lone_step ys 0) second (g (λ z. omega arith))))
    where
      first : Alone o x y → ⊥
      first (cr e h) = h (eqb-true y 10 r)
      first (lf e h) = eqb-false x 10 p e

      second : Alone x y (get_or ys 0 0) → ⊥
      second (cr e h) = omega (arith, eqb-true y 10 r)
      second (lf e h) = h (eqb-true x 13 q)
  two y ys false true false p q r f g = simp (p, q, r) (stopped o (x ∷ y ∷ ys) (cr (eqb-true x 13 q) (eqb-false y 10 r)))
  two y ys false false c p q r f g =
      simp (p, q) (passed o x (y ∷ ys) (scan lone_step (y ∷ ys) 0) (neither (eqb-false x 13 q) (eqb-false x 10 p)) (f (eqb-false x 13 q)))

first : (o : ℕ) (l : List ℕ) → (o ≡ 13 → ⊥) → First o l (scan lone_step l 0)
unfolding scan
first o [] ne = record { here = λ h. absurd (not-suc-le-zero h); none = λ k h. absurd (not-suc-le-zero h) }
first o (x ∷ []) ne = one o x ne (eqb x 10) (eqb x 13) refl refl
first o (x ∷ y ∷ ys) ne = two o x ne y ys (eqb x 10) (eqb x 13) (eqb y 10) refl refl refl (first x (y ∷ ys)) (first y ys)

module _ (i : List ℕ) where
  -- where it is an octet of the input, that octet is alone
  pub lone_here : first_lone i < length i → Lone i (first_lone i)
  unfolding first_lone Lone LoneAfter
  lone_here h = (first 0 i (λ e. omega arith)).here h

  -- none before it is
  pub lone_none : (k : ℕ) → k < first_lone i → Lone i k → ⊥
  unfolding first_lone Lone LoneAfter
  lone_none k h a = (first 0 i (λ e. omega arith)).none k h a

  -- else it is the length
  pub lone_inside : first_lone i ≤ length i
  unfolding first_lone
  lone_inside = scan_le lone_step i 0

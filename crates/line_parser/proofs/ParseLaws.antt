-- Readings taken apart and put together: what an accepted reading tells of its parts, and any number of parts. Assumes nothing.
use mathlib.Core.Path.{◌≡◌, refl, sym, ap, ◌∙◌}
use mathlib.Core.Bool.{Bool, true, false}
use mathlib.Core.List.{List, [], ◌∷◌}
use Prim.Native.Nat.{ℕ, zero, suc, ◌+◌, ◌-◌, ◌<◌, ◌≤◌}
use native.Mathlib.Nat.{not-suc-le-zero}
use native.Mathlib.Numerals.{sub-one}
use native.Mathlib.Omega.{arith}
use lib.Dec.{eqb}
use lib.ListN.{length, drop}
use lib.Seq.{drop-drop, drop-nil}
use Rattle.octets.specs.Pick.{pick}
use Rattle.octets.proofs.Bools.{clash}
use Rattle.line_parser.specs.Parse.{Parse, got, bad, next, guard, hd, many}

module _ {A : Type 0} where
  pub bad_got : {x : ℕ} {a : A} {k : ℕ} → bad x ≡ got a k → ⊥
  bad_got e = clash cc

  pub guard_inv : {C : Type 0} (t : Bool) (e : ℕ) (p : Parse A) {a : A} {k : ℕ} → guard t e p ≡ got a k
      → (t ≡ true → p ≡ got a k → C) → C
  guard_inv true e p h f = f refl h
  guard_inv false e p h f = absurd (bad_got h)

  pub pick_inv : {C : Type 0} (t : Bool) (p q : A) {r : A} → pick t p q ≡ r → (t ≡ true → p ≡ r → C) → (t ≡ false → q ≡ r → C) → C
  pick_inv true p q h f g = f refl h
  pick_inv false p q h f g = g refl h

  pub pick_yes : {t : Bool} (p q : A) → t ≡ true → pick t p q ≡ p
  pick_yes p q h = ap (λ (b : Bool). pick b p q) h

  pub pick_no : {t : Bool} (p q : A) → t ≡ false → pick t p q ≡ q
  pick_no p q h = ap (λ (b : Bool). pick b p q) h

  pub guard_yes : {t : Bool} (e : ℕ) (p : Parse A) → t ≡ true → guard t e p ≡ p
  guard_yes e p h = ap (λ (b : Bool). guard b e p) h

  pub guard_no : {t : Bool} (e : ℕ) (p : Parse A) → t ≡ false → guard t e p ≡ bad e
  guard_no e p h = ap (λ (b : Bool). guard b e p) h

module _ {A B : Type 0} where
  pub next_inv : {C : Type 0} (m : Parse A) (f : A → ℕ → Parse B) {b : B} {j : ℕ} → next m f ≡ got b j
      → ((a : A) (k : ℕ) → m ≡ got a k → f a k ≡ got b j → C) → C
  next_inv (got a k) f h g = g a k refl h
  next_inv (bad x) f h g = absurd (bad_got h)

  pub next_got : {m : Parse A} {a : A} {k : ℕ} (f : A → ℕ → Parse B) → m ≡ got a k → next m f ≡ f a k
  next_got f h = ap (λ t. next t f) h

  pub next_bad : {m : Parse A} {x : ℕ} (f : A → ℕ → Parse B) → m ≡ bad x → next m f ≡ bad x
  next_bad f h = ap (λ t. next t f) h

pub drop_suc : (n : ℕ) (l : List ℕ) → drop n (drop 1 l) ≡ drop (suc n) l
drop_suc n [] = drop-nil n
drop_suc n (x ∷ xs) = refl

module _ {A : Type 0} (c : ℕ) (p : List ℕ → Parse A) (ok : ℕ → Bool) (e : List ℕ → ℕ) where
  -- one turn: no part follows, or a part that is refused, or one that is taken
  pub many_end : (n : ℕ) (l : List ℕ) → 0 < n → eqb (hd l) c ≡ false → many c p ok e n l ≡ guard (ok (hd l)) (e l) (got [] 0)
  unfolding many
  many_end zero l h t = absurd (not-suc-le-zero h)
  many_end (suc n) l h t = pick_no _ _ t

  pub many_bad : (n : ℕ) (l : List ℕ) (x : ℕ) → 0 < n → eqb (hd l) c ≡ true → p (drop 1 l) ≡ bad x → many c p ok e n l ≡ bad x
  unfolding many
  many_bad zero l x h t q = absurd (not-suc-le-zero h)
  many_bad (suc n) l x h t q = pick_yes _ _ t ∙ next_bad _ q

  pub many_on : (n : ℕ) (l : List ℕ) (a : A) (k : ℕ) → 0 < n → eqb (hd l) c ≡ true → p (drop 1 l) ≡ got a k
      → many c p ok e n l ≡ next (many c p ok e (n - 1) (drop k (drop 1 l))) (λ xs j. got (a ∷ xs) (suc (k + j)))
  unfolding many
  many_on zero l a k h t q = absurd (not-suc-le-zero h)
  many_on (suc n) l a k h t q = rw sub-one (pick_yes _ _ t ∙ next_got _ q)

  -- after the parts stands an octet that ok allows
  pub many_stop : (n : ℕ) (l : List ℕ) (xs : List A) (k : ℕ) → many c p ok e n l ≡ got xs k → ok (hd (drop k l)) ≡ true
  unfolding many
  many_stop zero l xs k h = absurd (bad_got h)
  many_stop (suc n) l xs k h =
      pick_inv (eqb (hd l) c) _ _ h
      (λ t q. next_inv (p (drop 1 l)) _ q (λ a i p₁ q₁. next_inv (many c p ok e n (drop i (drop 1 l))) _ q₁ (λ ys j p₂ q₂.
      let ek : k ≡ suc (i + j) = cc in
      let there : drop j (drop i (drop 1 l)) ≡ drop k l = rw ek (drop-drop j i (drop 1 l) ∙ drop_suc (i + j) l) in
      rw (sym there) (many_stop n (drop i (drop 1 l)) ys j p₂))))
      (λ t q. guard_inv (ok (hd l)) _ _ q (λ t₁ q₁.
      let ek : k ≡ 0 = cc in
      rw ek t₁))

  -- each part takes an octet at least
  pub many_count : (n : ℕ) (l : List ℕ) (xs : List A) (k : ℕ) → many c p ok e n l ≡ got xs k → length xs ≤ k
  unfolding many
  many_count zero l xs k h = absurd (bad_got h)
  many_count (suc n) l xs k h =
      pick_inv (eqb (hd l) c) _ _ h
      (λ t q. next_inv (p (drop 1 l)) _ q (λ a i p₁ q₁. next_inv (many c p ok e n (drop i (drop 1 l))) _ q₁ (λ ys j p₂ q₂.
      let ea : xs ≡ a ∷ ys = cc in
      let ek : k ≡ suc (i + j) = cc in
      rw (ea, ek) (omega (arith, many_count n (drop i (drop 1 l)) ys j p₂)))))
      (λ t q. guard_inv (ok (hd l)) _ _ q (λ t₁ q₁.
      let ea : xs ≡ [] = cc in
      rw ea (omega arith)))

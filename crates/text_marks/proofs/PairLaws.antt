-- The laws of a settled text: what its octets are, by the octet before. Assumes nothing.
use mathlib.Core.Path.{◌≡◌, refl, sym, subst, ◌∙◌}
use mathlib.Core.Bool.{Bool, true, false, not, ◌&&◌, ◌||◌, or-false, true≢false}
use mathlib.Core.List.{List, [], ◌∷◌}
use Prim.Native.Nat.{ℕ, suc, ◌+◌, ◌<◌, ◌≤◌}
use native.Mathlib.Numerals.{add-one}
use lib.Dec.{eqb}
use lib.Bits.{bit_or}
use lib.ListN.{length, get_or, drop, drop_of_length-le}
use lib.Seq.{drop-cons}
use borrow.Author.Tests.{not-true, not-false, eqb-true}
use Rattle.octets.specs.Classes.{bit}
use Rattle.octets.proofs.Bools.{and_both}
use Rattle.octets.proofs.Marks.{mark_step}
use Rattle.text_marks.specs.Marks.{backslash}
use Rattle.text_marks.specs.Pairs.{coded, unsettled, settled}

module _ (listed : Bool) (s : List ℕ) (i : ℕ) where
  pub settled_step : i < length s → (p a x : ℕ) → x ≡ bit (unsettled listed p (get_or s i 0)) 1
      → (eqb a 0 && settled listed p (drop i s)) ≡ (eqb (bit_or a x) 0 && settled listed (get_or s i 0) (drop (i + 1) s))
  unfolding settled
  settled_step h p a x e =
      rw (add-one, drop-cons s i 0) (mark_step a x (unsettled listed p (get_or s i 0)) (settled listed (get_or s i 0) (drop (suc i) s)) e)

  pub settled_end : length s ≤ i → (p : ℕ) → settled listed p (drop i s) ≡ not (backslash p)
  unfolding settled
  settled_end h p = rw (drop_of_length-le s h)

-- what holds of a comma, a semicolon and both letters holds of what is coded
pub coded_is : (Q : ℕ → Type 0) → Q 44 → Q 59 → Q 110 → Q 78 → (x : ℕ) → coded x ≡ true → Q x
coded_is Q comma semicolon small capital x = by (eqb x 44) (eqb x 59) (eqb x 110) (eqb x 78) refl refl refl refl
  where
    its : (k : ℕ) → eqb x k ≡ true → Q k → Q x
    its k e q = subst Q (sym (eqb-true x k e)) q

    by : (a b c d : Bool) → eqb x 44 ≡ a → eqb x 59 ≡ b → eqb x 110 ≡ c → eqb x 78 ≡ d → ((a || b) || (c || d)) ≡ true → Q x
    by true b c d e f g h z = its 44 e comma
    by false true c d e f g h z = its 59 f semicolon
    by false false true d e f g h z = its 110 g small
    by false false false true e f g h z = its 78 h capital
    by false false false false e f g h z = absurd (true≢false (sym z))

coded_flat : (x : ℕ) → coded x ≡ true → backslash x ≡ false
coded_flat = coded_is (λ k. backslash k ≡ false) refl refl refl refl

-- what follows an octet that is no backslash, and what follows a backslash
after_octet : (listed : Bool) (p x : ℕ) → backslash p ≡ false → unsettled listed p x ≡ (eqb x 44 && not listed)
unfolding unsettled
after_octet listed p x e = simp e

after_backslash : (listed : Bool) (p x : ℕ) → backslash p ≡ true → unsettled listed p x ≡ not (coded x)
unfolding unsettled
after_backslash listed p x e = simp (e, or-false)

-- a settled text is empty, or starts with an octet that stands for itself or with an escape, before a settled text
module _ (listed : Bool) (P : List ℕ → Type 0) (nothing : P [])
    (octet : (x : ℕ) (xs : List ℕ) → backslash x ≡ false → (eqb x 44 && not listed) ≡ false → P xs → P (x ∷ xs))
    (escape : (x y : ℕ) (ys : List ℕ) → backslash x ≡ true → coded y ≡ true → backslash y ≡ false → P ys → P (x ∷ y ∷ ys)) where
  from : (p : ℕ) (l : List ℕ) → backslash p ≡ false → settled listed p l ≡ true → P l
  unfolding settled
  from p [] e s = nothing
  from p (x ∷ []) e s =
      let h = and_both (not (unsettled listed p x)) (not (backslash x)) s in
      octet x [] (not-true (backslash x) h.1) (sym (after_octet listed p x e) ∙ not-true (unsettled listed p x) h.0) nothing
  from p (x ∷ y ∷ ys) e s = by (backslash x) refl (from x (y ∷ ys)) (from y ys)
    where
      both : (not (unsettled listed p x) ≡ true) × ((not (unsettled listed x y) && settled listed y ys) ≡ true)
      both = and_both (not (unsettled listed p x)) (not (unsettled listed x y) && settled listed y ys) s

      more : (not (unsettled listed x y) ≡ true) × (settled listed y ys ≡ true)
      more = and_both (not (unsettled listed x y)) (settled listed y ys) both.1

      by : (t : Bool) → backslash x ≡ t → (backslash x ≡ false → settled listed x (y ∷ ys) ≡ true → P (y ∷ ys)) → (backslash y ≡ false → settled listed y ys ≡ true → P ys) → P (x ∷ y ∷ ys)
      by true b f g =
          let k = not-false (coded y) (sym (after_backslash listed x y b) ∙ not-true (unsettled listed x y) more.0) in
          escape x y ys b k (coded_flat y k) (g (coded_flat y k) more.1)
      by false b f g = octet x (y ∷ ys) b (sym (after_octet listed p x e) ∙ not-true (unsettled listed p x) both.0) (f b both.1)

  pub settled_all : (l : List ℕ) → settled listed 0 l ≡ true → P l
  settled_all l s = from 0 l refl s

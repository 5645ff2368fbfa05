-- The laws of a lone CR or LF and of paired ones at a place of a list, and of the last two octets. Assumes nothing.
use mathlib.Core.Path.{◌≡◌, refl, sym, ap, ◌∙◌}
use mathlib.Core.Bool.{Bool, true, false, not, ◌&&◌, and-false, and-true, true≢false}
use mathlib.Core.List.{List, [], ◌∷◌}
use Prim.Native.Nat.{ℕ, suc, ◌+◌, ◌-◌, ◌<◌, ◌≤◌}
use native.Mathlib.Nat.{add-zero}
use native.Mathlib.Omega.{arith}
use lib.Dec.{eqb, ltb}
use lib.ListN.{length, get_or, drop, get_or-eq_default, drop_of_length-le}
use lib.Seq.{get_or-drop, drop-cons}
use borrow.Author.Tests.{ne_eqb, eqb-true, ltb-true, ltb-false, le-ltb}
use Rattle.std.specs.List.{ends_with}
use Rattle.std.proofs.lemmas.Bool.Decides.{nat_tests}
use Rattle.octets.specs.Pick.{pick}
use Rattle.octets.specs.Scan.{scan}
use Rattle.line_breaks.specs.Lone.{lone_step, first_lone, differ, split_at, Joined, paired_after, paired, ends_cr_lf}

module _ (s : List ℕ) (i : ℕ) where
  pub step_eq : lone_step (drop i s) ≡ pick (eqb (get_or s i 0) 10) 0 (pick (eqb (get_or s i 0) 13) (pick (eqb (get_or s (i + 1) 0) 10) 2 0) 1)
  unfolding lone_step
  step_eq = simp (get_or-drop, add-zero)

  second : eqb (get_or s (i + 1) 0) 10 ≡ true → length s ≤ i + 1 → ⊥
  second e h =
      let z : get_or s (i + 1) 0 ≡ 0 = get_or-eq_default s 0 h in
      omega (arith, eqb-true (get_or s (i + 1) 0) 10 e)

  within : (a b t : Bool) (n : ℕ) → eqb (get_or s (i + 1) 0) 10 ≡ t → i < length s → n ≡ pick a 0 (pick b (pick t 2 0) 1) → i + n ≤ length s
  within true b t n e h q = omega arith
  within false true true n e h q = omega (arith, second e)
  within false true false n e h q = omega arith
  within false false t n e h q = omega arith

  -- a step stays within the list
  pub step_inside : (n : ℕ) → n ≡ lone_step (drop i s) → i < length s → i + n ≤ length s
  step_inside n e h = within (eqb (get_or s i 0) 10) (eqb (get_or s i 0) 13) (eqb (get_or s (i + 1) 0) 10) n refl h (e ∙ step_eq)

pub pair_none : (s : List ℕ) → length s ≡ 0 → paired s ≡ true
unfolding paired paired_after
pair_none [] h = refl
pair_none (x ∷ xs) h = absurd (omega arith)

pub pair_start : (s : List ℕ) → (length s ≡ 0 → ⊥) → (get_or s 0 0 ≡ 10 → ⊥) → paired s ≡ paired_after (eqb (get_or s 0 0) 13) (drop 1 s)
unfolding paired paired_after
pair_start [] h n = absurd (h refl)
pair_start (x ∷ xs) h n = simp (ne_eqb x 10 n)

both : (a b : Bool) → a ≡ false → b ≡ true → (not a && b) ≡ true
both true b e f = absurd (true≢false e)
both false b e f = f

-- no pair is split and CR is not the last octet
after_joined : (x : ℕ) (xs : List ℕ) → (get_or (x ∷ xs) (length xs) 0 ≡ 13 → ⊥) → Joined (x ∷ xs) (length xs) → paired_after (eqb x 13) xs ≡ true
unfolding paired_after split_at
after_joined x [] h j = ap not (ne_eqb x 13 h)
after_joined x (y ∷ ys) h j =
    both (differ (eqb x 13) (eqb y 10)) (paired_after (eqb y 13) ys) (j 0 (omega arith))
    (after_joined y ys h
    (λ k g. let q : suc (k + 1) ≡ suc k + 1 = omega arith in
    ap (λ (m : ℕ). differ (eqb (get_or (y ∷ ys) k 0) 13) (eqb (get_or (x ∷ y ∷ ys) m 0) 10)) q ∙ j (suc k) (omega arith)))

-- a text that starts with no LF and ends in no CR, and no pair of it is split
pub joined_paired : (s : List ℕ) → (length s ≡ 0 → ⊥) → (get_or s 0 0 ≡ 10 → ⊥) → (get_or s (length s - 1) 0 ≡ 13 → ⊥) → Joined s (length s - 1) → paired s ≡ true
joined_paired [] h n l j = absurd (h refl)
joined_paired (x ∷ xs) h n l j =
    let q : length (x ∷ xs) - 1 ≡ length xs = omega arith in
    pair_start (x ∷ xs) h n ∙ after_joined x xs (λ e. l (ap (λ (m : ℕ). get_or (x ∷ xs) m 0) q ∙ e)) (λ k g. j k (omega arith))

module _ (s : List ℕ) where
  -- pairs up to a and pairs from i on
  pub joined_on : (i n m : ℕ) → i ≤ n → Joined s n → ((k : ℕ) → k < m → split_at s (i + k) ≡ false) → Joined s (i + m)
  joined_on i n m h f g k l = by (ltb k n) refl
    where
      by : (t : Bool) → ltb k n ≡ t → split_at s k ≡ false
      by true e = f k (ltb-true k n e)
      by false e = let q : i + (k - i) ≡ k = omega (arith, ltb-false k n e) in ap (split_at s) (sym q) ∙ g (k - i) (omega (arith, ltb-false k n e))

  pub joined_none : Joined s 0
  joined_none k h = absurd (omega arith)

-- two octets on, by whether they are LF or CR
module _ (x y : ℕ) (ys : List ℕ) where
  pair_two : (a b t : Bool) → eqb x 10 ≡ a → eqb x 13 ≡ b → eqb y 10 ≡ t
      → (not (differ false a) && (not (differ b t) && paired_after (eqb y 13) ys)) ≡ true
      → (paired_after false (y ∷ ys) ≡ true → scan lone_step (y ∷ ys) 0 ≡ suc (length ys))
      → (paired_after false ys ≡ true → scan lone_step ys 0 ≡ length ys)
      → scan lone_step (x ∷ y ∷ ys) 0 ≡ suc (suc (length ys))
  unfolding paired_after scan lone_step
  pair_two true b t p q r e f g = absurd (true≢false (sym e))
  pair_two false true true p q r e f g = simp (p, q, r) (ap (λ (n : ℕ). suc (suc n)) (g (ap (λ (k : ℕ). paired_after (eqb k 13) ys) (sym (eqb-true y 10 r)) ∙ e)))
  pair_two false true false p q r e f g = absurd (true≢false (sym e))
  pair_two false false t p q r e f g = simp (p, q) (ap suc (f (rw r e)))

-- an octet alone
pair_one : (x : ℕ) (a b : Bool) → eqb x 10 ≡ a → eqb x 13 ≡ b → (not (differ false a) && not b) ≡ true → scan lone_step (x ∷ []) 0 ≡ 1
unfolding scan lone_step
pair_one x true b p q e = absurd (true≢false (sym e))
pair_one x false true p q e = absurd (true≢false (sym e))
pair_one x false false p q e = simp (p, q)

no_lone : (l : List ℕ) → paired_after false l ≡ true → scan lone_step l 0 ≡ length l
unfolding paired_after scan
no_lone [] e = refl
no_lone (x ∷ []) e = pair_one x (eqb x 10) (eqb x 13) refl refl e
no_lone (x ∷ y ∷ ys) e = pair_two x y ys (eqb x 10) (eqb x 13) (eqb y 10) refl refl refl e (no_lone (y ∷ ys)) (no_lone ys)

-- where LF stands exactly after each CR, neither is alone
pub paired_all : (s : List ℕ) → paired s ≡ true → first_lone s ≡ length s
unfolding paired first_lone
paired_all s e = no_lone s e

turned : (a b : ℕ) → eqb a b ≡ eqb b a
turned a b = grind (arith, nat_tests)

tail_two : (s : List ℕ) (i : ℕ) → i + 2 ≡ length s → drop i s ≡ get_or s i 0 ∷ get_or s (suc i) 0 ∷ []
tail_two s i h =
    let none : drop (suc (suc i)) s ≡ [] = drop_of_length-le s {i = suc (suc i)} (omega arith) in
    drop-cons s i 0 (omega arith) ∙ ap (λ (l : List ℕ). get_or s i 0 ∷ l) (drop-cons s (suc i) 0 (omega arith) ∙ ap (λ (l : List ℕ). get_or s (suc i) 0 ∷ l) none)

ends_long : (s : List ℕ) (i : ℕ) → i + 2 ≡ length s → ends_with eqb s (13 ∷ 10 ∷ []) ≡ ends_cr_lf s
unfolding ends_cr_lf
ends_long s i h =
    let two : length s - 2 ≡ i = omega arith in
    let one : length s - 1 ≡ suc i = omega arith in
    let long : ltb (length s) 2 ≡ false = le-ltb (length s) 2 (omega arith) in
    simp (two, one, long, tail_two s i h, turned 13, turned 10, and-true)

-- what the library's test of the last two octets says
pub ends_is : (s : List ℕ) → ends_with eqb s (13 ∷ 10 ∷ []) ≡ ends_cr_lf s
unfolding ends_cr_lf
ends_is [] = refl
ends_is (x ∷ []) = simp (turned 13, and-false)
ends_is (x ∷ y ∷ r) = ends_long (x ∷ y ∷ r) (length r) (omega arith)

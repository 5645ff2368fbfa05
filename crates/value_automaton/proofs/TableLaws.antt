-- The tests by which a table is the scanner's, each computed over the whole table. Assumes nothing.
use mathlib.Core.Path.{◌≡◌, refl, sym, ap, subst, ◌∙◌}
use mathlib.Core.Bool.{Bool, true, false, ◌&&◌, false≢true}
use mathlib.Core.List.{List, [], ◌∷◌}
use Prim.Native.Nat.{ℕ, zero, suc, ◌+◌, ◌-◌, ◌<◌, ◌≤◌, ◌/◌, ◌%◌}
use native.Mathlib.Nat.{add-zero, zero-add}
use native.Mathlib.Omega.{arith}
use lib.Dec.{leb, ltb}
use lib.ListN.{length, get_or, take, drop, length-drop}
use lib.Seq.{get_or-drop}
use borrow.Author.Tests.{leb-true, ltb-true}
use Rattle.octets.specs.Pick.{pick}
use Rattle.octets.specs.Classes.{digit as is_digit}
use Rattle.value_kinds.specs.Octets.{Octets, any, plain, inner, escapee, backslash, comma, semicolon, colon, letter, scheme, graphic, digit, sex, the_v, the_c, the_a, the_r, the_d, four, point, nought, the_t, the_z, minus, sign, figures, among, holds}
use Rattle.value_kinds.specs.Shapes.{derivative}
use Rattle.value_automaton.specs.States.{state_count, stride, step_count, state_shape, representative, Whole}
use Rattle.octets.proofs.Bools.{and_both}
use Rattle.octets.proofs.Upto.{upto, along, entries}

-- the sets that an octet is in
unfoldable pub marks : ℕ → List Bool
marks b =
    holds any b ∷ holds plain b ∷ holds inner b ∷ holds escapee b ∷ holds backslash b ∷ holds comma b ∷ holds semicolon b ∷ holds colon b ∷ holds letter b ∷ holds scheme b ∷ holds graphic b ∷ holds digit b ∷ holds sex b ∷ holds the_v b ∷ holds the_c b ∷ holds the_a b ∷ holds the_r b ∷ holds the_d b ∷ holds four b ∷ holds point b ∷ holds nought b ∷ holds the_t b ∷ holds the_z b ∷ holds minus b ∷ holds sign b ∷ []

-- a digit as it is, and 0 for any other octet
unfoldable pub figure_of : ℕ → ℕ
figure_of b = pick (is_digit b) b 0

same_figure : (s t : Bool) (x y : ℕ) (d : ℕ) (ds : List ℕ) → s ≡ t → pick s x 0 ≡ pick t y 0
    → (s && among (x - 48) (d % 10 ∷ ds)) ≡ (t && among (y - 48) (d % 10 ∷ ds))
same_figure true true x y d ds e f = ap (λ (n : ℕ). among (n - 48) (d % 10 ∷ ds)) f
same_figure true false x y d ds e f = absurd (false≢true (sym e))
same_figure false true x y d ds e f = absurd (false≢true e)
same_figure false false x y d ds e f = refl

-- octets with the same marks and the same digit are in the same sets
module _ (x y : ℕ) (m : marks x ≡ marks y) (f : figure_of x ≡ figure_of y) where
  mark : (k : ℕ) → get_or (marks x) k false ≡ get_or (marks y) k false
  mark k = ap (λ (l : List Bool). get_or l k false) m

  pub in_same : (p : Octets) → holds p x ≡ holds p y
  unfolding marks holds figure_of
  in_same any = mark 0
  in_same plain = mark 1
  in_same inner = mark 2
  in_same escapee = mark 3
  in_same backslash = mark 4
  in_same comma = mark 5
  in_same semicolon = mark 6
  in_same colon = mark 7
  in_same letter = mark 8
  in_same scheme = mark 9
  in_same graphic = mark 10
  in_same digit = mark 11
  in_same sex = mark 12
  in_same the_v = mark 13
  in_same the_c = mark 14
  in_same the_a = mark 15
  in_same the_r = mark 16
  in_same the_d = mark 17
  in_same four = mark 18
  in_same point = mark 19
  in_same nought = mark 20
  in_same the_t = mark 21
  in_same the_z = mark 22
  in_same minus = mark 23
  in_same sign = mark 24
  in_same (figures d ds) = same_figure (is_digit x) (is_digit y) x y d ds (mark 11) f

below : (n : ℕ) (t : List ℕ) (m : ℕ) → take n (along (λ x. ltb x m) t) ≡ upto (λ j. true) 0 n → (k : ℕ) → k < n → get_or t k 0 < m
below n t m e k h = ltb-true (get_or t k 0) m (entries (λ x. ltb x m) (λ j. true) t n e k h)

-- the entries less their columns, the first of them in column i
unfoldable pub less : ℕ → List ℕ → List ℕ
less i [] = []
less i (x ∷ xs) = (x - i % stride) ∷ less (suc i) xs

less_at : (i : ℕ) (t : List ℕ) (k : ℕ) → get_or (less i t) k 0 ≡ get_or t k 0 - (i + k) % stride
unfolding less
less_at i [] k = sub_none ((i + k) % stride)
  where
    sub_none : (n : ℕ) → 0 ≡ 0 - n
    sub_none n = omega arith
less_at i (x ∷ xs) zero = ap (λ (n : ℕ). x - n % stride) (sym (add-zero i))
less_at i (x ∷ xs) (suc k) = less_at (suc i) xs k ∙ ap (λ (n : ℕ). get_or xs k 0 - n % stride) (omega arith)

-- each entry is its column at least, the first of them in column i
unfoldable pub covers : ℕ → List ℕ → Bool
covers i [] = true
covers i (x ∷ xs) = leb (i % stride) x && covers (suc i) xs

covers_at : (i : ℕ) (t : List ℕ) → covers i t ≡ true → (k : ℕ) → k < length t → (i + k) % stride ≤ get_or t k 0
unfolding covers
covers_at i [] e k h = absurd (omega arith)
covers_at i (x ∷ xs) e zero h =
    let here = leb-true (i % stride) x (and_both (leb (i % stride) x) (covers (suc i) xs) e).0 in
    subst (λ (n : ℕ). n % stride ≤ x) (sym (add-zero i)) here
covers_at i (x ∷ xs) e (suc k) h =
    let rest = covers_at (suc i) xs (and_both (leb (i % stride) x) (covers (suc i) xs) e).1 k (omega arith) in
    let same : suc i + k ≡ i + suc k = omega arith in
    subst (λ (n : ℕ). n % stride ≤ get_or xs k 0) same rest

module _ (t : List ℕ) where
  abbrev steps : List ℕ
  steps = drop 256 t

  entry : (k : ℕ) → get_or (less 0 steps) k 0 ≡ get_or t (256 + k) 0 - k % stride
  entry k = less_at 0 steps k ∙ rw (zero-add, get_or-drop 256 t k 0)

  pub scanner :
      take 256 (along (λ x. ltb x stride) t) ≡ upto (λ j. true) 0 256
      → take 256 (along (λ x. marks (representative x)) t) ≡ upto marks 0 256
      → take 256 (along (λ x. figure_of (representative x)) t) ≡ upto figure_of 0 256
      → length steps ≡ step_count
      → covers 0 steps ≡ true
      → take step_count (along (λ x. ltb x state_count) (less 0 steps)) ≡ upto (λ j. true) 0 step_count
      → take step_count (along state_shape (less 0 steps)) ≡ upto (λ j. derivative (representative (j % stride)) (state_shape (j / stride))) 0 step_count
      → Whole t
  scanner a b f size over c d =
      record {
        size = omega (arith, length-drop 256 t);
        sort_low = below 256 t stride a;
        sort = λ x h p.
            in_same x (representative (get_or t x 0)) (sym (entries (λ y. marks (representative y)) marks t 256 b x h))
            (sym (entries (λ y. figure_of (representative y)) figure_of t 256 f x h)) p;
        step_over = λ k h. rw (zero-add, get_or-drop 256 t k 0) at (covers_at 0 steps over k (omega (arith, size)));
        step_low = λ k h. subst (λ (q : ℕ). q < state_count) (entry k) (below step_count (less 0 steps) state_count c k h);
        step = λ k h.
            ap state_shape (sym (entry k))
            ∙ entries state_shape (λ j. derivative (representative (j % stride)) (state_shape (j / stride))) (less 0 steps) step_count d k h;
      }

-- Whole characters, octet by octet, with the octets left of the character begun; a text whose first bad octet is its end is such.
-- Assumes nothing.
use mathlib.Core.Path.{◌≡◌, refl, sym, ap, ◌∙◌}
use mathlib.Core.Bool.{Bool, true, false, ◌&&◌, ◌||◌}
use mathlib.Core.List.{List, [], ◌∷◌, ◌++◌}
use Prim.Native.Nat.{ℕ, zero, suc, ◌<◌, ◌≤◌}
use native.Mathlib.Nat.{le_of_suc-le-suc, not-suc-le-zero}
use native.Mathlib.Omega.{arith}
use lib.Dec.{leb, ltb, eqb}
use lib.ListN.{length, get_or, get_or-append, length-append}
use borrow.Author.Tests.{ltb-false, leb-true, lt-ltb, le-ltb, le-leb}
use Rattle.octets.specs.Pick.{pick}
use Rattle.octets.specs.Scan.{after, scan}
use Rattle.octets.specs.Classes.{within, valued}
use Rattle.octets.proofs.Bools.{clash}
use Rattle.utf8.specs.Characters.{length_by, second, tail, rest, char_length, allowed, unit, first_bad}

-- k octets are left of a character that was begun; then whole characters follow, each with a first octet that p allows
pub data Chars (p : ℕ → Bool) : ℕ → List ℕ → Type 0 where
  end : Chars p 0 []
  start : {x m : ℕ} {xs : List ℕ} → p x ≡ true → char_length (x ∷ xs) ≡ suc m → Chars p m xs → Chars p 0 (x ∷ xs)
  inner : {x k : ℕ} {xs : List ℕ} → tail x ≡ true → Chars p k xs → Chars p (suc k) (x ∷ xs)

pub nope : true ≡ false → ⊥
nope z = clash cc

and_left : (a b : Bool) → a && b ≡ true → a ≡ true
and_left true b e = refl
and_left false b e = e

and_right : (a b : Bool) → a && b ≡ true → b ≡ true
and_right true b e = e
and_right false b e = absurd (nope (sym e))

pick_true : (t : Bool) (n m : ℕ) → pick t n 0 ≡ suc m → (t ≡ true) × (n ≡ suc m)
pick_true true n m e = (refl, e)
pick_true false n m e = absurd (omega arith)

-- what a character of n octets is
record Begun (n : ℕ) (l : List ℕ) : Type 0 where
  size : length_by (get_or l 0 0) ≡ n
  fits : n ≤ length l
  good : rest n l ≡ true

char_out : (l : List ℕ) (m : ℕ) → char_length l ≡ suc m → Begun (suc m) l
unfolding char_length
char_out l m e =
    let n = length_by (get_or l 0 0) in
    let b = pick_true (leb n (length l) && rest n l) n m e in
    let f = leb-true n (length l) (and_left (leb n (length l)) (rest n l) b.0) in
    record { size = b.1; fits = rw (sym b.1) f; good = rw (sym b.1) (and_right (leb n (length l)) (rest n l) b.0) }

char_in : (l : List ℕ) (m : ℕ) → Begun (suc m) l → char_length l ≡ suc m
unfolding char_length
char_in l m u = simp (u.size, le-leb (suc m) (length l) u.fits, u.good)

pub char_inside : (l : List ℕ) (m : ℕ) → char_length l ≡ suc m → suc m ≤ length l
char_inside l m e = (char_out l m e).fits

-- where n octets agree, so does their rest
or_same : (n k : ℕ) (a b : Bool) → (k ≤ n → a ≡ b) → (ltb n k || a) ≡ (ltb n k || b)
or_same n k a b h = go (ltb n k) refl
  where
    go : (t : Bool) → ltb n k ≡ t → (t || a) ≡ (t || b)
    go true e = refl
    go false e = h (ltb-false n k e)

and_same : (a b c d : Bool) → a ≡ b → c ≡ d → (a && c) ≡ (b && d)
and_same a b c d e f = cc

module _ (l l' : List ℕ) (m : ℕ) (same : (i : ℕ) → i < suc m → get_or l i 0 ≡ get_or l' i 0) where
  rest_same : rest (suc m) l ≡ rest (suc m) l'
  unfolding rest
  rest_same =
      and_same _ _ _ _
      (or_same (suc m) 2 (second (get_or l 0 0) (get_or l 1 0)) (second (get_or l' 0 0) (get_or l' 1 0)) (λ h. rw (same 0 (omega arith), same 1 (omega arith))))
      (and_same _ _ _ _
      (or_same (suc m) 3 (tail (get_or l 2 0)) (tail (get_or l' 2 0)) (λ h. ap tail (same 2 (omega arith))))
      (or_same (suc m) 4 (tail (get_or l 3 0)) (tail (get_or l' 3 0)) (λ h. ap tail (same 3 (omega arith)))))

  -- a character is known by its own octets
  pub char_same : char_length l ≡ suc m → suc m ≤ length l' → char_length l' ≡ suc m
  char_same e h =
      let u = char_out l m e in
      char_in l' m (record { size = ap length_by (sym (same 0 (omega arith))) ∙ u.size; fits = h; good = sym rest_same ∙ u.good })

-- a character of a list, and of the list with more behind it
pub char_more : (p t : List ℕ) (m : ℕ) → char_length p ≡ suc m → char_length (p ++ t) ≡ suc m
char_more p t m e =
    let f = char_inside p m e in
    char_same p (p ++ t) m (λ i h. sym (get_or-append p t 0 i (omega arith))) e (simp length-append (omega arith))

pub char_less : (p t : List ℕ) (m : ℕ) → suc m ≤ length p → char_length (p ++ t) ≡ suc m → char_length p ≡ suc m
char_less p t m f e = char_same (p ++ t) p m (λ i h. get_or-append p t 0 i (omega arith)) e f

-- an octet that is no first one
length_by_tail : (x : ℕ) → 0x80 ≤ x → x ≤ 0xbf → length_by x ≡ 0
unfolding length_by
length_by_tail x lo hi = simp (le-ltb x 0x80 lo, lt-ltb x 0xc2 (omega arith))

pub tail_range : (x : ℕ) → tail x ≡ true → (0x80 ≤ x) × (x ≤ 0xbf)
unfolding tail
tail_range x e = (leb-true 0x80 x (and_left _ _ e), leb-true x 0xbf (and_right (leb 0x80 x) _ e))

pick_same : (t : Bool) → pick {A = ℕ} t 0 0 ≡ 0
pick_same true = refl
pick_same false = refl

pub tail_none : (x : ℕ) (xs : List ℕ) → tail x ≡ true → char_length (x ∷ xs) ≡ 0
unfolding char_length
tail_none x xs e = let r = tail_range x e in simp (length_by_tail x r.0 r.1, pick_same)

pub first_not : (x m : ℕ) (xs : List ℕ) → char_length (x ∷ xs) ≡ suc m → tail x ≡ false
first_not x m xs e = go (tail x) refl
  where
    go : (t : Bool) → tail x ≡ t → t ≡ false
    go true h = let z : 0 ≡ suc m = sym (tail_none x xs h) ∙ e in absurd (omega arith)
    go false h = refl

-- the octets after the first
within_in : (lo hi c : ℕ) → 0x80 ≤ lo → hi ≤ 0xbf → within lo hi c ≡ true → tail c ≡ true
unfolding tail
within_in lo hi c a b e =
    let p = leb-true lo c (and_left _ _ e) in
    let q = leb-true c hi (and_right (leb lo c) _ e) in
    simp (le-leb 0x80 c (omega arith), le-leb c 0xbf (omega arith))

pick_tail : (t a b : Bool) (c : ℕ) → (a ≡ true → tail c ≡ true) → (b ≡ true → tail c ≡ true) → pick t a b ≡ true → tail c ≡ true
pick_tail true a b c f g e = f e
pick_tail false a b c f g e = g e

second_tail : (b c : ℕ) → second b c ≡ true → tail c ≡ true
unfolding second
second_tail b c =
    pick_tail (eqb b 0xe0) _ _ c (within_in 0xa0 0xbf c (omega arith) (omega arith))
    (pick_tail (eqb b 0xed) _ _ c (within_in 0x80 0x9f c (omega arith) (omega arith))
    (pick_tail (eqb b 0xf0) _ _ c (within_in 0x90 0xbf c (omega arith) (omega arith))
    (pick_tail (eqb b 0xf4) _ _ c (within_in 0x80 0x8f c (omega arith) (omega arith)) (within_in 0x80 0xbf c (omega arith) (omega arith)))))

or_right : (n k : ℕ) (a : Bool) → k ≤ n → (ltb n k || a) ≡ true → a ≡ true
or_right n k a h e = (rw (le-ltb n k h) at e)

length_by_four : (x : ℕ) → length_by x ≤ 4
unfolding length_by
length_by_four x = le4 (ltb x 0x80) 1 _ (omega arith) (le4 (ltb x 0xc2) 0 _ (omega arith) (le4 (ltb x 0xe0) 2 _ (omega arith) (le4 (ltb x 0xf0) 3 _ (omega arith) (le4 (ltb x 0xf5) 4 0 (omega arith) (omega arith)))))
  where
    le4 : (t : Bool) (a b : ℕ) → a ≤ 4 → b ≤ 4 → pick t a b ≤ 4
    le4 true a b h g = h
    le4 false a b h g = g

pub char_four : (l : List ℕ) (m : ℕ) → char_length l ≡ suc m → m ≤ 3
char_four l m e = let u = char_out l m e in omega (arith, length_by_four (get_or l 0 0), u.size)

-- octet i + 1 of a character of m + 1 octets
pub char_tail : (l : List ℕ) (m : ℕ) → char_length l ≡ suc m → (i : ℕ) → i < m → tail (get_or l (suc i) 0) ≡ true
unfolding rest
char_tail l m e i h = at i refl
  where
    u : Begun (suc m) l
    u = char_out l m e

    two : 2 ≤ suc m → tail (get_or l 1 0) ≡ true
    two p = second_tail (get_or l 0 0) (get_or l 1 0) (or_right (suc m) 2 _ p (and_left _ _ u.good))

    three : 3 ≤ suc m → tail (get_or l 2 0) ≡ true
    three p = or_right (suc m) 3 _ p (and_left _ _ (and_right (ltb (suc m) 2 || second (get_or l 0 0) (get_or l 1 0)) _ u.good))

    four : 4 ≤ suc m → tail (get_or l 3 0) ≡ true
    four p = or_right (suc m) 4 _ p (and_right (ltb (suc m) 3 || tail (get_or l 2 0)) _ (and_right (ltb (suc m) 2 || second (get_or l 0 0) (get_or l 1 0)) _ u.good))

    at : (j : ℕ) → j ≡ i → tail (get_or l (suc j) 0) ≡ true
    at zero q = two (omega arith)
    at (suc zero) q = three (omega arith)
    at (suc (suc zero)) q = four (omega arith)
    at (suc (suc (suc j))) q = absurd (omega (arith, char_four l m e))

pub chars_fit : {p : ℕ → Bool} {k : ℕ} {l : List ℕ} → Chars p k l → k ≤ length l
chars_fit end = omega arith
chars_fit (start a e c) = omega arith
chars_fit (inner e c) = omega (arith, chars_fit c)

-- the octets of the begun character, and the one after them
pub chars_tail : {p : ℕ → Bool} {k : ℕ} {l : List ℕ} → Chars p k l → (i : ℕ) → i < k → tail (get_or l i 0) ≡ true
chars_tail end i h = absurd (omega arith)
chars_tail (start a e c) i h = absurd (omega arith)
chars_tail (inner e c) zero h = e
chars_tail (inner e c) (suc i) h = chars_tail c i (omega arith)

pub chars_next : {p : ℕ → Bool} {k : ℕ} {l : List ℕ} → Chars p k l → k < length l → tail (get_or l k 0) ≡ false
chars_next end h = absurd (omega arith)
chars_next (start {x} {m} {xs} a e c) h = first_not x m xs e
chars_next (inner e c) h = chars_next c (omega arith)

-- where no octet is bad, there are whole characters, and the other way round
after_suc : (n j : ℕ) (f : ℕ → ℕ) → after n f ≡ suc j → (m : ℕ) × (n ≡ suc m) × (f m ≡ j)
after_suc zero j f e = absurd (omega arith)
after_suc (suc m) j f e = (m, refl, omega arith)

module _ (p : ℕ → Bool) where
  chars : (l : List ℕ) (k : ℕ) → k ≤ length l → ((i : ℕ) → i < k → tail (get_or l i 0) ≡ true) → scan (unit p) l k ≡ length l → Chars p k l
  unfolding scan unit
  chars [] zero h t e = end
  chars [] (suc k) h t e = absurd (not-suc-le-zero h)
  chars (x ∷ xs) zero h t e =
      let a = after_suc (unit p (x ∷ xs)) (length xs) (scan (unit p) xs) e in
      let u = pick_true (p x) (char_length (x ∷ xs)) a.0 a.1 in
      start u.0 u.1
      (chars xs a.0 (le_of_suc-le-suc (char_inside (x ∷ xs) a.0 u.1)) (λ i q. char_tail (x ∷ xs) a.0 u.1 i q) a.2)
  chars (x ∷ xs) (suc k) h t e =
      inner (t 0 (omega arith)) (chars xs k (le_of_suc-le-suc h) (λ i q. t (suc i) (omega arith)) (omega arith))

  pub good_chars : (l : List ℕ) → first_bad p l ≡ length l → Chars p 0 l
  unfolding first_bad
  good_chars l e = chars l 0 (omega arith) (λ i h. absurd (omega arith)) e

  good : {k : ℕ} {l : List ℕ} → Chars p k l → scan (unit p) l k ≡ length l
  unfolding scan unit
  good end = refl
  good (start {x} {m} {xs} a e c) = simp (a, e) (ap suc (good c))
  good (inner e c) = ap suc (good c)

  pub chars_good : (l : List ℕ) → Chars p 0 l → first_bad p l ≡ length l
  unfolding first_bad
  chars_good l c = good c

-- no octet is CR or LF
pub data NoEnd : List ℕ → Type 0 where
  none : NoEnd []
  more : {x : ℕ} {xs : List ℕ} → (x ≡ 13 → ⊥) → (x ≡ 10 → ⊥) → NoEnd xs → NoEnd (x ∷ xs)

not_allowed : (x y : ℕ) → allowed false x ≡ true → allowed false y ≡ false → x ≡ y → ⊥
not_allowed x y a b e = nope (sym a ∙ ap (allowed false) e ∙ b)

pub no_end : {k : ℕ} {l : List ℕ} → Chars (allowed false) k l → NoEnd l
unfolding allowed valued
no_end end = none
no_end (start {x} a e c) = more (not_allowed x 13 a refl) (not_allowed x 10 a refl) (no_end c)
no_end (inner {x} e c) =
    more (λ (q : x ≡ 13). omega (arith, (tail_range x e).0)) (λ (q : x ≡ 10). omega (arith, (tail_range x e).0)) (no_end c)

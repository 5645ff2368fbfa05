-- The escaped form of a text that escape takes is a text that unescape takes: whole characters, and no 0A. Assumes nothing.
use mathlib.Core.Path.{◌≡◌, refl, sym, ap, subst, ◌∙◌}
use mathlib.Core.Bool.{Bool, true, false, ◌||◌, or-true, true≢false}
use mathlib.Core.List.{List, [], ◌∷◌, ◌++◌}
use Prim.Native.Nat.{ℕ, zero, suc, ◌<◌, ◌≤◌}
use native.Mathlib.Nat.{not-suc-le-zero, le_of_suc-le-suc}
use native.Mathlib.Omega.{arith}
use lib.Dec.{ltb, eqb}
use lib.ListN.{length, get_or}
use borrow.Author.Tests.{ltb-true, ltb-false, eqb-true, ne_eqb, le-leb}
use Rattle.octets.specs.Pick.{pick}
use Rattle.octets.specs.Classes.{valued}
use Rattle.utf8.specs.Characters.{char_length, allowed, first_bad}
use Rattle.utf8.proofs.Chars.{ascii}
use Rattle.utf8.proofs.Chains.{Chars, end, start, inner, char_same, tail_range, chars_fit, chars_tail, good_chars, chars_good}
use Rattle.text_marks.specs.Marks.{special, marked}
use Rattle.text_escaping.specs.Escaped.{letter, in_escape, escaped}

-- an octet that is no ASCII is written as it is
high_stays : (x : ℕ) → 0x80 ≤ x → in_escape x ≡ x ∷ []
unfolding in_escape marked special
high_stays x h =
    simp (ne_eqb x 92 (λ (e : x ≡ 92). omega arith), ne_eqb x 44 (λ (e : x ≡ 44). omega arith), ne_eqb x 59 (λ (e : x ≡ 59). omega arith), ne_eqb x 10 (λ (e : x ≡ 10). omega arith))

high_next : (x : ℕ) (xs : List ℕ) → 0x80 ≤ x → escaped (x ∷ xs) ≡ x ∷ escaped xs
unfolding escaped
high_next x xs h = ap (λ (w : List ℕ). w ++ escaped xs) (high_stays x h)

shift : (x : ℕ) (a b : List ℕ) (m : ℕ) → ((i : ℕ) → i < m → get_or a i 0 ≡ get_or b i 0) → (i : ℕ) → i < suc m → get_or (x ∷ a) i 0 ≡ get_or (x ∷ b) i 0
shift x a b m f zero h = refl
shift x a b m f (suc i) h = f i (le_of_suc-le-suc h)

-- m octets that are no ASCII stand at the start of the escaped form too
kept : (l : List ℕ) (m : ℕ) → m ≤ length l → ((i : ℕ) → i < m → 0x80 ≤ get_or l i 0)
    → (m ≤ length (escaped l)) × ((i : ℕ) → i < m → get_or (escaped l) i 0 ≡ get_or l i 0)
kept l zero h t = (omega arith, λ i k. absurd (not-suc-le-zero k))
kept [] (suc m) h t = absurd (not-suc-le-zero h)
kept (x ∷ xs) (suc m) h t =
    let r = kept xs m (le_of_suc-le-suc h) (λ i k. t (suc i) (omega arith)) in
    let e = high_next x xs (t 0 (omega arith)) in
    (rw e (omega (arith, r.0)), λ i k. ap (λ (w : List ℕ). get_or w i 0) e ∙ shift x (escaped xs) xs m r.1 i k)

-- an octet of ASCII that a text without 0A may have is a character by itself
one : (b : ℕ) (r : List ℕ) → b < 0x80 → valued b ≡ true → Chars (allowed false) 0 r → Chars (allowed false) 0 (b ∷ r)
unfolding allowed
one b r h v c = let a : allowed false b ≡ true = simp v in start a (ascii (b ∷ r) 0 (omega arith) h) c

backslash_fine : valued 92 ≡ true
unfolding valued
backslash_fine = refl

-- the octets that an escape has
letter_fine : (x : ℕ) → marked x ≡ true → (letter x < 0x80) × (valued (letter x) ≡ true)
unfolding marked special letter valued
letter_fine x = by (eqb x 92) (eqb x 44) (eqb x 59) (eqb x 10) refl refl refl refl
  where
    is : (k : ℕ) → x ≡ k → (letter k < 0x80) × (valued (letter k) ≡ true) → (letter x < 0x80) × (valued (letter x) ≡ true)
    is k q f = subst (λ (n : ℕ). (letter n < 0x80) × (valued (letter n) ≡ true)) (sym q) f

    by : (a b c d : Bool) → eqb x 92 ≡ a → eqb x 44 ≡ b → eqb x 59 ≡ c → eqb x 10 ≡ d → ((a || (b || c)) || d) ≡ true → (letter x < 0x80) × (valued (letter x) ≡ true)
    by true b c d p q r s z = is 92 (eqb-true x 92 p) (omega arith, refl)
    by false true c d p q r s z = is 44 (eqb-true x 44 q) (omega arith, refl)
    by false false true d p q r s z = is 59 (eqb-true x 59 r) (omega arith, refl)
    by false false false true p q r s z = is 10 (eqb-true x 10 s) (omega arith, refl)
    by false false false false p q r s z = absurd (true≢false (sym z))

-- an octet that is allowed and stays is none of 0A
stays_valued : (x : ℕ) → allowed true x ≡ true → marked x ≡ false → valued x ≡ true
unfolding allowed marked
stays_valued x a m = by (valued x) (special x) (eqb x 10) a m
  where
    by : (v s n : Bool) → (v || n) ≡ true → (s || n) ≡ false → v ≡ true
    by true s n a m = refl
    by false s true a m = absurd (true≢false (sym (or-true s) ∙ m))
    by false s false a m = a

high_allowed : (x : ℕ) → 0x80 ≤ x → allowed false x ≡ true
unfolding allowed valued
high_allowed x h = simp (le-leb 0x80 x h, or-true)

-- the octet of ASCII at the start, written as it is or in an escape
low_next : (x : ℕ) (xs : List ℕ) → x < 0x80 → allowed true x ≡ true → Chars (allowed false) 0 (escaped xs) → Chars (allowed false) 0 (escaped (x ∷ xs))
unfolding escaped in_escape
low_next x xs h a c = by (marked x) refl
  where
    by : (m : Bool) → marked x ≡ m → Chars (allowed false) 0 (pick m (92 ∷ letter x ∷ []) (x ∷ []) ++ escaped xs)
    by true m =
        let l = letter_fine x m in
        one 92 (letter x ∷ escaped xs) (omega arith) backslash_fine (one (letter x) (escaped xs) l.0 l.1 c)
    by false m = one x (escaped xs) h (stays_valued x a m) c

-- a character that is no ASCII at the start
high_char : (x m : ℕ) (xs : List ℕ) → 0x80 ≤ x → char_length (x ∷ xs) ≡ suc m → Chars (allowed true) m xs → Chars (allowed false) m (escaped xs)
    → Chars (allowed false) 0 (escaped (x ∷ xs))
high_char x m xs h e c d =
    let k = kept xs m (chars_fit c) (λ i l. (tail_range (get_or xs i 0) (chars_tail c i l)).0) in
    let f = char_same (x ∷ xs) (x ∷ escaped xs) m (λ i l. sym (shift x (escaped xs) xs m k.1 i l)) e (omega (arith, k.0)) in
    rw (high_next x xs h) (start (high_allowed x h) f d)

clean : {k : ℕ} {l : List ℕ} → Chars (allowed true) k l → Chars (allowed false) k (escaped l)
unfolding escaped
clean end = end
clean (start {x} {m} {xs} a e c) = by (ltb x 0x80) refl (clean c)
  where
    by : (t : Bool) → ltb x 0x80 ≡ t → Chars (allowed false) m (escaped xs) → Chars (allowed false) 0 (escaped (x ∷ xs))
    by true h d =
        let l = ltb-true x 0x80 h in
        let z : m ≡ 0 = omega (arith, e, ascii (x ∷ xs) 0 (omega arith) l) in
        low_next x xs l a (rw z at d)
    by false h d = high_char x m xs (ltb-false x 0x80 h) e c d
clean (inner {x} {k} {xs} e c) = rw (high_next x xs (tail_range x e).0) (inner e (clean c))

-- a text that escape takes has an escaped form that unescape takes
pub clean_escaped : (t : List ℕ) → first_bad (allowed true) t ≡ length t → first_bad (allowed false) (escaped t) ≡ length (escaped t)
clean_escaped t e = chars_good (allowed false) (escaped t) (clean (good_chars (allowed true) t e))

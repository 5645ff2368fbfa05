-- What encoding writes may stand between quote marks. Assumes nothing.
use mathlib.Core.Path.{◌≡◌, refl, sym, ap, ◌∙◌}
use mathlib.Core.Bool.{Bool, true, false, not, ◌&&◌, ◌||◌, or-true, true≢false}
use mathlib.Core.List.{List, [], ◌∷◌, ◌++◌}
use mathlib.Core.Logic.{◌⊎◌, inl, inr}
use Prim.Native.Nat.{ℕ, zero, suc, ◌<◌, ◌≤◌}
use native.Mathlib.Omega.{arith}
use lib.Dec.{eqb}
use lib.ListN.{length, get_or, take}
use borrow.Author.Tests.{eqb-true, eqb-false, eq-eqb, ne_eqb}
use Rattle.octets.specs.Pick.{pick}
use Rattle.octets.specs.Classes.{valued, quoted, run, more as longer}
use Rattle.utf8.specs.Characters.{tail, char_length, allowed, first_bad}
use Rattle.utf8.proofs.Chains.{Chars, end, start, inner, tail_range, chars_fit, good_chars, chars_good, char_same}
use Rattle.utf8.proofs.Chars.{ascii}
use Rattle.label_marks.specs.Seen.{mark}
use Rattle.label_carets.specs.Encoded.{marked, letter, in_label, encoded}
use Rattle.label.specs.Outcomes.{writable}
use Rattle.label_laws.specs.Reads.{Says, Sayable, none, more, Unsaid}
use Rattle.label_carets.specs.declared.Rule.{Rule}
use Rattle.label_carets.specs.declared.Rule.TheVariants.{Rfc6350, Rfc6868}

-- a tail octet is no mark
tail_unmarked : (b : ℕ) → tail b ≡ true → marked b ≡ false
unfolding mark
tail_unmarked b e =
    let h = (tail_range b e).0 in
    rw (ne_eqb b 94 (λ q. omega arith), ne_eqb b 10 (λ q. omega arith), ne_eqb b 34 (λ q. omega arith)) refl

pair_tail : (r : Rule) (b : ℕ) → tail b ≡ true → in_label r b ≡ b ∷ []
pair_tail Rfc6350 b e = refl
pair_tail Rfc6868 b e = rw (tail_unmarked b e) refl

-- the tail octets of a character stay in their places
tails_kept : {p : ℕ → Bool} {k : ℕ} {l : List ℕ} (r : Rule) → Chars p k l → (i : ℕ) → i < k → get_or l i 0 ≡ get_or (encoded r l) i 0
unfolding encoded
tails_kept r end i h = absurd (omega arith)
tails_kept r (start a e c) i h = absurd (omega arith)
tails_kept r (inner {x} {k} {xs} t c) zero h = rw (pair_tail r x t) refl
tails_kept r (inner {x} {k} {xs} t c) (suc i) h = rw (pair_tail r x t) (tails_kept r c i (omega arith))

-- no octet is lost
pair_length : (r : Rule) (x : ℕ) (t : List ℕ) → suc (length t) ≤ length (in_label r x ++ t)
pair_length Rfc6350 x t = omega arith
pair_length Rfc6868 x t = by (marked x)
  where
    by : (m : Bool) → suc (length t) ≤ length (pick m (94 ∷ letter x ∷ []) (x ∷ []) ++ t)
    by true = omega arith
    by false = omega arith

encoded_longer : (r : Rule) (l : List ℕ) → length l ≤ length (encoded r l)
unfolding encoded
encoded_longer r [] = omega arith
encoded_longer r (x ∷ xs) = omega (arith, encoded_longer r xs, pair_length r x (encoded r xs))

ascii_char : (x : ℕ) (t : List ℕ) → x < 128 → char_length (x ∷ t) ≡ 1
ascii_char x t h = ascii (x ∷ t) 0 (omega arith) h

-- an octet that may stand in the value and is no newline and no quote mark may stand between quotes
plain_quoted : (b : ℕ) → allowed true b ≡ true → (b ≡ 10 → ⊥) → (b ≡ 34 → ⊥) → quoted b ≡ true
unfolding allowed quoted
plain_quoted b a n q = rw (ne_eqb b 34 q) (by (valued b) (rw (ne_eqb b 10 n) at a))
  where
    by : (v : Bool) → (v || false) ≡ true → (v && true) ≡ true
    by true e = refl
    by false e = e

-- the octets that RFC 6868 writes as a pair
data Mark : ℕ → Type 0 where
  ten : Mark 10
  thirty_four : Mark 34
  ninety_four : Mark 94

to_mark : (b : ℕ) → marked b ≡ true → Mark b
unfolding mark
to_mark b e = by (eqb b 94) refl (eqb b 10) refl (eqb b 34) refl e
  where
    at : (z : ℕ) → b ≡ z → Mark z → Mark b
    at z q m = rw q m

    by : (p : Bool) → eqb b 94 ≡ p → (q : Bool) → eqb b 10 ≡ q → (s : Bool) → eqb b 34 ≡ s → (p || (q || s)) ≡ true → Mark b
    by true h q i s j e = at 94 (eqb-true b 94 h) ninety_four
    by false h true i s j e = at 10 (eqb-true b 10 i) ten
    by false h false i true j e = at 34 (eqb-true b 34 j) thirty_four
    by false h false i false j e = absurd (true≢false (sym e))

-- its pair may stand between quotes
two : (y : ℕ) (t : List ℕ) → quoted 94 ≡ true → quoted y ≡ true → y < 128 → Chars quoted 0 t → Chars quoted 0 (94 ∷ y ∷ t)
two y t p q h c = start p (ascii_char 94 (y ∷ t) (omega arith)) (start q (ascii_char y t h) c)

pair_fair : (b : ℕ) (t : List ℕ) → Mark b → Chars quoted 0 t → Chars quoted 0 (94 ∷ letter b ∷ t)
unfolding letter quoted valued
pair_fair b t ten c = two 110 t refl refl (omega arith) c
pair_fair b t thirty_four c = two 39 t refl refl (omega arith) c
pair_fair b t ninety_four c = two 94 t refl refl (omega arith) c

mark_small : (b : ℕ) → Mark b → b < 128
mark_small b ten = omega arith
mark_small b thirty_four = omega arith
mark_small b ninety_four = omega arith

no_mark : (b c : ℕ) → marked b ≡ false → Mark c → b ≡ c → ⊥
unfolding mark
no_mark b c e ten q = true≢false (sym (ap marked q) ∙ e)
no_mark b c e thirty_four q = true≢false (sym (ap marked q) ∙ e)
no_mark b c e ninety_four q = true≢false (sym (ap marked q) ∙ e)

-- one octet that is no tail: what is written for it, with what follows
first_octet : (r : Rule) (x m : ℕ) (xs : List ℕ) → allowed true x ≡ true → char_length (x ∷ xs) ≡ suc m → Says r x → Chars quoted m (encoded r xs)
    → ((i : ℕ) → i < m → get_or xs i 0 ≡ get_or (encoded r xs) i 0) → Chars quoted 0 (in_label r x ++ encoded r xs)
first_octet r x m xs a e s c same = by r s c same
  where
    plain : (y : List ℕ) → Chars quoted m y → ((i : ℕ) → i < m → get_or xs i 0 ≡ get_or y i 0) → (x ≡ 10 → ⊥) → (x ≡ 34 → ⊥) → Chars quoted 0 (x ∷ y)
    plain y c f n q = start (plain_quoted x a n q) (char_same (x ∷ xs) (x ∷ y) m at e (omega (arith, chars_fit c))) c
      where
        at : (i : ℕ) → i < suc m → get_or (x ∷ xs) i 0 ≡ get_or (x ∷ y) i 0
        at zero h = refl
        at (suc i) h = f i (omega arith)

    by : (r : Rule) → Says r x → Chars quoted m (encoded r xs) → ((i : ℕ) → i < m → get_or xs i 0 ≡ get_or (encoded r xs) i 0) → Chars quoted 0 (in_label r x ++ encoded r xs)
    by Rfc6350 s c f = plain (encoded Rfc6350 xs) c f s.0 s.1
    by Rfc6868 s c f = split (marked x) refl
      where
        none : (k : ℕ) → k ≡ 0 → Chars quoted k (encoded Rfc6868 xs) → Chars quoted 0 (encoded Rfc6868 xs)
        none zero q d = d
        none (suc k) q d = absurd (omega arith)

        split : (b : Bool) → marked x ≡ b → Chars quoted 0 (pick b (94 ∷ letter x ∷ []) (x ∷ []) ++ encoded Rfc6868 xs)
        split true h =
            let k = to_mark x h in
            pair_fair x (encoded Rfc6868 xs) k (none m (omega (arith, sym e ∙ ascii_char x xs (mark_small x k))) c)
        split false h = plain (encoded Rfc6868 xs) c f (no_mark x 10 h ten) (no_mark x 34 h thirty_four)

-- a value that the rule can write, encoded
all_fair : {k : ℕ} {l : List ℕ} (r : Rule) → Chars (allowed true) k l → Sayable r l → Chars quoted k (encoded r l)
unfolding encoded
all_fair r end none = end
all_fair r (start {x} {m} {xs} a e c) (more s f) = first_octet r x m xs a e s (all_fair r c f) (λ i h. tails_kept r c i h)
all_fair r (inner {x} {k} {xs} t c) (more s f) = rw (pair_tail r x t) (inner t (all_fair r c f))

pub encoded_fair : (r : Rule) (t : List ℕ) → first_bad (allowed true) t ≡ length t → Sayable r t → first_bad quoted (encoded r t) ≡ length (encoded r t)
encoded_fair r t e s = chars_good quoted (encoded r t) (all_fair r (good_chars (allowed true) t e) s)

pub new_says : (t : List ℕ) → Sayable Rfc6868 t
new_says [] = none
new_says (x ∷ xs) = more tt (new_says xs)

-- RFC 6350 can write a value in which no octet is a newline or a quote mark
pub old_says : (t : List ℕ) → run writable t ≡ length t → Sayable Rfc6350 t
unfolding run writable
old_says [] e = none
old_says (x ∷ xs) e = by (eqb x 10) refl (eqb x 34) refl e (λ h. old_says xs h)
  where
    by : (p : Bool) → eqb x 10 ≡ p → (q : Bool) → eqb x 34 ≡ q → longer (not (p || q)) (run writable xs) ≡ suc (length xs)
        → (run writable xs ≡ length xs → Sayable Rfc6350 xs) → Sayable Rfc6350 (x ∷ xs)
    by true h q i e f = absurd (omega arith)
    by false h true i e f = absurd (omega arith)
    by false h false i e f = more (eqb-false x 10 h, eqb-false x 34 i) (f (omega arith))

pub says_old : {t : List ℕ} → Sayable Rfc6350 t → run writable t ≡ length t
unfolding run writable
says_old none = refl
says_old (more {b} {l} s f) = rw (ne_eqb b 10 s.0, ne_eqb b 34 s.1) (ap suc (says_old f))

-- ---- the first newline or quote mark of a value

pub first_unsaid : (t : List ℕ) → run writable t < length t → Unsaid t (run writable t)
unfolding run writable
first_unsaid [] h = absurd (omega arith)
first_unsaid (x ∷ xs) h = by (eqb x 10) refl (eqb x 34) refl h (first_unsaid xs)
  where
    by : (p : Bool) → eqb x 10 ≡ p → (q : Bool) → eqb x 34 ≡ q → longer (not (p || q)) (run writable xs) < suc (length xs)
        → (run writable xs < length xs → Unsaid xs (run writable xs)) → Unsaid (x ∷ xs) (longer (not (p || q)) (run writable xs))
    by true e q i h f = record { inside = omega arith; before = none; there = inl (eqb-true x 10 e) }
    by false e true i h f = record { inside = omega arith; before = none; there = inr (eqb-true x 34 i) }
    by false e false i h f =
        let u = f (omega arith) in
        record { inside = h; before = more (eqb-false x 10 e, eqb-false x 34 i) u.before; there = u.there }

pub unsaid_first : (t : List ℕ) (p : ℕ) → Unsaid t p → run writable t ≡ p
unfolding run writable
unsaid_first [] p u = absurd (omega (arith, u.inside))
unsaid_first (x ∷ xs) zero u = by u.there
  where
    by : (x ≡ 10) ⊎ (x ≡ 34) → longer (not (eqb x 10 || eqb x 34)) (run writable xs) ≡ 0
    by (inl e) = rw (eq-eqb x 10 e)
    by (inr e) = rw (eq-eqb x 34 e, or-true (eqb x 10))
unsaid_first (x ∷ xs) (suc p) u = by u.before (unsaid_first xs p)
  where
    by : Sayable Rfc6350 (x ∷ take p xs) → (Unsaid xs p → run writable xs ≡ p) → longer (not (eqb x 10 || eqb x 34)) (run writable xs) ≡ suc p
    by (more s f) next =
        let h = u.inside in
        rw (ne_eqb x 10 s.0, ne_eqb x 34 s.1) (ap suc (next (record { inside = omega arith; before = f; there = u.there })))

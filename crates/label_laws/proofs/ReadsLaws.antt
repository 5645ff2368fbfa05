-- Decoding writes what a label stands for, and what was encoded stands for the value, under either rule. Assumes nothing.
use mathlib.Core.Path.{◌≡◌, refl, sym, ap, subst, ◌∙◌}
use mathlib.Core.Bool.{Bool, true, false, ◌&&◌, ◌||◌, true≢false}
use mathlib.Core.List.{List, [], ◌∷◌, ◌++◌}
use Prim.Native.Nat.{ℕ}
use lib.Dec.{eqb}
use borrow.Author.Tests.{eqb-true, eqb-false, ne_eqb}
use Rattle.octets.specs.Pick.{pick}
use Rattle.octets.specs.Scan.{gather}
use Rattle.label_laws.specs.Reads.{Pair, newline, caret, quote, Lone, last, before, Reads, none, itself, old_caret, pair, lone, Caretless, more}
use Rattle.label_marks.specs.Seen.{mark}
use Rattle.label_carets.specs.Encoded.{marked, letter, encoded}
use Rattle.label_carets.specs.Decoded.{code, meant, pair_at, decoded}
use Rattle.label_carets.proofs.PairLaws.{one_step, two_step, no_pair}
use Rattle.label_carets.specs.declared.Rule.{Rule}
use Rattle.label_carets.specs.declared.Rule.TheVariants.{Rfc6350, Rfc6868}

-- ---- the code test is the grammar's three pairs

caret_code : {y x : ℕ} → Pair y x → (code y ≡ true) × (meant y ≡ x)
unfolding code meant
caret_code newline = (refl, refl)
caret_code caret = (refl, refl)
caret_code quote = (refl, refl)

code_caret : (y : ℕ) → code y ≡ true → Pair y (meant y)
unfolding code meant
code_caret y e = by (eqb y 110) refl (eqb y 94) refl (eqb y 39) refl e
  where
    at : (z m : ℕ) → y ≡ z → Pair z m → Pair y m
    at z m q c = rw q c

    by : (a : Bool) → eqb y 110 ≡ a → (b : Bool) → eqb y 94 ≡ b → (c : Bool) → eqb y 39 ≡ c → (a || (b || c)) ≡ true → Pair y (pick a 10 (pick c 34 y))
    by true p b q c s e = at 110 10 (eqb-true y 110 p) newline
    by false p true q true s e = at 39 34 (eqb-true y 39 s) quote
    by false p true q false s e = let w : y ≡ 94 = eqb-true y 94 q in rw w caret
    by false p false q true s e = at 39 34 (eqb-true y 39 s) quote
    by false p false q false s e = absurd (true≢false (sym e))

no_code : (y : ℕ) → ((x : ℕ) → Pair y x → ⊥) → code y ≡ false
no_code y f = by (code y) refl
  where
    by : (t : Bool) → code y ≡ t → t ≡ false
    by true e = absurd (f (meant y) (code_caret y e))
    by false e = refl

lone_none : (w : List ℕ) → Lone w → pair_at Rfc6868 (94 ∷ w) ≡ false
unfolding code
lone_none [] last = refl
lone_none (y ∷ w) (before f) = no_code y f

-- ---- decoding is the reading

pub reads_so : {r : Rule} {w v : List ℕ} → Reads r w v → decoded r w ≡ v
unfolding decoded gather
reads_so none = refl
reads_so {r} (itself {b = b} {w = w} n d) = one_step r b w (no_pair r b w (ne_eqb b 94 n)) ∙ ap (λ (t : List ℕ). b ∷ t) (reads_so d)
reads_so (old_caret {w = w} d) = one_step Rfc6350 94 w refl ∙ ap (λ (t : List ℕ). 94 ∷ t) (reads_so d)
reads_so (pair {y = y} {x = x} {w = w} c d) =
    two_step Rfc6868 94 y w (caret_code c).0 ∙ ap (λ (b : ℕ). b ∷ decoded Rfc6868 w) (caret_code c).1 ∙ ap (λ (t : List ℕ). x ∷ t) (reads_so d)
reads_so (lone {w = w} l d) = one_step Rfc6868 94 w (lone_none w l) ∙ ap (λ (t : List ℕ). 94 ∷ t) (reads_so d)

-- a label stands for one value
pub reads_once : {r : Rule} {w v u : List ℕ} → Reads r w v → Reads r w u → v ≡ u
reads_once d e = sym (reads_so d) ∙ reads_so e

at_94 : (x : ℕ) (r : Rule) (w v : List ℕ) → x ≡ 94 → Reads r (94 ∷ w) (94 ∷ v) → Reads r (x ∷ w) (x ∷ v)
at_94 x r w v q d = rw q d

-- and every label stands for one
by_caret : (r : Rule) (x : ℕ) (w v : List ℕ) → Reads r w v → (Reads r w v → Reads r (94 ∷ w) (94 ∷ v)) → Reads r (x ∷ w) (x ∷ v)
by_caret r x w v d f = by (eqb x 94) refl
  where
    by : (t : Bool) → eqb x 94 ≡ t → Reads r (x ∷ w) (x ∷ v)
    by true e = at_94 x r w v (eqb-true x 94 e) (f d)
    by false e = itself (eqb-false x 94 e) d

reads_old : (w : List ℕ) → Reads Rfc6350 w (decoded Rfc6350 w)
unfolding decoded gather
reads_old [] = none
reads_old (x ∷ xs) = rw (one_step Rfc6350 x xs refl) (by_caret Rfc6350 x xs (decoded Rfc6350 xs) (reads_old xs) (λ d. old_caret d))

left : (a b : Bool) → (a && b) ≡ true → a ≡ true
left true b e = refl
left false b e = e

right : (a b : Bool) → (a && b) ≡ true → b ≡ true
right true b e = e
right false true e = refl
right false false e = e

reads_new : (w : List ℕ) → Reads Rfc6868 w (decoded Rfc6868 w)
unfolding decoded gather code
reads_new [] = none
reads_new (x ∷ []) = rw (one_step Rfc6868 x [] (by (eqb x 94))) (by_caret Rfc6868 x [] [] none (λ d. lone last d))
  where
    by : (a : Bool) → (a && code 0) ≡ false
    by true = refl
    by false = refl
reads_new (x ∷ y ∷ w) = by (pair_at Rfc6868 (x ∷ y ∷ w)) refl (reads_new w) (reads_new (y ∷ w))
  where
    paired : (z m : ℕ) (v : List ℕ) → z ≡ 94 → Pair y m → Reads Rfc6868 w v → Reads Rfc6868 (z ∷ y ∷ w) (m ∷ v)
    paired z m v q c d = rw q (pair c d)

    stays : eqb x 94 ≡ true → pair_at Rfc6868 (x ∷ y ∷ w) ≡ false → (m : ℕ) → Pair y m → ⊥
    stays q e m c = true≢false (sym (rw (q, (caret_code c).0) refl) ∙ e)

    alone : (t : Bool) → eqb x 94 ≡ t → pair_at Rfc6868 (x ∷ y ∷ w) ≡ false → Reads Rfc6868 (y ∷ w) (decoded Rfc6868 (y ∷ w)) → Reads Rfc6868 (x ∷ y ∷ w) (x ∷ decoded Rfc6868 (y ∷ w))
    alone true q e d = at_94 x Rfc6868 (y ∷ w) (decoded Rfc6868 (y ∷ w)) (eqb-true x 94 q) (lone (before (stays q e)) d)
    alone false q e d = itself (eqb-false x 94 q) d

    by : (t : Bool) → pair_at Rfc6868 (x ∷ y ∷ w) ≡ t → Reads Rfc6868 w (decoded Rfc6868 w) → Reads Rfc6868 (y ∷ w) (decoded Rfc6868 (y ∷ w)) → Reads Rfc6868 (x ∷ y ∷ w) (decoded Rfc6868 (x ∷ y ∷ w))
    by true e d f =
        rw (two_step Rfc6868 x y w e)
        (paired x (meant y) (decoded Rfc6868 w) (eqb-true x 94 (left (eqb x 94) (code y) e)) (code_caret y (right (eqb x 94) (code y) e)) d)
    by false e d f = rw (one_step Rfc6868 x (y ∷ w) e) (alone (eqb x 94) refl e f)

pub reads_some : (r : Rule) (w : List ℕ) → Reads r w (decoded r w)
reads_some Rfc6350 w = reads_old w
reads_some Rfc6868 w = reads_new w

-- ---- encoding, then decoding

letter_code : (b : ℕ) → marked b ≡ true → (code (letter b) ≡ true) × (meant (letter b) ≡ b)
unfolding mark letter code meant
letter_code b e = by (eqb b 94) refl (eqb b 10) refl (eqb b 34) refl e
  where
    is : (k : ℕ) → b ≡ k → (code (letter k) ≡ true) × (meant (letter k) ≡ k) → (code (letter b) ≡ true) × (meant (letter b) ≡ b)
    is k q h = subst (λ (n : ℕ). (code (letter n) ≡ true) × (meant (letter n) ≡ n)) (sym q) h

    by : (p : Bool) → eqb b 94 ≡ p → (q : Bool) → eqb b 10 ≡ q → (s : Bool) → eqb b 34 ≡ s → (p || (q || s)) ≡ true
        → (code (letter b) ≡ true) × (meant (letter b) ≡ b)
    by true h q i s j e = is 94 (eqb-true b 94 h) (refl, refl)
    by false h true i s j e = is 10 (eqb-true b 10 i) (refl, refl)
    by false h false i true j e = is 34 (eqb-true b 34 j) (refl, refl)
    by false h false i false j e = absurd (true≢false (sym e))

unmarked : (b : ℕ) → marked b ≡ false → b ≡ 94 → ⊥
unfolding mark
unmarked b e q = true≢false (sym (ap marked q) ∙ e)

-- Under either rule, what was encoded is decoded to the value.
pub decoded_encoded : (r : Rule) (t : List ℕ) → decoded r (encoded r t) ≡ t
unfolding encoded decoded gather
decoded_encoded Rfc6350 [] = refl
decoded_encoded Rfc6350 (x ∷ xs) = one_step Rfc6350 x (encoded Rfc6350 xs) refl ∙ ap (λ (t : List ℕ). x ∷ t) (decoded_encoded Rfc6350 xs)
decoded_encoded Rfc6868 [] = refl
decoded_encoded Rfc6868 (x ∷ xs) = by (marked x) refl (decoded_encoded Rfc6868 xs)
  where
    by : (m : Bool) → marked x ≡ m → decoded Rfc6868 (encoded Rfc6868 xs) ≡ xs → decoded Rfc6868 (pick m (94 ∷ letter x ∷ []) (x ∷ []) ++ encoded Rfc6868 xs) ≡ x ∷ xs
    by true e i =
        let c = letter_code x e in
        two_step Rfc6868 94 (letter x) (encoded Rfc6868 xs) c.0 ∙ ap (λ (b : ℕ). b ∷ decoded Rfc6868 (encoded Rfc6868 xs)) c.1 ∙ ap (λ (t : List ℕ). x ∷ t) i
    by false e i = one_step Rfc6868 x (encoded Rfc6868 xs) (no_pair Rfc6868 x (encoded Rfc6868 xs) (ne_eqb x 94 (unmarked x e))) ∙ ap (λ (t : List ℕ). x ∷ t) i

-- A value without a caret reads the same under either rule: as it stands.
pub caretless_reads : (r : Rule) {t : List ℕ} → Caretless t → Reads r t t
caretless_reads r none = none
caretless_reads r (more n c) = itself n (caretless_reads r c)

pub caretless : (r : Rule) (t : List ℕ) → Caretless t → decoded r t ≡ t
caretless r t c = reads_so (caretless_reads r c)

-- What was encoded stands for the value.
pub encoded_reads : (r : Rule) (t : List ℕ) → Reads r (encoded r t) t
encoded_reads r t = subst (λ (v : List ℕ). Reads r (encoded r t) v) (decoded_encoded r t) (reads_some r (encoded r t))

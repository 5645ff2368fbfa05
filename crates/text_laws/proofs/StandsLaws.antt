-- The check of refusal 30 passes exactly on text with escapes, `unescaped` gives what it stands for, and where the check fails, its
-- place is that of the first fault. Assumes nothing.
use mathlib.Core.Path.{◌≡◌, refl, sym, ap, subst, ◌∙◌}
use mathlib.Core.Bool.{Bool, true, false, ◌||◌, true≢false}
use mathlib.Core.List.{List, [], ◌∷◌, ◌++◌, append-nil}
use Prim.Native.Nat.{ℕ, suc, ◌+◌, ◌<◌}
use native.Mathlib.Nat.{not-suc-le-zero, le_of_suc-le-suc}
use native.Mathlib.Omega.{arith}
use lib.Dec.{eqb}
use lib.ListN.{length, take, drop}
use lib.Seq.{take-length}
use borrow.Author.Tests.{eqb-true, eqb-false, ne_eqb}
use Rattle.octets.specs.Scan.{scan, gather}
use Rattle.text_marks.specs.Marks.{special}
use Rattle.text_unescaping.specs.Unescaped.{code, meant, escape_at, text_step, first_fault, passed, standing, unescaped}
use Rattle.text_laws.specs.Stands.{Escape, backslash, comma, semicolon, small_n, capital_n, Stands, none, itself, escape, Faulty, bare_comma, last_backslash, bare_backslash}
use Rattle.text_unescaping.proofs.UnescapeLaws.{first_octet}

-- an octet is the code of an escape where `code` says so
escape_code : {y x : ℕ} → Escape y x → (code y ≡ true) × (meant y ≡ x)
unfolding code special meant
escape_code backslash = (refl, refl)
escape_code comma = (refl, refl)
escape_code semicolon = (refl, refl)
escape_code small_n = (refl, refl)
escape_code capital_n = (refl, refl)

code_escape : (y : ℕ) → code y ≡ true → Escape y (meant y)
unfolding code special meant
code_escape y = by (eqb y 92) (eqb y 44) (eqb y 59) (eqb y 110) (eqb y 78) refl refl refl refl refl
  where
    is : (k : ℕ) → y ≡ k → Escape k (meant k) → Escape y (meant y)
    is k q e = subst (λ (n : ℕ). Escape n (meant n)) (sym q) e

    by : (a b c d f : Bool) → eqb y 92 ≡ a → eqb y 44 ≡ b → eqb y 59 ≡ c → eqb y 110 ≡ d → eqb y 78 ≡ f
        → ((a || (b || c)) || (d || f)) ≡ true → Escape y (meant y)
    by true b c d f p q r s u z = is 92 (eqb-true y 92 p) backslash
    by false true c d f p q r s u z = is 44 (eqb-true y 44 q) comma
    by false false true d f p q r s u z = is 59 (eqb-true y 59 r) semicolon
    by false false false true f p q r s u z = is 110 (eqb-true y 110 s) small_n
    by false false false false true p q r s u z = is 78 (eqb-true y 78 u) capital_n
    by false false false false false p q r s u z = absurd (true≢false (sym z))

-- an octet at the start of a list that is no backslash
module _ (x : ℕ) (xs : List ℕ) (b : eqb x 92 ≡ false) where
  flat : escape_at (x ∷ xs) ≡ false
  unfolding escape_at
  flat = simp b

  one_more : eqb x 44 ≡ false → first_fault (x ∷ xs) ≡ suc (first_fault xs)
  unfolding first_fault scan text_step
  one_more c = simp (flat, b, c)

  comma_fault : eqb x 44 ≡ true → first_fault (x ∷ xs) ≡ 0
  unfolding first_fault scan text_step
  comma_fault c = simp (flat, b, c)

-- a backslash at the start of a list
last_fault : first_fault (92 ∷ []) ≡ 0
unfolding first_fault scan text_step escape_at code special
last_fault = refl

module _ (y : ℕ) (ys : List ℕ) where
  two_more : code y ≡ true → first_fault (92 ∷ y ∷ ys) ≡ suc (suc (first_fault ys))
  unfolding first_fault scan text_step escape_at
  two_more c = simp c

  one_meant : code y ≡ true → unescaped (92 ∷ y ∷ ys) ≡ meant y ∷ unescaped ys
  unfolding unescaped gather passed standing escape_at
  one_meant c = simp c

  backslash_fault : code y ≡ false → first_fault (92 ∷ y ∷ ys) ≡ 0
  unfolding first_fault scan text_step escape_at
  backslash_fault c = simp c

-- text with escapes has no fault before what follows it
past : {w t : List ℕ} → Stands w t → (b : List ℕ) → first_fault (w ++ b) ≡ length w + first_fault b
past none b = omega arith
past (itself {x} {w} n m h) b = one_more x (w ++ b) (ne_eqb x 92 m) (ne_eqb x 44 n) ∙ omega (arith, past h b)
past (escape {y} {x} {w} e h) b = two_more y (w ++ b) (escape_code e).0 ∙ omega (arith, past h b)

nothing : (first_fault [] ≡ 0) × (unescaped [] ≡ [])
unfolding first_fault scan unescaped gather
nothing = (refl, refl)

pub passes : {w t : List ℕ} → Stands w t → first_fault w ≡ length w
passes {w} h = ap first_fault (sym (append-nil w)) ∙ past h [] ∙ omega (arith, nothing.0)

pub gives : {w t : List ℕ} → Stands w t → unescaped w ≡ t
gives none = nothing.1
gives (itself {x} {w} n m h) = first_octet x w (flat x w (ne_eqb x 92 m)) ∙ ap (λ (r : List ℕ). x ∷ r) (gives h)
gives (escape {y} {x} {w} {t} e h) =
    one_meant y w (escape_code e).0 ∙ ap (λ (b : ℕ). b ∷ unescaped w) (escape_code e).1 ∙ ap (λ (r : List ℕ). x ∷ r) (gives h)

-- what a list is up to p and from there on
record Read (w : List ℕ) (p : ℕ) : Type 0 where
  text : List ℕ
  stands : Stands (take p w) text
  fault : p < length w → Faulty (drop p w)

stops : (w : List ℕ) → first_fault w ≡ 0 → Faulty w → Read w (first_fault w)
stops w e f = subst (λ (p : ℕ). Read w p) (sym e) (record { text = []; stands = none; fault = λ h. f })

module _ (x : ℕ) (xs : List ℕ) (b : eqb x 92 ≡ false) (r : Read xs (first_fault xs)) where
  octet_reads : Read (x ∷ xs) (first_fault (x ∷ xs))
  octet_reads = by (eqb x 44) refl
    where
      by : (c : Bool) → eqb x 44 ≡ c → Read (x ∷ xs) (first_fault (x ∷ xs))
      by true c = stops (x ∷ xs) (comma_fault x xs b c) (subst (λ (n : ℕ). Faulty (n ∷ xs)) (sym (eqb-true x 44 c)) bare_comma)
      by false c =
          subst (λ (p : ℕ). Read (x ∷ xs) p) (sym (one_more x xs b c))
          (record { text = x ∷ r.text; stands = itself (eqb-false x 44 c) (eqb-false x 92 b) r.stands; fault = λ h. r.fault (le_of_suc-le-suc h) })

module _ (y : ℕ) (ys : List ℕ) (r : Read ys (first_fault ys)) where
  backslash_reads : Read (92 ∷ y ∷ ys) (first_fault (92 ∷ y ∷ ys))
  backslash_reads = by (code y) refl
    where
      by : (c : Bool) → code y ≡ c → Read (92 ∷ y ∷ ys) (first_fault (92 ∷ y ∷ ys))
      by true c =
          subst (λ (p : ℕ). Read (92 ∷ y ∷ ys) p) (sym (two_more y ys c))
          (record { text = meant y ∷ r.text; stands = escape (code_escape y c) r.stands; fault = λ h. r.fault (le_of_suc-le-suc (le_of_suc-le-suc h)) })
      by false c =
          stops (92 ∷ y ∷ ys) (backslash_fault y ys c) (bare_backslash (λ x e. true≢false (sym (escape_code e).0 ∙ c)))

-- a list is text with escapes up to its first fault, which is one
reads : (w : List ℕ) → Read w (first_fault w)
reads [] = subst (λ (p : ℕ). Read [] p) (sym nothing.0) (record { text = []; stands = none; fault = λ h. absurd (not-suc-le-zero h) })
reads (x ∷ []) = by (eqb x 92) refl (reads [])
  where
    by : (b : Bool) → eqb x 92 ≡ b → Read [] (first_fault []) → Read (x ∷ []) (first_fault (x ∷ []))
    by true b r = subst (λ (n : ℕ). Read (n ∷ []) (first_fault (n ∷ []))) (sym (eqb-true x 92 b)) (stops (92 ∷ []) last_fault last_backslash)
    by false b r = octet_reads x [] b r
reads (x ∷ y ∷ ys) = by (eqb x 92) refl (reads (y ∷ ys)) (reads ys)
  where
    by : (b : Bool) → eqb x 92 ≡ b → Read (y ∷ ys) (first_fault (y ∷ ys)) → Read ys (first_fault ys) → Read (x ∷ y ∷ ys) (first_fault (x ∷ y ∷ ys))
    by true b r q = subst (λ (n : ℕ). Read (n ∷ y ∷ ys) (first_fault (n ∷ y ∷ ys))) (sym (eqb-true x 92 b)) (backslash_reads y ys q)
    by false b r q = octet_reads x (y ∷ ys) b r

stands_so : (w : List ℕ) → first_fault w ≡ length w → Stands w (unescaped w)
stands_so w e =
    let r = reads w in
    let h : Stands w r.text = subst (λ (l : List ℕ). Stands l r.text) (ap (λ (p : ℕ). take p w) e ∙ take-length w) r.stands in
    subst (λ (t : List ℕ). Stands w t) (sym (gives h)) h

-- the check of refusal 30 passes exactly on text with escapes, and `unescaped` gives what it stands for
pub stands_exactly : (w t : List ℕ) → (Stands w t → (first_fault w ≡ length w) × (unescaped w ≡ t)) × ((first_fault w ≡ length w) × (unescaped w ≡ t) → Stands w t)
stands_exactly w t = (λ h. (passes h, gives h), λ e. subst (λ (u : List ℕ). Stands w u) e.1 (stands_so w e.0))

-- a text stands for one text
pub stands_once : {w t u : List ℕ} → Stands w t → Stands w u → t ≡ u
stands_once h k = sym (gives h) ∙ gives k

faulty_now : {b : List ℕ} → Faulty b → first_fault b ≡ 0
faulty_now (bare_comma {w}) = comma_fault 44 w refl refl
faulty_now last_backslash = last_fault
faulty_now (bare_backslash {y} {w} n) = by (code y) refl
  where
    by : (c : Bool) → code y ≡ c → first_fault (92 ∷ y ∷ w) ≡ 0
    by true c = absurd (n (meant y) (code_escape y c))
    by false c = backslash_fault y w c

-- the place of refusal 30 has a fault, and all before it is text with escapes
pub fault_found : (w : List ℕ) → first_fault w < length w → ((t : List ℕ) × Stands (take (first_fault w) w) t) × Faulty (drop (first_fault w) w)
fault_found w h = let r = reads w in ((r.text, r.stands), r.fault h)

-- a fault after text with escapes is the place of refusal 30
pub fault_first : (a b t : List ℕ) → Stands a t → Faulty b → first_fault (a ++ b) ≡ length a
fault_first a b t h f = past h b ∙ omega (arith, faulty_now f)

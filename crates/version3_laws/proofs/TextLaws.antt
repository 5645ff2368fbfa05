-- Text escaped anew, octet by octet: over text whose backslashes all start escapes. Assumes nothing.
use mathlib.Core.Path.{◌≡◌, refl, sym, ap, ◌∙◌}
use mathlib.Core.Bool.{Bool, true, false, not, ◌&&◌, false≢true}
use mathlib.Core.List.{List, [], ◌∷◌, ◌++◌}
use Prim.Native.Nat.{ℕ, zero, suc, ◌+◌}
use native.Mathlib.Nat.{zero-add, suc-add}
use native.Mathlib.Omega.{arith}
use lib.Dec.{eqb}
use lib.ListN.{length, replicate}
use borrow.Author.Tests.{eqb-true, ne_eqb, lt-ltb}
use Rattle.octets.specs.Pick.{pick}
use Rattle.octets.specs.Scan.{gather}
use Rattle.octets.proofs.Bools.{by}
use Rattle.value_kinds.specs.Octets.{inner, escapee, backslash, comma, semicolon, holds}
use Rattle.value_laws.specs.Words.{In, Escaped, ends, bare, bare_comma, bare_semicolon, escape}
use Rattle.version3_text.specs.Renewed.{pair_at, small, passed, bare_at, anew, renewed, semicolon_at, semicolons}

-- ---- what an octet of each set is

pub inner_is : (x : ℕ) → In inner x → (x ≡ 92 → ⊥) × (x ≡ 44 → ⊥) × (x ≡ 59 → ⊥)
unfolding holds
inner_is x h = (
  λ e. false≢true (ap (λ (n : ℕ). not (eqb n 92) && (not (eqb n 44) && not (eqb n 59))) (sym e) ∙ h),
  λ e. false≢true (ap (λ (n : ℕ). not (eqb n 92) && (not (eqb n 44) && not (eqb n 59))) (sym e) ∙ h),
  λ e. false≢true (ap (λ (n : ℕ). not (eqb n 92) && (not (eqb n 44) && not (eqb n 59))) (sym e) ∙ h),
)

pub is_inner : (x : ℕ) → (x ≡ 92 → ⊥) → (x ≡ 44 → ⊥) → (x ≡ 59 → ⊥) → In inner x
unfolding holds
is_inner x a b c = simp (ne_eqb x 92 a, ne_eqb x 44 b, ne_eqb x 59 c)

pub comma_is : (x : ℕ) → In comma x → x ≡ 44
unfolding holds
comma_is x h = eqb-true x 44 h

pub semicolon_is : (x : ℕ) → In semicolon x → x ≡ 59
unfolding holds
semicolon_is x h = eqb-true x 59 h

pub backslash_is : (x : ℕ) → In backslash x → x ≡ 92
unfolding holds
backslash_is x h = eqb-true x 92 h

pub marks_in : In backslash 92 × In comma 44 × In semicolon 59
unfolding holds
marks_in = (refl, refl, refl)

-- ---- the octet or the escape that stands first

pub renewed_nil : (w : Bool) → renewed w [] ≡ []
unfolding renewed gather
renewed_nil w = refl

pub renewed_octet : (w : Bool) (x : ℕ) (xs : List ℕ) → (x ≡ 92 → ⊥) → (w && eqb x 59) ≡ false → renewed w (x ∷ xs) ≡ x ∷ renewed w xs
unfolding renewed gather passed anew pair_at bare_at
renewed_octet w x xs n q = simp (ne_eqb x 92 n, q)

pub renewed_mark : (xs : List ℕ) → renewed true (59 ∷ xs) ≡ 92 ∷ 59 ∷ renewed true xs
unfolding renewed gather passed anew pair_at bare_at
renewed_mark xs = refl

pub renewed_pair : (w : Bool) (y : ℕ) (xs : List ℕ) → renewed w (92 ∷ y ∷ xs) ≡ 92 ∷ small y ∷ renewed w xs
unfolding renewed gather passed anew pair_at
renewed_pair w y xs = simp (lt-ltb 1 (length (92 ∷ y ∷ xs)) (omega arith))

semicolons_octet : (x : ℕ) (xs : List ℕ) → (x ≡ 92 → ⊥) → (x ≡ 59 → ⊥) → semicolons (x ∷ xs) ≡ semicolons xs
unfolding semicolons gather passed semicolon_at pair_at bare_at
semicolons_octet x xs n m = simp (ne_eqb x 92 n, ne_eqb x 59 m)

semicolons_mark : (xs : List ℕ) → semicolons (59 ∷ xs) ≡ 59 ∷ semicolons xs
unfolding semicolons gather passed semicolon_at pair_at bare_at
semicolons_mark xs = refl

semicolons_pair : (y : ℕ) (xs : List ℕ) → semicolons (92 ∷ y ∷ xs) ≡ semicolons xs
unfolding semicolons gather passed semicolon_at pair_at
semicolons_pair y xs = simp (lt-ltb 1 (length (92 ∷ y ∷ xs)) (omega arith))

semicolons_nil : length (semicolons []) ≡ 0
unfolding semicolons gather
semicolons_nil = refl

pub no_mark : (w : Bool) (x : ℕ) → (x ≡ 59 → ⊥) → (w && eqb x 59) ≡ false
no_mark true x n = ne_eqb x 59 n
no_mark false x n = refl

-- ---- over a whole text

-- the bare semicolons are those that are counted
pub semicolons_count : {c s : ℕ} {v : List ℕ} → Escaped c s v → length (semicolons v) ≡ s
semicolons_count ends = semicolons_nil
semicolons_count (bare {x = x} {v = v} h e) = ap length (semicolons_octet x v (inner_is x h).0 (inner_is x h).2) ∙ semicolons_count e
semicolons_count (bare_comma {x = x} {v = v} h e) =
    let q = comma_is x h in
    ap length (semicolons_octet x v (λ f. omega arith) (λ f. omega arith)) ∙ semicolons_count e
semicolons_count (bare_semicolon {x = x} {v = v} h e) =
    ap (λ (y : ℕ). length (semicolons (y ∷ v))) (semicolon_is x h) ∙ ap length (semicolons_mark v) ∙ ap suc (semicolons_count e)
semicolons_count (escape {b = b} {x = x} {v = v} h k e) =
    ap (λ (y : ℕ). length (semicolons (y ∷ x ∷ v))) (backslash_is b h) ∙ ap length (semicolons_pair x v) ∙ semicolons_count e

-- one text after the other
pub escaped_append : {c s d r : ℕ} {u w : List ℕ} → Escaped c s u → Escaped d r w → Escaped (c + d) (s + r) (u ++ w)
escaped_append {d = d} {r} {w = w} ends f = rw (zero-add d, zero-add r) f
escaped_append (bare h e) f = bare h (escaped_append e f)
escaped_append {d = d} {r = r} (bare_comma {c = c} h e) f = rw (suc-add c d) (bare_comma h (escaped_append e f))
escaped_append {d = d} {r = r} (bare_semicolon {s = s} h e) f = rw (suc-add s r) (bare_semicolon h (escaped_append e f))
escaped_append (escape h k e) f = escape h k (escaped_append e f)

pub renewed_append : {c s : ℕ} {u : List ℕ} (w : Bool) → Escaped c s u → (v : List ℕ) → renewed w (u ++ v) ≡ renewed w u ++ renewed w v
renewed_append w ends v = ap (λ (l : List ℕ). l ++ renewed w v) (sym (renewed_nil w))
renewed_append w (bare {x = x} {v = u} h e) v =
    let n = inner_is x h in
    renewed_octet w x (u ++ v) n.0 (no_mark w x n.2) ∙ ap (λ (l : List ℕ). x ∷ l) (renewed_append w e v)
    ∙ ap (λ (l : List ℕ). l ++ renewed w v) (sym (renewed_octet w x u n.0 (no_mark w x n.2)))
renewed_append w (bare_comma {x = x} {v = u} h e) v =
    let q = comma_is x h in
    let a : x ≡ 92 → ⊥ = λ f. omega arith in
    let b = no_mark w x (λ f. omega arith) in
    renewed_octet w x (u ++ v) a b ∙ ap (λ (l : List ℕ). x ∷ l) (renewed_append w e v)
    ∙ ap (λ (l : List ℕ). l ++ renewed w v) (sym (renewed_octet w x u a b))
renewed_append true (bare_semicolon {x = x} {v = u} h e) v =
    rw (semicolon_is x h) (renewed_mark (u ++ v) ∙ ap (λ (l : List ℕ). 92 ∷ 59 ∷ l) (renewed_append true e v)
    ∙ ap (λ (l : List ℕ). l ++ renewed true v) (sym (renewed_mark u)))
renewed_append false (bare_semicolon {x = x} {v = u} h e) v =
    let q = semicolon_is x h in
    let a : x ≡ 92 → ⊥ = λ f. omega arith in
    renewed_octet false x (u ++ v) a refl ∙ ap (λ (l : List ℕ). x ∷ l) (renewed_append false e v)
    ∙ ap (λ (l : List ℕ). l ++ renewed false v) (sym (renewed_octet false x u a refl))
renewed_append w (escape {b = b} {x = x} {v = u} h k e) v =
    rw (backslash_is b h) (renewed_pair w x (u ++ v) ∙ ap (λ (l : List ℕ). 92 ∷ small x ∷ l) (renewed_append w e v)
    ∙ ap (λ (l : List ℕ). l ++ renewed w v) (sym (renewed_pair w x u)))

small_code : (x : ℕ) → In escapee x → In escapee (small x)
unfolding holds small
small_code x h = by (eqb x 78) (λ e. rw e refl) (λ e. rw e h)

semi : In escapee 59
unfolding holds
semi = refl

-- escaped anew it is such a text: its bare commas stay, and its bare semicolons where they part something
pub renewed_escaped : {c s : ℕ} {v : List ℕ} (w : Bool) → Escaped c s v → Escaped c (pick w 0 s) (renewed w v)
renewed_escaped true ends = rw (renewed_nil true) ends
renewed_escaped false ends = rw (renewed_nil false) ends
renewed_escaped w (bare {x = x} {v = v} h e) =
    let n = inner_is x h in
    rw (renewed_octet w x v n.0 (no_mark w x n.2)) (bare h (renewed_escaped w e))
renewed_escaped w (bare_comma {x = x} {v = v} h e) =
    let q = comma_is x h in
    rw (renewed_octet w x v (λ f. omega arith) (no_mark w x (λ f. omega arith))) (bare_comma h (renewed_escaped w e))
renewed_escaped true (bare_semicolon {x = x} {v = v} h e) =
    rw (semicolon_is x h, renewed_mark v) (escape marks_in.0 semi (renewed_escaped true e))
renewed_escaped false (bare_semicolon {x = x} {v = v} h e) =
    let q = semicolon_is x h in
    rw (renewed_octet false x v (λ f. omega arith) refl) (bare_semicolon h (renewed_escaped false e))
renewed_escaped w (escape {b = b} {x = x} {v = v} h k e) =
    rw (backslash_is b h, renewed_pair w x v) (escape marks_in.0 (small_code x k) (renewed_escaped w e))

-- so many semicolons
pub semicolons_escaped : (n : ℕ) → Escaped 0 n (replicate n 59)
semicolons_escaped zero = ends
semicolons_escaped (suc n) = bare_semicolon marks_in.2 (semicolons_escaped n)

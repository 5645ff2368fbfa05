-- Whole characters without controls: joined, split at octets of ASCII, and with text escaped anew. Assumes nothing.
use mathlib.Core.Path.{◌≡◌, refl, sym, ap, subst, ◌∙◌}
use mathlib.Core.Bool.{Bool, true, false, ◌&&◌, ◌||◌, false≢true}
use mathlib.Core.List.{List, [], ◌∷◌, ◌++◌, append-nil}
use Prim.Native.Nat.{ℕ, zero, suc, ◌<◌}
use native.Mathlib.Omega.{arith}
use lib.Dec.{eqb}
use lib.ListN.{length, get_or, replicate}
use borrow.Author.Tests.{eqb-true}
use Rattle.octets.specs.Classes.{valued}
use Rattle.octets.proofs.Bools.{by}
use Rattle.utf8.specs.Characters.{tail, char_length, allowed, first_bad}
use Rattle.utf8.proofs.Chars.{ascii}
use Rattle.utf8.proofs.Chains.{Chars, end, start, inner, char_same, char_more, char_less, tail_range, chars_fit, good_chars, chars_good}
use Rattle.utf8_laws.proofs.Utf8.{allowed_only}
use Rattle.line_parser.specs.Grammar.{Each, led}
use Rattle.reader_grammar.specs.Cards.{Clean}
use Rattle.value_kinds.specs.Octets.{escapee, holds}
use Rattle.value_laws.specs.Words.{In, Escaped, ends, bare, bare_comma, bare_semicolon, escape}
use Rattle.version3_text.specs.Renewed.{small, renewed}
use Rattle.version3_laws.proofs.TextLaws.{inner_is, comma_is, semicolon_is, backslash_is, renewed_nil, renewed_octet, renewed_mark, renewed_pair, no_mark}

-- k octets are left of the character begun, and then whole characters follow, none of them a control
abbrev pub From : ℕ → List ℕ → Type 0
From k l = Chars (allowed false) k l

abbrev pub Fair : List ℕ → Type 0
Fair l = From 0 l

pub clean_fair : {l : List ℕ} → Clean l → Fair l
clean_fair {l} h = good_chars (allowed false) l ((allowed_only false l).1 (h.characters, h.octets))

pub fair_clean : {l : List ℕ} → Fair l → Clean l
fair_clean {l} h = let a = (allowed_only false l).0 (chars_good (allowed false) l h) in record { characters = a.0; octets = a.1 }

pub fair_bad : {l : List ℕ} → Fair l → first_bad (allowed false) l ≡ length l
fair_bad {l} h = chars_good (allowed false) l h

-- ---- joined and split

pub fair_append : {k : ℕ} {u v : List ℕ} → From k u → Fair v → From k (u ++ v)
fair_append end g = g
fair_append {v = v} (start {x = x} {m = m} {xs = xs} a e c) g = start a (char_more (x ∷ xs) v m e) (fair_append c g)
fair_append (inner t c) g = inner t (fair_append c g)

-- an octet of ASCII that may stand in a line
pub record Ascii (c : ℕ) : Type 0 where
  pub low : c < 128
  pub fine : allowed false c ≡ true

no_tail : (c : ℕ) → c < 128 → tail c ≡ true → ⊥
no_tail c h t = omega (arith, (tail_range c t).0)

pub fair_split : (u v : List ℕ) (c : ℕ) {k : ℕ} → c < 128 → From k (u ++ (c ∷ v)) → From k u × Fair (c ∷ v)
fair_split [] v c h (start a e r) = (end, start a e r)
fair_split [] v c h (inner t r) = absurd (no_tail c h t)
fair_split (x ∷ u) v c h (start {m = m} a e r) =
    let q = fair_split u v c h r in
    (start a (char_less (x ∷ u) (c ∷ v) m (omega (arith, chars_fit q.0)) e) q.0, q.1)
fair_split (x ∷ u) v c h (inner t r) = let q = fair_split u v c h r in (inner t q.0, q.1)

none_begun : {k : ℕ} {l : List ℕ} → k ≡ 0 → From k l → Fair l
none_begun {l = l} e r = subst (λ (n : ℕ). From n l) e r

one_octet : (x : ℕ) (l : List ℕ) {m : ℕ} → x < 128 → char_length (x ∷ l) ≡ suc m → m ≡ 0
one_octet x l h e = omega (arith, e, ascii (x ∷ l) 0 (omega arith) h)

pub fair_rest : (c : ℕ) (v : List ℕ) → c < 128 → Fair (c ∷ v) → Fair v
fair_rest c v h (start {m = m} a e r) = none_begun (one_octet c v h e) r

pub fair_cons : {c : ℕ} {v : List ℕ} → Ascii c → Fair v → Fair (c ∷ v)
fair_cons {c} {v} a r = start a.fine (ascii (c ∷ v) 0 (omega arith) a.low) r

pub fair_each : (u : List ℕ) → Each Ascii u → Fair u
unfolding Each
fair_each [] h = end
fair_each (x ∷ u) h = fair_cons h.0 (fair_each u h.1)

pub fair_repeat : (n : ℕ) {c : ℕ} → Ascii c → Fair (replicate n c)
fair_repeat zero a = end
fair_repeat (suc n) a = fair_cons a (fair_repeat n a)

-- parts behind a mark
module _ {A : Type 0} (c : ℕ) (f : A → List ℕ) where
  pub head_part : (u : List ℕ) (xs : List A) → c < 128 → Fair (u ++ led c f xs) → Fair u × Fair (led c f xs)
  unfolding led
  head_part u [] h r = (subst Fair (append-nil u) r, end)
  head_part u (x ∷ xs) h r = fair_split u (f x ++ led c f xs) c h r

  pub led_parts : (xs : List A) → c < 128 → Fair (led c f xs) → Each (λ x. Fair (f x)) xs
  unfolding led Each
  led_parts [] h r = tt
  led_parts (x ∷ xs) h r = let q = head_part (f x) xs h (fair_rest c (f x ++ led c f xs) h r) in (q.0, led_parts xs h q.1)

  pub parts_led : (xs : List A) → Ascii c → Each (λ x. Fair (f x)) xs → Fair (led c f xs)
  unfolding led Each
  parts_led [] a h = end
  parts_led (x ∷ xs) a h = fair_cons a (fair_append h.0 (parts_led xs a h.1))

-- ---- text escaped anew

high_renewed : (w : Bool) (x : ℕ) (xs : List ℕ) → tail x ≡ true → renewed w (x ∷ xs) ≡ x ∷ renewed w xs
high_renewed w x xs t =
    let r = tail_range x t in
    renewed_octet w x xs (λ e. omega arith) (no_mark w x (λ e. omega arith))

tails_kept : {k : ℕ} {v : List ℕ} (w : Bool) → From k v → (i : ℕ) → i < k → get_or v i 0 ≡ get_or (renewed w v) i 0
tails_kept w end i h = absurd (omega arith)
tails_kept w (start a e r) i h = absurd (omega arith)
tails_kept w (inner {x = x} {xs = xs} t r) zero h = ap (λ (l : List ℕ). get_or l 0 0) (sym (high_renewed w x xs t))
tails_kept w (inner {x = x} {xs = xs} t r) (suc i) h = tails_kept w r i (omega arith) ∙ ap (λ (l : List ℕ). get_or l (suc i) 0) (sym (high_renewed w x xs t))

shifted : (x : ℕ) (u v : List ℕ) (m : ℕ) → ((i : ℕ) → i < m → get_or u i 0 ≡ get_or v i 0) → (i : ℕ) → i < suc m → get_or (x ∷ u) i 0 ≡ get_or (x ∷ v) i 0
shifted x u v m f zero h = refl
shifted x u v m f (suc i) h = f i (omega arith)

-- an octet that stays, at the start of a character or inside one
stays : (w : Bool) (x : ℕ) (v : List ℕ) {k : ℕ} → (x ≡ 92 → ⊥) → (w && eqb x 59) ≡ false → From k (x ∷ v) → ((m : ℕ) → From m v → From m (renewed w v)) → From k (renewed w (x ∷ v))
stays w x v n q (start {m = m} a e r) f =
    let d = f m r in
    subst Fair (sym (renewed_octet w x v n q))
    (start a (char_same (x ∷ v) (x ∷ renewed w v) m (shifted x v (renewed w v) m (tails_kept w r)) e (omega (arith, chars_fit d))) d)
stays w x v n q (inner {k = k} t r) f = subst (From (suc k)) (sym (renewed_octet w x v n q)) (inner t (f k r))

fine_marks : Ascii 92 × Ascii 59 × Ascii 44
unfolding allowed valued
fine_marks = (record { low = omega arith; fine = refl }, record { low = omega arith; fine = refl }, record { low = omega arith; fine = refl })

code_low : (x : ℕ) → In escapee x → x < 128
unfolding holds
code_low x h = go (eqb x 92) (eqb x 44) (eqb x 59) (eqb x 110) (eqb x 78) refl refl refl refl refl h
  where
    go : (a b c d e : Bool) → eqb x 92 ≡ a → eqb x 44 ≡ b → eqb x 59 ≡ c → eqb x 110 ≡ d → eqb x 78 ≡ e → (a || (b || (c || (d || e)))) ≡ true → x < 128
    go true b c d e p q r s t z = omega (arith, eqb-true x 92 p)
    go false true c d e p q r s t z = omega (arith, eqb-true x 44 q)
    go false false true d e p q r s t z = omega (arith, eqb-true x 59 r)
    go false false false true e p q r s t z = omega (arith, eqb-true x 110 s)
    go false false false false true p q r s t z = omega (arith, eqb-true x 78 t)
    go false false false false false p q r s t z = absurd (false≢true z)

n_fine : Ascii 110
unfolding allowed valued
n_fine = record { low = omega arith; fine = refl }

first_fine : {x : ℕ} {v : List ℕ} → Fair (x ∷ v) → allowed false x ≡ true
first_fine (start a e r) = a

small_ascii : (x : ℕ) → Ascii x → Ascii (small x)
unfolding small
small_ascii x a = by (eqb x 78) (λ e. rw e n_fine) (λ e. rw e a)

mark_anew : (x : ℕ) (v : List ℕ) {k : ℕ} → x ≡ 59 → From k (x ∷ v) → ((m : ℕ) → From m v → From m (renewed true v)) → From k (renewed true (x ∷ v))
mark_anew x v q (start {m = m} a e r) f =
    subst (λ (y : ℕ). Fair (renewed true (y ∷ v))) (sym q)
    (subst Fair (sym (renewed_mark v)) (fair_cons fine_marks.0 (fair_cons fine_marks.1 (f 0 (none_begun (one_octet x v (omega arith) e) r)))))
mark_anew x v q (inner t r) f = absurd (no_tail x (omega arith) t)

pair_anew : (w : Bool) (b x : ℕ) (v : List ℕ) {k : ℕ} → b ≡ 92 → x < 128 → From k (b ∷ x ∷ v) → ((m : ℕ) → From m v → From m (renewed w v)) → From k (renewed w (b ∷ x ∷ v))
pair_anew w b x v q h (start {m = m} a e r) f =
    let s = none_begun (one_octet b (x ∷ v) (omega arith) e) r in
    subst (λ (y : ℕ). Fair (renewed w (y ∷ x ∷ v))) (sym q)
    (subst Fair (sym (renewed_pair w x v)) (fair_cons fine_marks.0 (fair_cons (small_ascii x (record { low = h; fine = first_fine s })) (f 0 (fair_rest x v h s)))))
pair_anew w b x v q h (inner t r) f = absurd (no_tail b (omega arith) t)

-- text escaped anew is whole characters without controls where the text is
pub fair_renewed : {c s k : ℕ} {v : List ℕ} (w : Bool) → Escaped c s v → From k v → From k (renewed w v)
fair_renewed w ends r = subst (From _) (sym (renewed_nil w)) r
fair_renewed w (bare {x = x} {v = v} h e) r = let n = inner_is x h in stays w x v n.0 (no_mark w x n.2) r (λ m q. fair_renewed w e q)
fair_renewed w (bare_comma {x = x} {v = v} h e) r =
    let q = comma_is x h in
    stays w x v (λ (f : x ≡ 92). omega arith) (no_mark w x (λ (f : x ≡ 59). omega arith)) r (λ m q. fair_renewed w e q)
fair_renewed true (bare_semicolon {x = x} {v = v} h e) r = mark_anew x v (semicolon_is x h) r (λ m q. fair_renewed true e q)
fair_renewed false (bare_semicolon {x = x} {v = v} h e) r =
    let q = semicolon_is x h in
    stays false x v (λ (f : x ≡ 92). omega arith) refl r (λ m q. fair_renewed false e q)
fair_renewed w (escape {b = b} {x = x} {v = v} h k e) r = pair_anew w b x v (backslash_is b h) (code_low x k) r (λ m q. fair_renewed w e q)

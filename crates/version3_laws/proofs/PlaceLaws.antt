-- The tests of floats and of the two forms of GEO hold exactly where the relations do, and each form is made of the other. Assumes nothing.
use mathlib.Core.Path.{◌≡◌, refl, sym, ap, subst, ◌∙◌}
use mathlib.Core.Bool.{Bool, true, false, not, ◌&&◌, false≢true, true≢false}
use mathlib.Core.List.{List, [], ◌∷◌, ◌++◌, append-nil}
use mathlib.Core.Logic.{◌⊎◌, inl, inr, ◌↔◌}
use Prim.Native.Nat.{ℕ, suc, ◌<◌}
use native.Mathlib.Omega.{arith}
use lib.Dec.{eqb, ltb, leb}
use lib.ListN.{length, get_or, take, drop, take-append-drop, length-append}
use lib.Seq.{take-append_seam, drop-append_seam, take-length, split_at, length-take-le, set-append_seam}
use borrow.Author.Tests.{eqb-true, eq-eqb, ne_eqb, lt-ltb, ltb-true}
use Rattle.octets.specs.Ascii.{octets}
use Rattle.octets.specs.Classes.{digit, run, more}
use Rattle.octets.proofs.Bools.{by, and_both}
use Rattle.line_parser.specs.Grammar.{Each, Is}
use Rattle.line_parser.proofs.PartLaws.{run_le}
use Rattle.line_parameters.proofs.Complete.{run_append}
use Rattle.line_parameters.proofs.Sound.{run_each}
use Rattle.version3_geo.specs.Floats.{digits, fraction, unsigned, sign, float, up_to, floats, swapped, schemed, old_geo, new_geo, made_new, made_old}
use Rattle.version3_laws.specs.Floats.{Digits, Unsigned, whole, broken, Float, signed, Floats, OldGeo, NewGeo}
use Rattle.version3_laws.specs.Floats as places
use Rattle.version3_laws.proofs.Small.{clash}

pub each_append : {A : Type 0} (P : A → Type 0) (u v : List A) → Each P u → Each P v → Each P (u ++ v)
unfolding Each
each_append P [] v h g = g
each_append P (x ∷ u) v h g = (h.0, each_append P u v h.1 g)

-- ---- digits

no_digit : digit 0 ≡ false
unfolding digit
no_digit = refl

no_digit_dot : digit 46 ≡ false
unfolding digit
no_digit_dot = refl

run_all : (p : ℕ → Bool) (l : List ℕ) → p 0 ≡ false → Each (Is p) l → run p l ≡ length l
run_all p l z h = ap (run p) (sym (append-nil l)) ∙ run_append p l [] h z

digits_to : (l : List ℕ) → digits l ≡ true → Digits l
unfolding digits
digits_to l e =
    let a = and_both (ltb 0 (length l)) (eqb (run digit l) (length l)) e in
    let q = eqb-true (run digit l) (length l) a.1 in
    record { some = ltb-true 0 (length l) a.0; each = subst (Each (Is digit)) (ap (λ (n : ℕ). take n l) q ∙ take-length l) (run_each digit l) }

digits_from : (l : List ℕ) → Digits l → digits l ≡ true
unfolding digits
digits_from l h = rw (lt-ltb 0 (length l) h.some, eq-eqb (run digit l) (length l) (run_all digit l no_digit h.each))

-- ---- unsigned

fraction_to : (u l : List ℕ) → Digits u → fraction l ≡ true → Unsigned (u ++ l)
unfolding fraction
fraction_to u [] h e = subst Unsigned (sym (append-nil u)) (whole h)
fraction_to u (x ∷ l) h e =
    let a = and_both (eqb x 46) (digits l) (rw (ne_eqb (suc (length l)) 0 (λ q. omega arith)) at e) in
    subst (λ (y : ℕ). Unsigned (u ++ (y ∷ l))) (sym (eqb-true x 46 a.0)) (broken h (digits_to l a.1))

unsigned_to : (l : List ℕ) → unsigned l ≡ true → Unsigned l
unfolding unsigned
unsigned_to l e =
    let a = and_both (ltb 0 (run digit l)) (fraction (drop (run digit l) l)) e in
    let d : Digits (take (run digit l) l)
    = record { some = rw (length-take-le (run digit l) l (run_le digit l)) (ltb-true 0 (run digit l) a.0); each = run_each digit l } in
    subst Unsigned (take-append-drop (run digit l) l) (fraction_to (take (run digit l) l) (drop (run digit l) l) d a.1)

fraction_none : fraction [] ≡ true
unfolding fraction
fraction_none = refl

fraction_dot : (v : List ℕ) → Digits v → fraction (46 ∷ v) ≡ true
unfolding fraction
fraction_dot v h = rw (ne_eqb (suc (length v)) 0 (λ q. omega arith)) (digits_from v h)

unsigned_run : (u v : List ℕ) → Digits u → run digit (u ++ v) ≡ length u → fraction v ≡ true → unsigned (u ++ v) ≡ true
unfolding unsigned
unsigned_run u v h e f = rw (e, lt-ltb 0 (length u) h.some, drop-append_seam u v, f)

unsigned_from : {l : List ℕ} → Unsigned l → unsigned l ≡ true
unsigned_from (whole {u = u} h) = subst (λ (l : List ℕ). unsigned l ≡ true) (append-nil u) (unsigned_run u [] h (run_append digit u [] h.each no_digit) fraction_none)
unsigned_from (broken {u = u} {v = v} h g) = unsigned_run u (46 ∷ v) h (run_append digit u (46 ∷ v) h.each no_digit_dot) (fraction_dot v g)

-- ---- floats

first_digit : (u : List ℕ) → Digits u → (v : List ℕ) → digit (get_or (u ++ v) 0 0) ≡ true
unfolding Each
first_digit [] h v = absurd (omega (arith, h.some))
first_digit (x ∷ u) h v = h.each.0

unsigned_first : {l : List ℕ} → Unsigned l → digit (get_or l 0 0) ≡ true
unsigned_first (whole {u = u} h) = subst (λ (l : List ℕ). digit (get_or l 0 0) ≡ true) (append-nil u) (first_digit u h [])
unsigned_first (broken {u = u} {v = v} h g) = first_digit u h (46 ∷ v)

digit_sign : (x : ℕ) → digit x ≡ true → sign x ≡ false
unfolding digit sign
digit_sign x h =
    by (eqb x 43)
    (λ e. absurd (false≢true (ap (λ (n : ℕ). leb 48 n && leb n 57) (sym (eqb-true x 43 e)) ∙ h)))
    (λ e. by (eqb x 45)
    (λ f. absurd (false≢true (ap (λ (n : ℕ). leb 48 n && leb n 57) (sym (eqb-true x 45 f)) ∙ h)))
    (λ f. rw (e, f)))

sign_to : (x : ℕ) → sign x ≡ true → (x ≡ 43) ⊎ (x ≡ 45)
unfolding sign
sign_to x e = by (eqb x 43) (λ p. inl (eqb-true x 43 p)) (λ p. inr (eqb-true x 45 (rw p at e)))

sign_from : (x : ℕ) → (x ≡ 43) ⊎ (x ≡ 45) → sign x ≡ true
unfolding sign
sign_from x (inl e) = rw e
sign_from x (inr e) = rw e

no_sign : sign 0 ≡ false
unfolding sign
no_sign = refl

float_to : (l : List ℕ) → float l ≡ true → Float l
unfolding float
float_to [] e = places.unsigned (unsigned_to [] (rw no_sign at e))
float_to (x ∷ l) e =
    by (sign x) (λ s. signed (sign_to x s) (unsigned_to l (rw s at e))) (λ s. places.unsigned (unsigned_to (x ∷ l) (rw s at e)))

float_from : {l : List ℕ} → Float l → float l ≡ true
unfolding float
float_from (places.unsigned {v = v} h) = rw (digit_sign (get_or v 0 0) (unsigned_first h)) (unsigned_from h)
float_from (signed {s = s} {v = v} e h) = rw (sign_from s e) (unsigned_from h)

pub float_law : (l : List ℕ) → (float l ≡ true) ↔ Float l
float_law l = (float_to l, float_from)

-- ---- two floats with a mark between them

-- octets that a float may have
pub data InFloat : ℕ → Type 0 where
  a_digit : {x : ℕ} → digit x ≡ true → InFloat x
  a_dot : InFloat 46
  a_plus : InFloat 43
  a_minus : InFloat 45

each_digit : (u : List ℕ) → Each (Is digit) u → Each InFloat u
unfolding Each
each_digit [] h = tt
each_digit (x ∷ u) h = (a_digit h.0, each_digit u h.1)

unsigned_octets : {l : List ℕ} → Unsigned l → Each InFloat l
unfolding Each
unsigned_octets (whole {u = u} h) = each_digit u h.each
unsigned_octets (broken {u = u} {v = v} h g) = each_append InFloat u (46 ∷ v) (each_digit u h.each) (a_dot, each_digit v g.each)

pub float_octets : {l : List ℕ} → Float l → Each InFloat l
unfolding Each
float_octets (places.unsigned h) = unsigned_octets h
float_octets (signed {s = s} (inl e) h) = (subst InFloat (sym e) a_plus, unsigned_octets h)
float_octets (signed {s = s} (inr e) h) = (subst InFloat (sym e) a_minus, unsigned_octets h)

each_map : {A : Type 0} (P Q : A → Type 0) → ((x : A) → P x → Q x) → (u : List A) → Each P u → Each Q u
unfolding Each
each_map P Q f [] h = tt
each_map P Q f (x ∷ u) h = (f x h.0, each_map P Q f u h.1)

-- a mark that no float has
abbrev Parts : ℕ → Type 0
Parts mark = (x : ℕ) → InFloat x → not (eqb x mark) ≡ true

parts_by : (mark : ℕ) → digit mark ≡ false → eqb 46 mark ≡ false → eqb 43 mark ≡ false → eqb 45 mark ≡ false → {x : ℕ} → InFloat x → not (eqb x mark) ≡ true
parts_by mark d a b c (a_digit {x = x} h) = by (eqb x mark) (λ e. clash h (ap digit (eqb-true x mark e) ∙ d)) (λ e. rw e)
parts_by mark d a b c a_dot = rw a
parts_by mark d a b c a_plus = rw b
parts_by mark d a b c a_minus = rw c

semicolon_parts : Parts 59
unfolding digit
semicolon_parts x h = parts_by 59 refl refl refl refl h

comma_parts : Parts 44
unfolding digit
comma_parts x h = parts_by 44 refl refl refl refl h

-- a run ends at an octet that fails the test
run_stops : (p : ℕ → Bool) (l : List ℕ) → run p l < length l → p (get_or l (run p l) 0) ≡ false
unfolding run
run_stops p [] h = absurd (omega arith)
run_stops p (x ∷ l) h = go (p x) refl h (λ k. run_stops p l k)
  where
    go : (b : Bool) → p x ≡ b → more b (run p l) < suc (length l) → (run p l < length l → p (get_or l (run p l) 0) ≡ false) → p (get_or (x ∷ l) (more b (run p l)) 0) ≡ false
    go true e g ih = ih (omega arith)
    go false e g ih = e

not-false : (x mark : ℕ) → not (eqb x mark) ≡ false → x ≡ mark
not-false x mark e = by (eqb x mark) (λ h. eqb-true x mark h) (λ h. absurd (true≢false (ap not (sym h) ∙ e)))

module _ (mark : ℕ) (parts : Parts mark) where
  floats_to : (l : List ℕ) → floats mark l ≡ true → (a : List ℕ) × (b : List ℕ) × Floats mark a b l
  unfolding floats up_to
  floats_to l e =
      let n = run (λ b. not (eqb b mark)) l in
      let r = and_both (ltb n (length l)) (float (take n l) && float (drop (suc n) l)) e in
      let s = and_both (float (take n l)) (float (drop (suc n) l)) r.1 in
      let lt = ltb-true n (length l) r.0 in
      let m : get_or l n 0 ≡ mark = not-false (get_or l n 0) mark (run_stops (λ b. not (eqb b mark)) l lt) in
      let q : take n l ++ (mark ∷ drop (suc n) l) ≡ l = ap (λ (x : ℕ). take n l ++ (x ∷ drop (suc n) l)) (sym m) ∙ sym (split_at l n 0 lt) in
      (take n l, drop (suc n) l, subst (Floats mark (take n l) (drop (suc n) l)) q (places.floats (float_to (take n l) s.0) (float_to (drop (suc n) l) s.1)))

  up_to_lem : (a b : List ℕ) → Float a → up_to mark (a ++ (mark ∷ b)) ≡ length a
  unfolding up_to
  up_to_lem a b h = run_append (λ x. not (eqb x mark)) a (mark ∷ b) (each_map InFloat (Is (λ x. not (eqb x mark))) parts a (float_octets h)) (rw (eq-eqb mark mark refl))

  floats_from : {a b l : List ℕ} → Floats mark a b l → floats mark l ≡ true
  unfolding floats
  floats_from {a} {b} (places.floats f g) =
      rw (up_to_lem a b f, take-append_seam a (mark ∷ b), drop_past a b, float_from f, float_from g, lt-ltb (length a) (length (a ++ (mark ∷ b))) (omega (arith, length-append a (mark ∷ b))))
    where
      drop_past : (u v : List ℕ) → drop (suc (length u)) (u ++ (mark ∷ v)) ≡ v
      drop_past [] v = refl
      drop_past (x ∷ u) v = drop_past u v

  swapped_law : (other : ℕ) {a b l : List ℕ} → Floats mark a b l → swapped mark other l ≡ a ++ (other ∷ b)
  unfolding swapped
  swapped_law other {a} {b} (places.floats f g) = rw (up_to_lem a b f) (set-append_seam a mark b other)

-- ---- the forms of version 3 and of version 4

pub old_to : (v : List ℕ) → old_geo v ≡ true → (a : List ℕ) × (b : List ℕ) × OldGeo a b v
unfolding old_geo
old_to v e = floats_to 59 semicolon_parts v e

pub old_from : {a b v : List ℕ} → OldGeo a b v → old_geo v ≡ true
unfolding old_geo
old_from h = floats_from 59 semicolon_parts h

-- made new it is the other form of the same floats
pub made_new_lem : {a b v : List ℕ} → OldGeo a b v → NewGeo a b (made_new v)
unfolding made_new
made_new_lem {a} {b} {v} h = rw (swapped_law 59 semicolon_parts 44 h) (go h)
  where
    go : {u : List ℕ} → OldGeo a b u → NewGeo a b (octets "geo:" ++ (a ++ (44 ∷ b)))
    go (places.floats f g) = places.schemed (places.floats f g)

pub new_only : {a b v w : List ℕ} → OldGeo a b v → NewGeo a b w → w ≡ made_new v
unfolding made_new
new_only {a} {b} {v} h (places.schemed (places.floats f g)) = ap (λ (l : List ℕ). octets "geo:" ++ l) (sym (swapped_law 59 semicolon_parts 44 h))

schemed_to : (v : List ℕ) → schemed v ≡ true → v ≡ octets "geo:" ++ drop 4 v
unfolding schemed octets
schemed_to v e =
    let a = and_both (eqb (get_or v 0 0) 103) (eqb (get_or v 1 0) 101 && (eqb (get_or v 2 0) 111 && eqb (get_or v 3 0) 58)) e in
    let b = and_both (eqb (get_or v 1 0) 101) (eqb (get_or v 2 0) 111 && eqb (get_or v 3 0) 58) a.1 in
    let c = and_both (eqb (get_or v 2 0) 111) (eqb (get_or v 3 0) 58) b.1 in
    go v (eqb-true (get_or v 0 0) 103 a.0) (eqb-true (get_or v 1 0) 101 b.0) (eqb-true (get_or v 2 0) 111 c.0) (eqb-true (get_or v 3 0) 58 c.1)
  where
    go : (v : List ℕ) → get_or v 0 0 ≡ 103 → get_or v 1 0 ≡ 101 → get_or v 2 0 ≡ 111 → get_or v 3 0 ≡ 58 → v ≡ 103 ∷ 101 ∷ 111 ∷ 58 ∷ drop 4 v
    go [] p q r s = absurd (omega arith)
    go (x ∷ []) p q r s = absurd (omega arith)
    go (x ∷ y ∷ []) p q r s = absurd (omega arith)
    go (x ∷ y ∷ z ∷ []) p q r s = absurd (omega arith)
    go (x ∷ y ∷ z ∷ u ∷ v) p q r s = rw (p, q, r, s)

schemed_from : (v : List ℕ) → schemed (octets "geo:" ++ v) ≡ true
unfolding schemed octets
schemed_from v = refl

past_scheme : (v : List ℕ) → drop 4 (octets "geo:" ++ v) ≡ v
unfolding octets
past_scheme v = refl

pub new_to : (v : List ℕ) → new_geo v ≡ true → (a : List ℕ) × (b : List ℕ) × NewGeo a b v
unfolding new_geo
new_to v e =
    let s = and_both (schemed v) (floats 44 (drop 4 v)) e in
    let f = floats_to 44 comma_parts (drop 4 v) s.1 in
    (f.0, f.1, subst (NewGeo f.0 f.1) (sym (schemed_to v s.0)) (places.schemed f.2))

pub new_from : {a b v : List ℕ} → NewGeo a b v → new_geo v ≡ true
unfolding new_geo
new_from (places.schemed {v = v} h) = rw (schemed_from v, past_scheme v) (floats_from 44 comma_parts h)

pub made_old_lem : {a b v : List ℕ} → NewGeo a b v → OldGeo a b (made_old v)
unfolding made_old
made_old_lem {a} {b} (places.schemed {v = v} h) = rw (schemed_from v, past_scheme v, swapped_law 44 comma_parts 59 h) (go h)
  where
    go : {u : List ℕ} → Floats 44 a b u → OldGeo a b (a ++ (59 ∷ b))
    go (places.floats f g) = places.floats f g

pub old_only : {a b v w : List ℕ} → NewGeo a b v → OldGeo a b w → w ≡ made_old v
unfolding made_old
old_only {a} {b} (places.schemed {v = v} h) (places.floats f g) = rw (schemed_from v, past_scheme v) (sym (swapped_law 44 comma_parts 59 h))

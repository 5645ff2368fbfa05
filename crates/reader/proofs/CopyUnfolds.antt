-- The copy of an input without lone CR or LF that ends in CR LF: the input without its folds. Assumes nothing.
use mathlib.Core.Path.{◌≡◌, refl, sym, ap, ◌∙◌}
use mathlib.Core.Bool.{Bool, true, false, ◌&&◌, ◌||◌}
use mathlib.Core.List.{List, [], ◌∷◌, ◌++◌, map}
use Prim.Native.Nat.{ℕ, suc, ◌+◌, ◌-◌, ◌<◌, ◌≤◌}
use native.Mathlib.Nat.{zero-add}
use native.Mathlib.Omega.{arith}
use lib.Dec.{eqb}
use lib.ListN.{length, get_or, take, drop, length-append}
use borrow.Author.Tests.{ne_eqb, eqb-true, eqb-false, le-ltb}
use Rattle.octets.specs.Scan.{scan, gather}
use Rattle.line_folds.specs.Folds.{fold_at, line_step, line_length, passed, kept, unfolded}
use Rattle.line_folds.specs.Logical.{raw_lines, logical_lines}
use Rattle.line_breaks.specs.Lone.{lone_step, first_lone, ends_cr_lf}
use Rattle.line_folds.proofs.LineLaws.{lines_step, lines_end}
use Rattle.reader.specs.Outcome.{ended, copy_of}

clash : {A : Type 0} → true ≡ false → A
clash e = let z : ◌≡◌ {A = ℕ} 0 1 = cc in absurd (omega arith)

-- physical lines, each ended by CR LF; the Bool says whether the first of them is begun
data Text : Bool → List ℕ → Type 0 where
  done : Text false []
  octet : {b : Bool} {x : ℕ} {xs : List ℕ} → (x ≡ 13 → ⊥) → (x ≡ 10 → ⊥) → Text true xs → Text b (x ∷ xs)
  pair : {b : Bool} {xs : List ℕ} → Text false xs → Text b (13 ∷ 10 ∷ xs)

begun : {l : List ℕ} → Text true l → 0 < length l
begun (octet h g t) = omega arith
begun (pair t) = omega arith

-- the end of a list does not go by its first octet
ends_tail : (x : ℕ) (l : List ℕ) → 2 ≤ length l → ends_cr_lf (x ∷ l) ≡ ends_cr_lf l
unfolding ends_cr_lf
ends_tail x l h =
    let a : suc (length l) - 2 ≡ suc (length l - 2) = omega arith in
    let b : suc (length l) - 1 ≡ suc (length l - 1) = omega arith in
    rw (a, b, le-ltb (suc (length l)) 2 (omega arith), le-ltb (length l) 2 h)

pub ends_append : (a b : List ℕ) → 2 ≤ length b → ends_cr_lf (a ++ b) ≡ ends_cr_lf b
ends_append [] b h = refl
ends_append (x ∷ xs) b h = ends_tail x (xs ++ b) (omega (arith, length-append xs b)) ∙ ends_append xs b h

module _ (x y : ℕ) where
  ends_two : {A : Type 0} → ends_cr_lf (x ∷ y ∷ []) ≡ true → (x ≡ 13 → y ≡ 10 → A) → A
  unfolding ends_cr_lf
  ends_two {A} e f = by (eqb x 13) (eqb y 10) refl refl e
    where
      by : (a b : Bool) → eqb x 13 ≡ a → eqb y 10 ≡ b → (a && b) ≡ true → A
      by true true p q e = f (eqb-true x 13 p) (eqb-true y 10 q)
      by true false p q e = clash (sym e)
      by false b p q e = clash (sym e)

pairs : {b : Bool} (x y : ℕ) {xs : List ℕ} → x ≡ 13 → y ≡ 10 → Text false xs → Text b (x ∷ y ∷ xs)
pairs x y p q t = rw (p, q) (pair t)

-- where no CR or LF is alone and the end is CR LF
module _ (b : Bool) (x y z : ℕ) (zs : List ℕ) where
  text_by : (p q r : Bool) → eqb x 10 ≡ p → eqb x 13 ≡ q → eqb y 10 ≡ r → scan lone_step (x ∷ y ∷ z ∷ zs) 0 ≡ suc (suc (suc (length zs)))
      → (scan lone_step (y ∷ z ∷ zs) 0 ≡ suc (suc (length zs)) → Text true (y ∷ z ∷ zs))
      → (y ≡ 10 → scan lone_step (z ∷ zs) 0 ≡ suc (length zs) → Text false (z ∷ zs))
      → Text b (x ∷ y ∷ z ∷ zs)
  unfolding scan lone_step
  text_by true q r e f g h s t = absurd (omega (arith, simp e at h))
  text_by false true true e f g h s t =
      pairs x y (eqb-true x 13 f) (eqb-true y 10 g) (t (eqb-true y 10 g) (omega (arith, simp (e, f, g) at h)))
  text_by false true false e f g h s t = absurd (omega (arith, simp (e, f, g) at h))
  text_by false false r e f g h s t = octet (eqb-false x 13 f) (eqb-false x 10 e) (s (omega (arith, simp (e, f) at h)))

text : (b : Bool) (l : List ℕ) → scan lone_step l 0 ≡ length l → ends_cr_lf l ≡ true → Text b l
unfolding ends_cr_lf
text b [] h e = clash (sym e)
text b (x ∷ []) h e = clash (sym e)
text b (x ∷ y ∷ []) h e = ends_two x y e (λ p q. pairs x y p q done)
text b (x ∷ y ∷ z ∷ []) h e =
    let f = sym (ends_tail x (y ∷ z ∷ []) (omega arith)) ∙ e in
    text_by b x y z [] (eqb x 10) (eqb x 13) (eqb y 10) refl refl refl h (λ s. text true (y ∷ z ∷ []) s f)
    (λ q s. ends_two y z f (λ v w. absurd (omega arith)))
text b (x ∷ y ∷ z ∷ w ∷ ws) h e =
    let f = sym (ends_tail x (y ∷ z ∷ w ∷ ws) (omega arith)) ∙ e in
    let g = sym (ends_tail y (z ∷ w ∷ ws) (omega arith)) ∙ f in
    text_by b x y z (w ∷ ws) (eqb x 10) (eqb x 13) (eqb y 10) refl refl refl h (λ s. text true (y ∷ z ∷ w ∷ ws) s f)
    (λ q s. text false (z ∷ w ∷ ws) s g)

-- lines and unfolding at an octet that is no CR, at a fold, and at a line's end
pub no_fold : (x : ℕ) (xs : List ℕ) → (x ≡ 13 → ⊥) → fold_at (x ∷ xs) ≡ false
unfolding fold_at
no_fold x xs h = simp (ne_eqb x 13 h)

pub kept_octet : (x : ℕ) (xs : List ℕ) → (x ≡ 13 → ⊥) → unfolded (x ∷ xs) ≡ x ∷ unfolded xs
unfolding unfolded gather passed kept
kept_octet x xs h = simp (no_fold x xs h)

pub line_octet : (x : ℕ) (xs : List ℕ) → (x ≡ 13 → ⊥) → line_length (x ∷ xs) ≡ suc (line_length xs)
unfolding line_length scan line_step
line_octet x xs h = simp (no_fold x xs h, ne_eqb x 13 h)

-- the first logical line, n octets long, and the others
pub raw : (l : List ℕ) (n : ℕ) → 0 < length l → line_length l ≡ n → raw_lines l ≡ take n l ∷ raw_lines (drop (n + 2) l)
raw l n h e = lines_step l 0 h n (sym e) ∙ ap (λ (m : ℕ). take n l ∷ raw_lines (drop m l)) (zero-add (n + 2))

whole : List ℕ → List ℕ
whole l = ended (map unfolded (raw_lines l))

-- one octet more
longer : (x : ℕ) (xs : List ℕ) → (x ≡ 13 → ⊥) → 0 < length xs → whole (x ∷ xs) ≡ x ∷ whole xs
unfolding whole ended
longer x xs h g =
    let n = line_length xs in
    let k : suc n + 2 ≡ suc (n + 2) = omega arith in
    ap (λ (ls : List (List ℕ)). ended (map unfolded ls))
    (raw (x ∷ xs) (suc n) (omega arith) (line_octet x xs h) ∙ ap (λ (m : ℕ). (x ∷ take n xs) ∷ raw_lines (drop m (x ∷ xs))) k)
    ∙ ap (λ (r : List ℕ). r ++ (13 ∷ 10 ∷ ended (map unfolded (raw_lines (drop (n + 2) xs))))) (kept_octet x (take n xs) h)
    ∙ ap (λ (ls : List (List ℕ)). x ∷ ended (map unfolded ls)) (sym (raw xs n g refl))

module _ (y : ℕ) (ys : List ℕ) (f : (eqb y 32 || eqb y 9) ≡ true) where
  kept_fold : unfolded (13 ∷ 10 ∷ y ∷ ys) ≡ unfolded ys
  unfolding unfolded gather passed kept fold_at
  kept_fold = simp f

  line_fold : line_length (13 ∷ 10 ∷ y ∷ ys) ≡ suc (suc (suc (line_length ys)))
  unfolding line_length scan line_step fold_at
  line_fold = simp f

folding : (y : ℕ) (ys : List ℕ) → (eqb y 32 || eqb y 9) ≡ true → 0 < length ys → whole (13 ∷ 10 ∷ y ∷ ys) ≡ whole ys
unfolding whole ended
folding y ys f g =
    let n = line_length ys in
    let k : suc (suc (suc n)) + 2 ≡ suc (suc (suc (n + 2))) = omega arith in
    ap (λ (ls : List (List ℕ)). ended (map unfolded ls))
    (raw (13 ∷ 10 ∷ y ∷ ys) (suc (suc (suc n))) (omega arith) (line_fold y ys f)
    ∙ ap (λ (m : ℕ). (13 ∷ 10 ∷ y ∷ take n ys) ∷ raw_lines (drop m (13 ∷ 10 ∷ y ∷ ys))) k)
    ∙ ap (λ (r : List ℕ). r ++ (13 ∷ 10 ∷ ended (map unfolded (raw_lines (drop (n + 2) ys))))) (kept_fold y (take n ys) f)
    ∙ ap (λ (ls : List (List ℕ)). ended (map unfolded ls)) (sym (raw ys n g refl))

module _ (t : List ℕ) (f : (eqb (get_or t 0 0) 32 || eqb (get_or t 0 0) 9) ≡ false) where
  pub line_stop : line_length (13 ∷ 10 ∷ t) ≡ 0
  unfolding line_length scan line_step fold_at
  line_stop = simp f

  kept_end : unfolded (13 ∷ 10 ∷ t) ≡ 13 ∷ 10 ∷ unfolded t
  unfolding unfolded gather passed kept fold_at
  kept_end = simp f

  ending : whole (13 ∷ 10 ∷ t) ≡ 13 ∷ 10 ∷ whole t
  unfolding whole ended unfolded gather
  ending = ap (λ (ls : List (List ℕ)). ended (map unfolded ls)) (raw (13 ∷ 10 ∷ t) 0 (omega arith) line_stop)

-- a line's end, or a fold, before a text for which it holds
closing : {xs : List ℕ} → Text false xs → whole xs ≡ unfolded xs → whole (13 ∷ 10 ∷ xs) ≡ unfolded (13 ∷ 10 ∷ xs)
closing done e = ending [] refl ∙ ap (λ (r : List ℕ). 13 ∷ 10 ∷ r) e ∙ sym (kept_end [] refl)
closing (pair {xs} t) e = ending (13 ∷ 10 ∷ xs) refl ∙ ap (λ (r : List ℕ). 13 ∷ 10 ∷ r) e ∙ sym (kept_end (13 ∷ 10 ∷ xs) refl)
closing (octet {x} {xs} h g t) e = by (eqb x 32 || eqb x 9) refl
  where
    by : (f : Bool) → (eqb x 32 || eqb x 9) ≡ f → whole (13 ∷ 10 ∷ x ∷ xs) ≡ unfolded (13 ∷ 10 ∷ x ∷ xs)
    by true f =
        let q : x ∷ whole xs ≡ x ∷ unfolded xs = sym (longer x xs h (begun t)) ∙ e ∙ kept_octet x xs h in
        let r : whole xs ≡ unfolded xs = cc in
        folding x xs f (begun t) ∙ r ∙ sym (kept_fold x xs f)
    by false f = ending (x ∷ xs) f ∙ ap (λ (r : List ℕ). 13 ∷ 10 ∷ r) e ∙ sym (kept_end (x ∷ xs) f)

-- the lines of such a text, each unfolded and ended, are the text unfolded
unfolds : {b : Bool} {l : List ℕ} → Text b l → whole l ≡ unfolded l
unfolding whole ended unfolded gather
unfolds done = ap (λ (ls : List (List ℕ)). ended (map unfolded ls)) (lines_end [] 0 (omega arith))
unfolds (octet {x} {xs} h g t) = longer x xs h (begun t) ∙ ap (λ (r : List ℕ). x ∷ r) (unfolds t) ∙ sym (kept_octet x xs h)
unfolds (pair t) = closing t (unfolds t)

-- the copy of an input that passes 3 and 4 is the input unfolded
pub copy_unfolds : (i : List ℕ) → first_lone i ≡ length i → ends_cr_lf i ≡ true → copy_of i ≡ unfolded i
unfolding copy_of logical_lines first_lone whole
copy_unfolds i h e = unfolds (text false i h e)

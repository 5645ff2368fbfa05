-- An input without lone CR or LF that ends in CR LF is split into raw lines and logical lines in one way, and the walk finds it. Assumes nothing.
use mathlib.Core.Path.{◌≡◌, refl, sym, ap, subst, ◌∙◌}
use mathlib.Core.Bool.{Bool, true, false, not}
use mathlib.Core.List.{List, [], ◌∷◌, ◌++◌, map}
use mathlib.Core.Logic.{◌⊎◌, inl, inr, ◌↔◌}
use Prim.Native.Nat.{ℕ, zero, suc, ◌+◌, ◌-◌, ◌<◌, ◌≤◌}
use native.Mathlib.Nat.{zero-add}
use native.Mathlib.Omega.{arith}
use lib.Dec.{eqb, ltb}
use lib.ListN.{length, get_or, take, drop, length-append, drop_of_length-le}
use lib.Seq.{take-append_seam, drop-append-add, drop-cons, split_at, get_or_at, get_or-append-add}
use borrow.Author.Tests.{eqb-true, eqb-false, ne_eqb, le-ltb, ltb-false, not-true}
use Rattle.octets.specs.Scan.{scan, gather}
use Rattle.line_folds.specs.Folds.{fold_at, line_step, line_length, passed, kept, unfolded}
use Rattle.line_folds.specs.Logical.{lines_by, raw_lines}
use Rattle.line_parser.specs.Parse.{hd}
use Rattle.line_folds.proofs.LineLaws.{lines_step}
use Rattle.octets.proofs.Bools.{by, and_both}
use Rattle.line_breaks.specs.Lone.{lone_step, first_lone, ends_cr_lf}
use Rattle.line_laws.specs.Lined.{Blank, Folded, end, octet, fold, Unbroken, Unled, Lined, no_line, and_then, EndsCrLf}

-- neither CR nor LF
abbrev pub Inner : ℕ → Type 0
Inner b = (b ≡ 13 → ⊥) × (b ≡ 10 → ⊥)

pub blank_inner : (b : ℕ) → Blank b → Inner b
blank_inner b (inl e) = (λ q. omega arith, λ q. omega arith)
blank_inner b (inr e) = (λ q. omega arith, λ q. omega arith)

-- the check for a lone CR or LF
pub lone_inner : (b : ℕ) (s : List ℕ) → Inner b → scan lone_step (b ∷ s) 0 ≡ suc (scan lone_step s 0)
unfolding scan lone_step
lone_inner b s h = rw (ne_eqb b 10 h.1, ne_eqb b 13 h.0)

pub lone_pair : (s : List ℕ) → scan lone_step (13 ∷ 10 ∷ s) 0 ≡ suc (suc (scan lone_step s 0))
unfolding scan lone_step
lone_pair s = refl

pub folded_lone : {l r : List ℕ} → Folded l r → Unbroken l → (t : List ℕ) → scan lone_step t 0 ≡ length t → scan lone_step (r ++ t) 0 ≡ length (r ++ t)
unfolding Unbroken
folded_lone end h t e = e
folded_lone (octet {b = b} {r = r} f) h t e = lone_inner b (r ++ t) h.0 ∙ ap suc (folded_lone f h.1 t e)
folded_lone (fold {b = b} {r = r} w f) h t e =
    lone_pair (b ∷ (r ++ t)) ∙ ap (λ (n : ℕ). suc (suc n)) (lone_inner b (r ++ t) (blank_inner b w) ∙ ap suc (folded_lone f h t e))

pub fold_here : (b : ℕ) (s : List ℕ) → Blank b → fold_at (13 ∷ 10 ∷ b ∷ s) ≡ true
unfolding fold_at
fold_here b s (inl e) = rw e
fold_here b s (inr e) = rw e

no_fold_here : (i : List ℕ) → Unled i → fold_at (13 ∷ 10 ∷ i) ≡ false
unfolding fold_at Unled
no_fold_here i h = rw (ne_eqb (hd i) 32 h.0, ne_eqb (hd i) 9 h.1)

pub inner_fold : (b : ℕ) (s : List ℕ) → Inner b → fold_at (b ∷ s) ≡ false
unfolding fold_at
inner_fold b s h = rw (ne_eqb b 13 h.0)

-- a line ends before its CR LF
pub folded_length : {l r : List ℕ} → Folded l r → Unbroken l → (i : List ℕ) → Unled i → scan line_step (r ++ (13 ∷ 10 ∷ i)) 0 ≡ length r
unfolding Unbroken scan line_step
folded_length end h i u = rw (no_fold_here i u)
folded_length (octet {b = b} {r = r} f) h i u =
    rw (inner_fold b (r ++ (13 ∷ 10 ∷ i)) h.0, ne_eqb b 13 h.0.0) (ap suc (folded_length f h.1 i u))
folded_length (fold {b = b} {r = r} w f) h i u =
    rw (fold_here b (r ++ (13 ∷ 10 ∷ i)) w) (ap (λ (n : ℕ). suc (suc (suc n))) (folded_length f h i u))

-- and unfolds to itself without its folds
pub folded_unfolds : {l r : List ℕ} → Folded l r → Unbroken l → unfolded r ≡ l
unfolding Unbroken unfolded gather passed kept
folded_unfolds end h = refl
folded_unfolds (octet {b = b} {r = r} f) h = rw (inner_fold b r h.0) (ap (λ (l : List ℕ). b ∷ l) (folded_unfolds f h.1))
folded_unfolds (fold {b = b} {r = r} w f) h = rw (fold_here b r w) (folded_unfolds f h)

-- it is the first raw line
pub first_raw : (r i : List ℕ) → scan line_step (r ++ (13 ∷ 10 ∷ i)) 0 ≡ length r → raw_lines (r ++ (13 ∷ 10 ∷ i)) ≡ r ∷ raw_lines i
unfolding line_length
first_raw r i e =
    let s : List ℕ = r ++ (13 ∷ 10 ∷ i) in
    let n : 0 < length s = omega (arith, length-append r (13 ∷ 10 ∷ i)) in
    lines_step s 0 n (length r) (sym e)
    ∙ ap (λ (x : List ℕ). x ∷ raw_lines (drop (0 + (length r + 2)) s)) (take-append_seam r (13 ∷ 10 ∷ i))
    ∙ ap (λ (m : ℕ). r ∷ raw_lines (drop m s)) (zero-add (length r + 2))
    ∙ ap (λ (x : List ℕ). r ∷ raw_lines x) (drop-append-add r (13 ∷ 10 ∷ i) 2)

-- the last two octets are CR LF
pub ends_law : (i : List ℕ) → (ends_cr_lf i ≡ true) ↔ EndsCrLf i
unfolding ends_cr_lf
ends_law i = (to, from)
  where
    to : ends_cr_lf i ≡ true → EndsCrLf i
    to e =
        let a = and_both (not (ltb (length i) 2)) _ e in
        let b = and_both (eqb (get_or i (length i - 2) 0) 13) _ a.1 in
        let n : 2 ≤ length i = ltb-false (length i) 2 (not-true _ a.0) in
        let m = length i - 2 in
        let next : length i - 1 ≡ suc m = omega arith in
        let two : drop (suc m) i ≡ 10 ∷ [] =
        drop-cons i (suc m) 0 (omega arith)
        ∙ ap (λ (x : ℕ). x ∷ drop (suc (suc m)) i) (ap (λ (q : ℕ). get_or i q 0) (sym next) ∙ eqb-true (get_or i (length i - 1) 0) 10 b.1)
        ∙ ap (λ (t : List ℕ). 10 ∷ t) (drop_of_length-le i {i = suc (suc m)} (omega arith)) in (
          take m i,
          split_at i m 0 (omega arith)
              ∙ ap (λ (x : ℕ). take m i ++ (x ∷ drop (suc m) i)) (eqb-true (get_or i m 0) 13 b.0)
              ∙ ap (λ (t : List ℕ). take m i ++ (13 ∷ t)) two,
        )

    from : EndsCrLf i → ends_cr_lf i ≡ true
    from (j, e) =
        let n = length-append j (13 ∷ 10 ∷ []) in
        let q : length i ≡ length j + 2 = ap length e ∙ n in
        let a : get_or i (length i - 2) 0 ≡ 13 = ap (λ (l : List ℕ). get_or l (length i - 2) 0) e ∙ get_or_at j 13 (10 ∷ []) 0 (length i - 2) (omega arith) in
        let k : length i - 1 ≡ length j + 1 = omega arith in
        let b : get_or i (length i - 1) 0 ≡ 10 = ap (λ (m : ℕ). get_or i m 0) k ∙ ap (λ (l : List ℕ). get_or l (length j + 1) 0) e ∙ get_or-append-add j (13 ∷ 10 ∷ []) 1 0 in
        rw (le-ltb (length i) 2 (omega arith), a, b)

-- octets without lone CR or LF that end in CR LF
pub data Text : List ℕ → Type 0 where
  last : Text (13 ∷ 10 ∷ [])
  inner : {b : ℕ} {s : List ℕ} → Inner b → Text s → Text (b ∷ s)
  pair : {s : List ℕ} → Text s → Text (13 ∷ 10 ∷ s)

module _ (b c : ℕ) (s : List ℕ) where
  text_by : (p q r : Bool) → eqb b 10 ≡ p → eqb b 13 ≡ q → eqb c 10 ≡ r → scan lone_step (b ∷ c ∷ s) 0 ≡ suc (suc (length s))
      → (scan lone_step (c ∷ s) 0 ≡ suc (length s) → Text (c ∷ s))
      → (c ≡ 10 → scan lone_step s 0 ≡ length s → Text s) → Text (b ∷ c ∷ s)
  unfolding scan lone_step
  text_by true q r ep eq er e f g = absurd (omega (arith, simp ep at e))
  text_by false true true ep eq er e f g = rw (eqb-true b 13 eq, eqb-true c 10 er) (pair (g (eqb-true c 10 er) (omega (arith, simp (ep, eq, er) at e))))
  text_by false true false ep eq er e f g = absurd (omega (arith, simp (ep, eq, er) at e))
  text_by false false r ep eq er e f g = inner (eqb-false b 13 eq, eqb-false b 10 ep) (f (omega (arith, simp (ep, eq) at e)))

text_of : (j : List ℕ) → scan lone_step (j ++ (13 ∷ 10 ∷ [])) 0 ≡ length (j ++ (13 ∷ 10 ∷ [])) → Text (j ++ (13 ∷ 10 ∷ []))
text_of [] e = last
text_of (b ∷ []) e =
    text_by b 13 (10 ∷ []) (eqb b 10) (eqb b 13) (eqb 13 10) refl refl refl e (λ h. text_of [] h) (λ h q. absurd (omega arith))
text_of (b ∷ c ∷ j) e =
    text_by b c (j ++ (13 ∷ 10 ∷ [])) (eqb b 10) (eqb b 13) (eqb c 10) refl refl refl e (λ h. text_of (c ∷ j) h) (λ h q. text_of j q)

-- the first line, as it came and without its folds, and what comes after its CR LF
pub record Split (i : List ℕ) : Type 0 where
  pub line : List ℕ
  pub raw : List ℕ
  pub rest : List ℕ
  pub whole : i ≡ raw ++ (13 ∷ 10 ∷ rest)
  pub folded : Folded line raw
  pub each : Unbroken line
  pub next : (rest ≡ []) ⊎ Text rest
  pub unled : Unled rest

-- a CR LF that is no fold
here : (s : List ℕ) → (s ≡ []) ⊎ Text s → Unled s → Split (13 ∷ 10 ∷ s)
unfolding Unbroken
here s t u = record { line = []; raw = []; rest = s; whole = refl; folded = end; each = tt; next = t; unled = u }

further : (b : ℕ) (s : List ℕ) → Inner b → Split s → Split (b ∷ s)
unfolding Unbroken
further b s h t = record {
  line = b ∷ t.line;
  raw = b ∷ t.raw;
  rest = t.rest;
  whole = ap (λ (l : List ℕ). b ∷ l) t.whole;
  folded = octet t.folded;
  each = (h, t.each);
  next = t.next;
  unled = t.unled;
}

past_fold : (b : ℕ) (s : List ℕ) → Blank b → Split s → Split (13 ∷ 10 ∷ b ∷ s)
past_fold b s w t = record {
  line = t.line;
  raw = 13 ∷ 10 ∷ b ∷ t.raw;
  rest = t.rest;
  whole = ap (λ (l : List ℕ). 13 ∷ 10 ∷ b ∷ l) t.whole;
  folded = fold w t.folded;
  each = t.each;
  next = t.next;
  unled = t.unled;
}

pub split : {i : List ℕ} → Text i → Split i
unfolding Unled
split last = here [] (inl refl) (λ e. omega arith, λ e. omega arith)
split (inner {b = b} {s = s} h t) = further b s h (split t)
split (pair last) = here (13 ∷ 10 ∷ []) (inr last) (λ e. omega arith, λ e. omega arith)
split (pair (pair {s = s} t)) = here (13 ∷ 10 ∷ s) (inr (pair t)) (λ e. omega arith, λ e. omega arith)
split (pair (inner {b = b} {s = s} h t)) =
    by (eqb b 32) (λ e. past_fold b s (inl (eqb-true b 32 e)) (split t))
    (λ e. by (eqb b 9) (λ f. past_fold b s (inr (eqb-true b 9 f)) (split t))
    (λ f. here (b ∷ s) (inr (inner h t)) (eqb-false b 32 e, eqb-false b 9 f)))

pub split_raw : (i : List ℕ) (s : Split i) → raw_lines i ≡ s.raw ∷ raw_lines s.rest
split_raw i s = ap raw_lines s.whole ∙ first_raw s.raw s.rest (folded_length s.folded s.each s.rest s.unled)

pub cons_nil : {A B : Type 0} {x : A} {xs : List A} → x ∷ xs ≡ [] → B
cons_nil e = let z : ◌≡◌ {A = ℕ} 0 1 = cc in absurd (omega arith)

pub paired_text : (i : List ℕ) → first_lone i ≡ length i → EndsCrLf i → Text i
unfolding first_lone
paired_text i e (j, q) = subst Text (sym q) (text_of j (subst (λ (l : List ℕ). scan lone_step l 0 ≡ length l) q e))

-- the walk splits the input into its lines, and there is no other such splitting
lined_from : (n : ℕ) (i : List ℕ) → length i ≤ n → (i ≡ []) ⊎ Text i → Lined i (raw_lines i) (map unfolded (raw_lines i))
unfolding raw_lines lines_by
lined_from zero i h (inl q) = rw q no_line
lined_from zero i h (inr t) =
    let s = split t in
    absurd (omega (arith, ap length s.whole, length-append s.raw (13 ∷ 10 ∷ s.rest)))
lined_from (suc n) i h (inl q) = rw q no_line
lined_from (suc n) i h (inr t) =
    let s = split t in
    let r = lined_from n s.rest (omega (arith, ap length s.whole, length-append s.raw (13 ∷ 10 ∷ s.rest))) s.next in
    let rs = raw_lines s.rest in
    subst (λ (xs : List (List ℕ)). Lined i xs (map unfolded xs)) (sym (split_raw i s))
    (subst (λ (l : List ℕ). Lined i (s.raw ∷ rs) (l ∷ map unfolded rs)) (sym (folded_unfolds s.folded s.each))
    (subst (λ (x : List ℕ). Lined x (s.raw ∷ rs) (s.line ∷ map unfolded rs)) (sym s.whole)
    (and_then s.folded s.each s.unled r)))

pub lined_law : (i : List ℕ) → first_lone i ≡ length i → EndsCrLf i → Lined i (raw_lines i) (map unfolded (raw_lines i))
lined_law i e h = lined_from (length i) i (omega arith) (inr (paired_text i e h))

pub lined_only : {i : List ℕ} {rs ls : List (List ℕ)} → Lined i rs ls → (rs ≡ raw_lines i) × (ls ≡ map unfolded (raw_lines i))
unfolding raw_lines lines_by
lined_only no_line = (refl, refl)
lined_only (and_then {i = i} {l = l} {r = r} {rs = rs} {ls = ls} f e u t) =
    let k = lined_only t in
    let q = first_raw r i (folded_length f e i u) in (
      ap (λ (x : List (List ℕ)). r ∷ x) k.0 ∙ sym q,
      ap (λ (x : List (List ℕ)). l ∷ x) k.1 ∙ ap (λ (x : List ℕ). x ∷ map unfolded (raw_lines i)) (sym (folded_unfolds f e)) ∙ sym (ap (map unfolded) q),
    )

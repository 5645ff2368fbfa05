-- The laws of escapes at a place of a list: what starts there, and what it is to a reader of text. Assumes nothing.
use mathlib.Core.Path.{◌≡◌, refl, sym, ap, ◌∙◌}
use mathlib.Core.Bool.{Bool, true, false, ◌&&◌, and-false, true≢false}
use mathlib.Core.List.{List, [], ◌∷◌, ◌++◌}
use Prim.Native.Nat.{ℕ, suc, ◌+◌, ◌<◌, ◌≤◌}
use native.Mathlib.Nat.{add-zero}
use native.Mathlib.Omega.{arith}
use lib.Dec.{eqb, ltb}
use lib.ListN.{length, get_or, drop, get_or-eq_default}
use lib.Seq.{get_or-drop}
use borrow.Author.Tests.{ltb-true, ltb-false, eq-eqb, ne_eqb, eqb-true, eqb-false}
use Rattle.octets.specs.Scan.{gather}
use Rattle.octets.proofs.Scans.{scan_le, scan_stop, scan_step, scan_end, gather_step, gather_end}
use Rattle.text_marks.specs.Marks.{special}
use Rattle.text_unescaping.specs.Unescaped.{code, meant, escape_at, text_step, first_fault, passed, standing, unescaped}

module _ (s : List ℕ) (i : ℕ) where
  pub escape_eq : escape_at (drop i s) ≡ (eqb (get_or s i 0) 92 && code (get_or s (i + 1) 0))
  unfolding escape_at
  escape_eq = simp (get_or-drop, add-zero)

  pub escape_short : length s ≤ i + 1 → escape_at (drop i s) ≡ false
  unfolding code special
  escape_short h = escape_eq ∙ simp (get_or-eq_default s 0 h, and-false)

  pub escape_not : (get_or s i 0 ≡ 92 → ⊥) → escape_at (drop i s) ≡ false
  escape_not n = escape_eq ∙ simp (ne_eqb (get_or s i 0) 92 n)

  pub escape_inside : escape_at (drop i s) ≡ true → i + 2 ≤ length s
  escape_inside e = by (ltb (i + 1) (length s)) refl
    where
      by : (t : Bool) → ltb (i + 1) (length s) ≡ t → i + 2 ≤ length s
      by true q = omega (arith, ltb-true (i + 1) (length s) q)
      by false q = absurd (true≢false (sym e ∙ escape_short (ltb-false (i + 1) (length s) q)))

  -- an escape
  module _ (e : escape_at (drop i s) ≡ true) where
    pub step_escape : text_step (drop i s) ≡ 2
    unfolding text_step
    step_escape = simp e

    pub passed_escape : passed (drop i s) ≡ 2
    unfolding passed
    passed_escape = simp e

    pub standing_escape : standing (drop i s) ≡ meant (get_or s (i + 1) 0)
    unfolding standing
    standing_escape = simp (e, get_or-drop)

  -- no escape
  module _ (e : escape_at (drop i s) ≡ false) where
    pub step_backslash : get_or s i 0 ≡ 92 → text_step (drop i s) ≡ 0
    unfolding text_step
    step_backslash q = simp (e, get_or-drop, add-zero, eq-eqb (get_or s i 0) 92 q)

    pub step_comma : (get_or s i 0 ≡ 92 → ⊥) → get_or s i 0 ≡ 44 → text_step (drop i s) ≡ 0
    unfolding text_step
    step_comma n q = simp (e, get_or-drop, add-zero, ne_eqb (get_or s i 0) 92 n, eq-eqb (get_or s i 0) 44 q)

    pub step_octet : (get_or s i 0 ≡ 92 → ⊥) → (get_or s i 0 ≡ 44 → ⊥) → text_step (drop i s) ≡ 1
    unfolding text_step
    step_octet n m = simp (e, get_or-drop, add-zero, ne_eqb (get_or s i 0) 92 n, ne_eqb (get_or s i 0) 44 m)

    pub passed_octet : passed (drop i s) ≡ 1
    unfolding passed
    passed_octet = simp e

    pub standing_octet : standing (drop i s) ≡ get_or s i 0
    unfolding standing
    standing_octet = simp (e, get_or-drop, add-zero)

-- the octet or escape at i
module _ (s : List ℕ) (i : ℕ) (h : i < length s) where
  fault_step : (n : ℕ) → text_step (drop i s) ≡ n → 1 ≤ n → i + n ≤ length s → i + first_fault (drop i s) ≡ (i + n) + first_fault (drop (i + n) s)
  unfolding first_fault
  fault_step n e = scan_step text_step s i n e

  unescaped_step : (n b : ℕ) → passed (drop i s) ≡ n → 1 ≤ n → standing (drop i s) ≡ b → unescaped (drop i s) ≡ (b ∷ []) ++ unescaped (drop (i + n) s)
  unfolding unescaped
  unescaped_step n b e pos q =
      gather_step passed (λ (r : List ℕ). standing r ∷ []) s i n h e pos
      ∙ ap (λ (x : ℕ). (x ∷ []) ++ gather passed (λ (r : List ℕ). standing r ∷ []) (drop (i + n) s) 0) q

  module _ (e : escape_at (drop i s) ≡ true) where
    pub fault_escape : i + first_fault (drop i s) ≡ (i + 2) + first_fault (drop (i + 2) s)
    fault_escape = fault_step 2 (step_escape s i e) (omega arith) (escape_inside s i e)

    pub unescaped_escape : unescaped (drop i s) ≡ (meant (get_or s (i + 1) 0) ∷ []) ++ unescaped (drop (i + 2) s)
    unescaped_escape = unescaped_step 2 (meant (get_or s (i + 1) 0)) (passed_escape s i e) (omega arith) (standing_escape s i e)

  module _ (e : escape_at (drop i s) ≡ false) where
    pub fault_octet : (get_or s i 0 ≡ 92 → ⊥) → (get_or s i 0 ≡ 44 → ⊥) → i + first_fault (drop i s) ≡ (i + 1) + first_fault (drop (i + 1) s)
    fault_octet n m = fault_step 1 (step_octet s i e n m) (omega arith) (omega arith)

    pub unescaped_octet : unescaped (drop i s) ≡ (get_or s i 0 ∷ []) ++ unescaped (drop (i + 1) s)
    unescaped_octet = unescaped_step 1 (get_or s i 0) (passed_octet s i e) (omega arith) (standing_octet s i e)

module _ (s : List ℕ) (i : ℕ) where
  pub fault_stop : text_step (drop i s) ≡ 0 → i + first_fault (drop i s) ≡ i
  unfolding first_fault
  fault_stop e = scan_stop text_step s i e

  pub fault_end : length s ≤ i → i + first_fault (drop i s) ≡ i
  unfolding first_fault
  fault_end h = scan_end text_step s i h

  -- in a text without faults a backslash starts an escape, and after it, or after any other octet, the text goes on without faults
  module _ (h : i < length s) (f : i + first_fault (drop i s) ≡ length s) where
    pub whole_escape : get_or s i 0 ≡ 92 → escape_at (drop i s) ≡ true
    whole_escape q = by (escape_at (drop i s)) refl
      where
        by : (t : Bool) → escape_at (drop i s) ≡ t → t ≡ true
        by true e = refl
        by false e = absurd (omega (arith, fault_stop (step_backslash s i e q)))

    pub on_escape : get_or s i 0 ≡ 92 → (i + 2) + first_fault (drop (i + 2) s) ≡ length s
    on_escape q = sym (fault_escape s i h (whole_escape q)) ∙ f

    pub on_octet : (get_or s i 0 ≡ 92 → ⊥) → (i + 1) + first_fault (drop (i + 1) s) ≡ length s
    on_octet n = by (eqb (get_or s i 0) 44) refl
      where
        by : (t : Bool) → eqb (get_or s i 0) 44 ≡ t → (i + 1) + first_fault (drop (i + 1) s) ≡ length s
        by true e = absurd (omega (arith, fault_stop (step_comma s i (escape_not s i n) n (eqb-true (get_or s i 0) 44 e))))
        by false e = sym (fault_octet s i h (escape_not s i n) n (eqb-false (get_or s i 0) 44 e)) ∙ f

  pub unescaped_end : length s ≤ i → unescaped (drop i s) ≡ []
  unfolding unescaped
  unescaped_end h = gather_end passed (λ (r : List ℕ). standing r ∷ []) s i h

pub fault_le : (l : List ℕ) → first_fault l ≤ length l
unfolding first_fault
fault_le l = scan_le text_step l 0

-- the octet or the escape at the start of a list, by whether it is an escape
module _ (x : ℕ) (xs : List ℕ) where
  pub first_octet : escape_at (x ∷ xs) ≡ false → unescaped (x ∷ xs) ≡ x ∷ unescaped xs
  unfolding unescaped gather passed standing
  first_octet e = simp e

  pub first_escape : escape_at (x ∷ xs) ≡ true → length (unescaped (x ∷ xs)) ≡ suc (length (gather passed (λ (r : List ℕ). standing r ∷ []) xs 1))
  unfolding unescaped gather passed
  first_escape e = simp e

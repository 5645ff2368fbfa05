-- The part at fault of a line, by what the code tests at a place. Assumes nothing.
use mathlib.Core.Path.{◌≡◌, refl, sym, ap, ◌∙◌}
use mathlib.Core.Bool.{Bool, true, false}
use mathlib.Core.List.{List}
use Prim.Native.Nat.{ℕ, zero, suc, ◌+◌, ◌-◌, ◌<◌, ◌≤◌}
use native.Mathlib.Nat.{add-zero, not-suc-le-zero}
use native.Mathlib.Omega.{arith}
use lib.Dec.{ltb}
use lib.ListN.{length, drop, drop_of_length-le, get_or-eq_default}
use borrow.Author.Tests.{eq-eqb, ne_eqb, lt-ltb, le-ltb, ltb-true, ltb-false}
use Rattle.octets.specs.Classes.{run, has, named, quoted, name_mask, quoted_mask}
use Rattle.octets.proofs.Runs.{run_has}
use Rattle.octets.proofs.Masks.{has_named, has_quoted}
use Rattle.line_parser.specs.Parse.{got, bad, hd}
use Rattle.line_parser.specs.Grammar.{Value, Param}
use Rattle.line_parser.specs.Rule.{value, param}
use Rattle.line_parser.specs.AtFault.{name_from, param_from, value_from, word_from, after_name, quote_by, quote_fault}
use Rattle.line_parser.specs.declared.at_fault.AtFault.{AtFault}
use Rattle.line_parser.specs.declared.at_fault.QuoteFault.TheVariants.{LeftOpen, Followed, InBare}
use Rattle.line_parser.proofs.Steps.{look}

module _ (s : List ℕ) where
  -- past the end stands 0
  pub beyond : (at : ℕ) → length s ≤ at → 0 ≡ hd (drop at s)
  beyond at h = sym (look s at ∙ get_or-eq_default s 0 h)

  -- an octet other than 0 stands inside
  pub inside : (at c : ℕ) → 0 < c → hd (drop at s) ≡ c → at < length s
  inside at c pos q = go (ltb at (length s)) refl
    where
      go : (t : Bool) → ltb at (length s) ≡ t → at < length s
      go true e = ltb-true at (length s) e
      go false e = absurd (omega (arith, beyond at (ltb-false at (length s) e), q))

  -- the end of a name
  name_run : (at : ℕ) {e : ℕ} → e ≡ at + run (has name_mask) (drop at s) → e ≡ at + run named (drop at s)
  name_run at h = h ∙ ap (λ (k : ℕ). at + k) (run_has name_mask named has_named (drop at s))

  module _ {e : ℕ} (h : e ≡ 0 + run (has name_mask) (drop 0 s)) where
    first_run : run named s ≡ e
    first_run = omega (arith, name_run 0 h)

    pub name_none : e ≡ 0 → 0 ≡ name_from s
    unfolding name_from
    name_none q = rw (first_run, q)

    pub name_plain : (e ≡ 0 → ⊥) → (hd (drop e s) ≡ 46 → ⊥) → 0 ≡ name_from s
    unfolding name_from
    name_plain q r = rw (first_run, ne_eqb e 0 q, ne_eqb (hd (drop e s)) 46 r)

    pub name_grouped : (e ≡ 0 → ⊥) → hd (drop e s) ≡ 46 → e + 1 ≡ name_from s
    unfolding name_from
    name_grouped q r = rw (first_run, ne_eqb e 0 q, eq-eqb (hd (drop e s)) 46 r)

  module _ (at : ℕ) where
    pub param_over : (n : ℕ) → length s ≤ at → param_from n at s ≡ at
    unfolding param_from
    param_over zero h = refl
    param_over (suc n) h = rw (le-ltb at (length s) h)

    pub param_bad : (n : ℕ) → 0 < n → at < length s → (x : ℕ) → param (drop (at + 1) s) ≡ bad x → param_from n at s ≡ at + 1
    unfolding param_from
    param_bad zero pos h x q = absurd (not-suc-le-zero pos)
    param_bad (suc n) pos h x q = rw (lt-ltb at (length s) h, q)

    pub param_on : (n : ℕ) → 0 < n → at < length s → (p : Param) (k : ℕ) → param (drop (at + 1) s) ≡ got p k → param_from n at s ≡ param_from (n - 1) (at + 1 + k) s
    unfolding param_from
    param_on zero pos h p k q = absurd (not-suc-le-zero pos)
    param_on (suc n) pos h p k q = let z : suc n - 1 ≡ n = omega arith in rw (lt-ltb at (length s) h, q, z)

    pub value_over : (n : ℕ) → length s ≤ at → value_from n at s ≡ at
    unfolding value_from
    value_over zero h = refl
    value_over (suc n) h = rw (le-ltb at (length s) h)

    pub value_bad : (n : ℕ) → at < length s → (x : ℕ) → value (drop at s) ≡ bad x → value_from n at s ≡ at
    unfolding value_from
    value_bad zero h x q = refl
    value_bad (suc n) h x q = rw (lt-ltb at (length s) h, q)

    pub value_last : (n : ℕ) → at < length s → (v : Value) (k : ℕ) → value (drop at s) ≡ got v k → (hd (drop (at + k) s) ≡ 44 → ⊥) → value_from n at s ≡ at
    unfolding value_from
    value_last zero h v k q r = refl
    value_last (suc n) h v k q r = rw (lt-ltb at (length s) h, q, ne_eqb (hd (drop (at + k) s)) 44 r)

    pub value_on : (n : ℕ) → 0 < n → at < length s → (v : Value) (k : ℕ) → value (drop at s) ≡ got v k → hd (drop (at + k) s) ≡ 44
        → value_from n at s ≡ value_from (n - 1) (at + k + 1) s
    unfolding value_from
    value_on zero pos h v k q r = absurd (not-suc-le-zero pos)
    value_on (suc n) pos h v k q r = let z : suc n - 1 ≡ n = omega arith in rw (lt-ltb at (length s) h, q, eq-eqb (hd (drop (at + k) s)) 44 r, z)

  pub word_past : (p : Bool) (k : ℕ) → length s ≤ k → record { is_param = p; start = k; end = k } ≡ word_from p k s
  unfolding run
  word_past p k h = rw (drop_of_length-le s h, add-zero k)

  pub word_there : (p : Bool) (k : ℕ) {e : ℕ} → e ≡ k + run (has name_mask) (drop k s) → record { is_param = p; start = k; end = e } ≡ word_from p k s
  word_there p k h = rw (name_run k h)

  module _ (w : AtFault) where
    pub after_none : w.end ≤ w.start → w ≡ after_name w s
    after_none h = rw (le-ltb w.start w.end h)

    pub after_other : w.start < w.end → (hd (drop w.end s) ≡ 59 → ⊥) → w ≡ after_name w s
    after_other h q = rw (lt-ltb w.start w.end h, ne_eqb (hd (drop w.end s)) 59 q)

    pub after_param : w.start < w.end → hd (drop w.end s) ≡ 59 → word_from true (param_from (suc (length s)) w.end s) s ≡ after_name w s
    after_param h q = rw (lt-ltb w.start w.end h, eq-eqb (hd (drop w.end s)) 59 q)

  module _ (k : ℕ) where
    pub quote_past : length s ≤ k → InBare ≡ quote_fault k s
    unfolding quote_fault
    quote_past h = rw (le-ltb k (length s) h)

    pub quote_in : k < length s → quote_fault k s ≡ quote_by (value_from (suc (length s)) (k + 1) s) s
    unfolding quote_fault
    quote_in h = rw (lt-ltb k (length s) h)

    pub quote_bare : (hd (drop k s) ≡ 34 → ⊥) → InBare ≡ quote_by k s
    unfolding quote_by
    quote_bare q = rw (ne_eqb (hd (drop k s)) 34 q)

    module _ (q : hd (drop k s) ≡ 34) {e : ℕ} (h : e ≡ k + 1 + run (has quoted_mask) (drop (k + 1) s)) where
      quote_run : k + 1 + run quoted (drop (k + 1) s) ≡ e
      quote_run = sym (h ∙ ap (λ (i : ℕ). k + 1 + i) (run_has quoted_mask quoted has_quoted (drop (k + 1) s)))

      pub quote_followed : e < length s → Followed ≡ quote_by k s
      unfolding quote_by
      quote_followed g = rw (eq-eqb (hd (drop k s)) 34 q, quote_run, lt-ltb e (length s) g)

      pub quote_open : length s ≤ e → LeftOpen ≡ quote_by k s
      unfolding quote_by
      quote_open g = rw (eq-eqb (hd (drop k s)) 34 q, quote_run, le-ltb e (length s) g)

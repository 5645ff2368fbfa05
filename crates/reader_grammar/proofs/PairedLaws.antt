-- No octet is a lone CR or LF exactly where `first_lone` answers the length; where one is, it answers the first. Assumes nothing.
use mathlib.Core.Path.{◌≡◌, sym, subst}
use mathlib.Core.Logic.{◌↔◌}
use mathlib.Core.List.{List}
use Prim.Native.Nat.{ℕ, suc, ◌<◌}
use native.Mathlib.Omega.{arith}
use lib.Dec.{ltb}
use lib.ListN.{length, get_or, get_or-eq_default}
use borrow.Author.Tests.{ltb-true, ltb-false}
use Rattle.octets.proofs.Bools.{by}
use Rattle.line_breaks.specs.Lone.{first_lone}
use Rattle.reader_laws.specs.Lone.{Alone, cr, lf, before, Lone}
use Rattle.reader_laws.proofs.LoneLaws.{lone_here, lone_none, lone_inside}
use Rattle.reader_grammar.specs.Refusals.{Paired}

module _ (i : List ℕ) where
  -- 0, which stands past the last octet, is neither CR nor LF
  past : (p a b c : ℕ) → b ≡ 0 → Alone a b c → ⊥
  past p a b c e (cr f g) = omega arith
  past p a b c e (lf f g) = omega arith

  pub lone_within : (p : ℕ) → Lone i p → p < length i
  unfolding Lone
  lone_within p h =
      by (ltb p (length i)) (λ e. ltb-true p (length i) e)
      (λ e. absurd (past p (before 0 i p) (get_or i p 0) (get_or i (suc p) 0) (get_or-eq_default i 0 (ltb-false p (length i) e)) h))

  pub paired_law : (first_lone i ≡ length i) ↔ Paired i
  paired_law = (to, from)
    where
      to : first_lone i ≡ length i → Paired i
      to e p h = lone_none i p (subst (λ (n : ℕ). p < n) (sym e) (lone_within p h)) h

      from : Paired i → first_lone i ≡ length i
      from f =
          by (ltb (first_lone i) (length i)) (λ e. absurd (f (first_lone i) (lone_here i (ltb-true (first_lone i) (length i) e))))
          (λ e. omega (arith, lone_inside i, ltb-false (first_lone i) (length i) e))

  -- the first lone octet is where `first_lone` says
  pub lone_first : (p : ℕ) → Lone i p → ((q : ℕ) → q < p → Lone i q → ⊥) → first_lone i ≡ p
  lone_first p h f =
      let w = lone_within p h in
      by (ltb p (first_lone i)) (λ e. absurd (lone_none i p (ltb-true p (first_lone i) e) h))
      (λ e. let le = ltb-false p (first_lone i) e in
      by (ltb (first_lone i) p) (λ q. absurd (f (first_lone i) (ltb-true (first_lone i) p q) (lone_here i (omega (arith, ltb-true (first_lone i) p q)))))
      (λ q. omega (arith, ltb-false (first_lone i) p q)))

-- What escape and unescape refuse. Assumes nothing.
use Prim.Native.Nat.{ℕ, ◌<◌, ◌≤◌}
use mathlib.Core.Path.{◌≡◌, refl, ◌∙◌}
use mathlib.Core.Bool.{Bool, true, false}
use mathlib.Core.List.{List, ◌++◌}
use native.Mathlib.Omega.{arith}
use lib.Dec.{ltb}
use lib.ListN.{length, take, drop, take-append-drop}
use lib.Seq.{length-take-le}
use borrow.Author.Tests.{ltb-true, ltb-false, lt-ltb, le-ltb}
use Rattle.utf8.specs.Characters.{allowed, first_bad}
use Rattle.octets.specs.Room.{Filled, refuse, fill, fill_bounded}
use Rattle.octets.specs.Room.{Wrote, Refused}
use Rattle.utf8.proofs.Chars.{bad_le}
use Rattle.octets.proofs.Scans.{scan_le}
use Rattle.utf8_laws.proofs.Utf8.{bad_at, bad_at_only, bad_nowhere}
use Rattle.text_escaping.specs.Escaped.{escaped}
use Rattle.text_unescaping.specs.Unescaped.{text_step, first_fault, unescaped}
use Rattle.text.specs.Outcomes.{checked, faultless, escape_outcome, unescape_outcome}
use Rattle.text_laws.specs.Stands.{Stands, Faulty}
use Rattle.text_laws.proofs.StandsLaws.{stands_exactly, fault_found, fault_first}
use Rattle.demands.specs.Demand1.{FairBy, UnfairBy, long, octet, EscapeBy, no_text, escape_over, escape_room, UnescapeBy, not_text, fault, text_room}
use Rattle.demands.proofs.Refusing.{FillingByCase as Filling, clash, Telling, first}

-- refusals of an entry that writes octets
pub written_tells : (out : List ℕ) → Telling (λ (f : Filled). f.answer) (λ n p. refuse n p out)
written_tells out = record { number = λ m q n p e. number m q n p e; place = λ m q n p e. place m q n p e }
  where
    number : (m q n p : ℕ) → Refused m q ≡ Refused n p → m ≡ n
    number m q n p e = cc

    place : (m q n p : ℕ) → Refused m q ≡ Refused n p → q ≡ p
    place m q n p e = cc

pub wrote_no : {A : Type 0} (m n p : ℕ) → Wrote m ≡ Refused n p → A
wrote_no m n p e = clash cc

-- 15 of octets that are to be written
pub fill_told : (By : ℕ → ℕ → Type 0) (xs out : List ℕ) (n p : ℕ) → (fill xs out).answer ≡ Refused n p → (length out < length xs → By 15 (length xs)) → By n p
unfolding fill
fill_told By xs out n p e y =
    first (written_tells out) By (ltb (length out) (length xs)) 15 (length xs) n p _ e (λ t. y (ltb-true (length out) (length xs) t)) (λ t f. wrote_no (length xs) n p f)

-- 16, then 15
pub bounded_told : (By : ℕ → ℕ → Type 0) (xs out : List ℕ) (n p : ℕ) → (fill_bounded xs out).answer ≡ Refused n p
    → (16384 < length xs → By 16 16384) → (length xs ≤ 16384 → length out < length xs → By 15 (length xs)) → By n p
unfolding fill_bounded
bounded_told By xs out n p e y z =
    first (written_tells out) By (ltb 16384 (length xs)) 16 16384 n p _ e (λ t. y (ltb-true 16384 (length xs) t))
    (λ t f. fill_told By xs out n p f (z (ltb-false 16384 (length xs) t)))

-- ---- 1 and 31

module _ (allows : ℕ → Bool) (t out : List ℕ) where
  fair : length t ≤ 16384 → length t ≤ first_bad allows t → FairBy allows t
  fair s h = record { short = s; clean = (bad_nowhere allows t).0 (omega (arith, bad_le allows t)) }

  clean_end : FairBy allows t → first_bad allows t ≡ length t
  clean_end f = (bad_nowhere allows t).1 f.clean

  pub checked_told : (By : ℕ → ℕ → Type 0) (left : Filled) (n p : ℕ) → (checked allows t out left).answer ≡ Refused n p
      → ((m q : ℕ) → UnfairBy allows t m q → By m q) → (FairBy allows t → left.answer ≡ Refused n p → By n p) → By n p
  unfolding checked
  checked_told By left n p e y x =
      first (written_tells out) By (ltb 16384 (length t)) 1 16384 n p _ e (λ a. y 1 16384 (long (ltb-true 16384 (length t) a))) (λ a f.
      let s = ltb-false 16384 (length t) a in
      first (written_tells out) By (ltb (first_bad allows t) (length t)) 31 (first_bad allows t) n p left f
      (λ b. y 31 (first_bad allows t) (octet s (bad_at allows t (ltb-true (first_bad allows t) (length t) b))))
      (λ b g. x (fair s (ltb-false (first_bad allows t) (length t) b)) g))

  pub checked_unfair : (left : Filled) (n p : ℕ) → UnfairBy allows t n p → checked allows t out left ≡ refuse n p out
  unfolding checked
  checked_unfair left n p (long h) = rw (lt-ltb 16384 (length t) h)
  checked_unfair left n p (octet s b) = rw (le-ltb 16384 (length t) s, bad_at_only allows t b, lt-ltb p (length t) b.inside)

  pub checked_fair : (left : Filled) → FairBy allows t → checked allows t out left ≡ left
  unfolding checked
  checked_fair left f =
      rw (le-ltb 16384 (length t) f.short, le-ltb (first_bad allows t) (length t) (omega (arith, clean_end f)))

-- ---- escape

pub over_so : (xs out : List ℕ) → 16384 < length xs → fill_bounded xs out ≡ refuse 16 16384 out
unfolding fill_bounded
over_so xs out h = rw (lt-ltb 16384 (length xs) h)

pub short_so : (xs out : List ℕ) → length out < length xs → fill xs out ≡ refuse 15 (length xs) out
unfolding fill
short_so xs out h = rw (lt-ltb (length out) (length xs) h)

pub within_so : (xs out : List ℕ) → length xs ≤ 16384 → fill_bounded xs out ≡ fill xs out
unfolding fill_bounded
within_so xs out h = rw (le-ltb 16384 (length xs) h)

module _ (t out : List ℕ) where
  escape_told : (n p : ℕ) → (escape_outcome t out).answer ≡ Refused n p → EscapeBy t out n p
  unfolding escape_outcome
  escape_told n p e =
      checked_told (allowed true) t out (EscapeBy t out) (fill_bounded (escaped t) out) n p e (λ m q u. no_text u)
      (λ f g. bounded_told (EscapeBy t out) (escaped t) out n p g (λ h. escape_over f h) (λ h k. escape_room f h k))

  escape_so : (n p : ℕ) → EscapeBy t out n p → escape_outcome t out ≡ refuse n p out
  unfolding escape_outcome
  escape_so n p (no_text u) = checked_unfair (allowed true) t out _ n p u
  escape_so n p (escape_over f h) = checked_fair (allowed true) t out _ f ∙ over_so (escaped t) out h
  escape_so n p (escape_room f h k) = checked_fair (allowed true) t out _ f ∙ within_so (escaped t) out h ∙ short_so (escaped t) out k

  pub escape_exactly : Filling (escape_outcome t out) out (EscapeBy t out)
  escape_exactly = record { only = escape_told; unchanged = escape_so }

  -- ---- unescape

  pub fault_le : first_fault t ≤ length t
  unfolding first_fault
  fault_le = scan_le text_step t 0

  fault_is : (p : ℕ) (u : List ℕ) → p < length t → Stands (take p t) u → Faulty (drop p t) → first_fault t ≡ p
  fault_is p u h s f =
      let w : first_fault (take p t ++ drop p t) ≡ length (take p t) = fault_first (take p t) (drop p t) u s f in
      (rw take-append-drop at w) ∙ length-take-le p t (omega arith)

  unescape_told : (n p : ℕ) → (unescape_outcome t out).answer ≡ Refused n p → UnescapeBy t out n p
  unfolding unescape_outcome faultless
  unescape_told n p e =
      checked_told (allowed false) t out (UnescapeBy t out) _ n p e (λ m q u. not_text u) (λ f g.
      first (written_tells out) (UnescapeBy t out) (ltb (first_fault t) (length t)) 30 (first_fault t) n p _ g
      (λ a. let h = ltb-true (first_fault t) (length t) a in let w = fault_found t h in fault f h w.0.1 w.1)
      (λ a k.
      let z : first_fault t ≡ length t = omega (arith, ltb-false (first_fault t) (length t) a, fault_le) in
      fill_told (UnescapeBy t out) (unescaped t) out n p k (λ l. text_room f ((stands_exactly t (unescaped t)).1 (z, refl)) l)))

  unescape_so : (n p : ℕ) → UnescapeBy t out n p → unescape_outcome t out ≡ refuse n p out
  unfolding unescape_outcome faultless
  unescape_so n p (not_text u) = checked_unfair (allowed false) t out _ n p u
  unescape_so n p (fault {u = u} f h s b) = checked_fair (allowed false) t out _ f ∙ rw (fault_is p u h s b, lt-ltb p (length t) h)
  unescape_so n p (text_room {u = u} f s h) =
      let w = (stands_exactly t u).0 s in
      checked_fair (allowed false) t out _ f
      ∙ rw (le-ltb (first_fault t) (length t) (omega (arith, w.0)), w.1) (short_so u out h)

  pub unescape_exactly : Filling (unescape_outcome t out) out (UnescapeBy t out)
  unescape_exactly = record { only = unescape_told; unchanged = unescape_so }

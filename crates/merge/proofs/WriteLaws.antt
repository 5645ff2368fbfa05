-- Pairs written one after the other. Assumes nothing.
use mathlib.Core.Path.{◌≡◌, refl, sym, ap, ◌∙◌}
use mathlib.Core.Bool.{true, false}
use mathlib.Core.List.{List, [], ◌∷◌, ◌++◌, append_assoc}
use Prim.Native.Nat.{ℕ, zero, suc, ◌+◌, ◌-◌, ◌*◌, ◌<◌, ◌≤◌}
use native.Mathlib.Nat.{add-zero}
use native.Mathlib.Numerals.{add-one}
use native.Mathlib.Omega.{arith}
use lib.Dec.{eqb}
use lib.ListN.{length, get_or, take, drop, set, length-append, length-set, take-append-drop}
use lib.Seq.{sets-eq, take_at, drop-drop, drop-append-add, length-take-le}
use borrow.Author.Tests.{le-ltb}
use Rattle.octets.proofs.Bools.{by}
use Rattle.merge_pids.specs.Marks.{Marked, marked}
use Rattle.merge_sides.proofs.Walks.{left, over}
use Rattle.merge_partners.specs.Pairs.{Pair, pairs_from}
use Rattle.merge.specs.Plans.{flatten, put_partner, put_partners}

pub flatten_length : (ps : List Pair) → length (flatten ps) ≡ length ps * 2
unfolding flatten
flatten_length [] = refl
flatten_length (q ∷ qs) = omega (arith, flatten_length qs)

-- there are no more pairs than lines
pub pairs_few : (p : List ℕ) (i k : ℕ) → length (pairs_from p i k) ≤ k
unfolding pairs_from
pairs_few p i zero = omega arith
pairs_few p i (suc k) =
    by (eqb (get_or p i 0) 0)
    (λ e. rw e (omega (arith, pairs_few p (i + 1) k)))
    (λ e. rw e (omega (arith, pairs_few p (i + 1) k)))

module _ (s : Marked) (p : List ℕ) (n i : ℕ) where
  pub partners_turn : i < n → put_partners s p i (n - i) ≡ put_partners (put_partner s i (get_or p i 0)) p (i + 1) (n - (i + 1))
  unfolding put_partners
  partners_turn h = rw (left n i h)

  pub partners_over : n ≤ i → put_partners s p i (n - i) ≡ s
  unfolding put_partners
  partners_over h = rw (over n i h)

-- two numbers put at a place
module _ (out : List ℕ) (at x y : ℕ) (fits : at + 2 ≤ length out) where
  abbrev Put : List ℕ
  Put = set (set out at x) (at + 1) y

  abbrev Head : List ℕ
  Head = take at out ++ (x ∷ y ∷ [])

  put_split : Put ≡ Head ++ drop (at + 2) out
  put_split = ap (λ (k : ℕ). set (set out at x) k y) (add-one at) ∙ sets-eq (x ∷ y ∷ []) out at fits ∙ simp append_assoc

  head_length : length Head ≡ at + 2
  head_length = length-append (take at out) (x ∷ y ∷ []) ∙ rw (length-take-le at out (omega arith)) (omega arith)

  pub put_take : take (at + 2) Put ≡ Head
  put_take = ap (take (at + 2)) put_split ∙ take_at Head (drop (at + 2) out) (at + 2) head_length

  pub put_drop : (n : ℕ) → drop (at + 2 + n) Put ≡ drop (at + 2 + n) out
  put_drop n =
      ap (drop (at + 2 + n)) put_split ∙ ap (λ (k : ℕ). drop (k + n) (Head ++ drop (at + 2) out)) (sym head_length)
      ∙ drop-append-add Head (drop (at + 2) out) n ∙ drop-drop n (at + 2) out

-- one line without a partner, and one with it
module _ (s : Marked) (i v : ℕ) where
  partner_none : eqb v 0 ≡ true → put_partner s i v ≡ s
  unfolding put_partner
  partner_none e = rw e

  partner_some : eqb v 0 ≡ false → 2 ≤ length s.room → s.next ≤ length s.room - 2
      → put_partner s i v ≡ marked (s.next + 2) (set (set s.room s.next i) (s.next + 1) (v - 1))
  unfolding put_partner
  partner_some e h g = rw (e, le-ltb (length s.room) 2 h, le-ltb (length s.room - 2) s.next g)

module _ (p : List ℕ) (i k : ℕ) where
  flat_none : eqb (get_or p i 0) 0 ≡ true → flatten (pairs_from p i (suc k)) ≡ flatten (pairs_from p (i + 1) k)
  unfolding pairs_from
  flat_none e = rw e

  flat_some : eqb (get_or p i 0) 0 ≡ false → flatten (pairs_from p i (suc k)) ≡ i ∷ (get_or p i 0 - 1) ∷ flatten (pairs_from p (i + 1) k)
  unfolding pairs_from flatten
  flat_some e = rw e

-- a list written at a place
abbrev written : ℕ → List ℕ → List ℕ → List ℕ
written at out l = take at out ++ (l ++ drop (at + length l) out)

written_none : (p : List ℕ) (i at : ℕ) (out : List ℕ) → written at out (flatten (pairs_from p i 0)) ≡ out
unfolding pairs_from flatten
written_none p i at out = rw (add-zero at) (take-append-drop at out)

-- all of them, where they fit
pub partners_put : (p : List ℕ) (k i at : ℕ) (out : List ℕ) → at + length (flatten (pairs_from p i k)) ≤ length out
    → (put_partners (marked at out) p i k).room ≡ written at out (flatten (pairs_from p i k))
unfolding put_partners
partners_put p zero i at out h = sym (written_none p i at out)
partners_put p (suc k) i at out h =
    by (eqb (get_or p i 0) 0)
    (λ e.
    let fl = flat_none p i k e in
    ap (λ (s : Marked). (put_partners s p (i + 1) k).room) (partner_none (marked at out) i (get_or p i 0) e)
    ∙ partners_put p k (i + 1) at out (omega (arith, h, ap length fl)) ∙ ap (written at out) (sym fl))
    (λ e.
    let fl = flat_some p i k e in
    let rest : List ℕ = flatten (pairs_from p (i + 1) k) in
    let v : ℕ = get_or p i 0 - 1 in
    let room : at + 2 + length rest ≤ length out = omega (arith, h, ap length fl) in
    let put : List ℕ = set (set out at i) (at + 1) v in
    let size : length put ≡ length out = length-set (set out at i) (at + 1) v ∙ length-set out at i in
    let far : at + suc (suc (length rest)) ≡ at + 2 + length rest = omega arith in
    ap (λ (s : Marked). (put_partners s p (i + 1) k).room) (partner_some (marked at out) i (get_or p i 0) e (omega (arith, room)) (omega (arith, room)))
    ∙ partners_put p k (i + 1) (at + 2) put (omega (arith, room, size))
    ∙ ap (λ (l : List ℕ). l ++ (rest ++ drop (at + 2 + length rest) put)) (put_take out at i v (omega (arith, room)))
    ∙ ap (λ (l : List ℕ). (take at out ++ (i ∷ v ∷ [])) ++ (rest ++ l)) (put_drop out at i v (omega (arith, room)) (length rest))
    ∙ append_assoc (take at out) (i ∷ v ∷ []) (rest ++ drop (at + 2 + length rest) out)
    ∙ ap (λ (n : ℕ). take at out ++ ((i ∷ v ∷ rest) ++ drop n out)) (sym far)
    ∙ ap (written at out) (sym fl))

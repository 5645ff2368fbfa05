-- Marks that join nothing new change nothing. Assumes nothing.
use mathlib.Core.Path.{◌≡◌, refl, sym, ap, ◌∙◌}
use mathlib.Core.Bool.{Bool, true, false, not, true≢false}
use mathlib.Core.List.{List}
use Prim.Native.Nat.{ℕ, zero, suc, ◌+◌, ◌<◌, ◌≤◌}
use native.Mathlib.Omega.{arith}
use lib.Dec.{eqb, ltb}
use lib.ListN.{length, get_or}
use borrow.Author.Tests.{eq-eqb, eqb-true, ltb-false}
use Rattle.octets.proofs.Bools.{by}
use Rattle.merge_sides.specs.Lines.{one, same_property}
use Rattle.merge_partners.specs.Keys.{number_at}
use Rattle.merge_partners.specs.Heads.{seat_of, seat_at, partner_of, is_new, count_new, Sifts}
use Rattle.merge_partners.specs.Pairs.{Joined, joined, join_to, join_all, hit_pair, key_pair, hit_pairs}
use Rattle.merge_partners.proofs.JoinLaws.{join_append}

-- a line that is the partner already
pub join_partner : (p t : List ℕ) (i j : ℕ) → seat_of j ≡ partner_of p i → join_to p t i j ≡ joined true p t
unfolding join_to seat_of partner_of
join_partner p t i j h =
    by (ltb i 4096)
    (λ a.
    by (ltb j 4096)
    (λ b.
    by (ltb 4096 (get_or p i 0))
    (λ c. absurd (omega (arith, rw (a, b, c) at h)))
    (λ c. rw (a, b, eq-eqb (get_or p i 0) (j + 1) (sym (rw (a, b, c) at h)))))
    (λ b.
    by (ltb 4096 (get_or p i 0))
    (λ c. absurd (omega (arith, rw (a, b, c) at h)))
    (λ c.
    let x = ltb-false 4096 (get_or p i 0) c in
    absurd (omega (arith, x, rw (a, b, c) at h)))))
    (λ a. by (ltb j 4096) (λ b. absurd (omega (arith, rw (a, b) at h))) (λ b. absurd (omega (arith, rw (a, b) at h))))

not_new : (seat partner : ℕ) → not (eqb seat partner) ≡ false → seat ≡ partner
not_new seat partner h = by (eqb seat partner) (λ e. eqb-true seat partner e) (λ e. absurd (true≢false (rw e at h)))

no_one : (b : Bool) (n : ℕ) → one b + n ≡ 0 → b ≡ false
no_one true n e = absurd (omega (arith, e))
no_one false n e = refl

-- a mark that was passed over
pub passed_over : (tag seat own partner m : ℕ) (r : Bool) → r ≡ is_new tag seat own partner → partner ≡ m → r ≡ false → is_new tag seat own m ≡ false
passed_over tag seat own partner m r e f z = ap (is_new tag seat own) (sym f) ∙ sym e ∙ z

module _ (ca ra : List ℕ) (i key tag : ℕ) (cb rb marks keys tags seats : List ℕ) (s : Sifts ca ra i key tag cb rb marks keys tags seats) (p t : List ℕ) where
  pub none_new : (k : ℕ) → k < length keys → is_new (get_or tags k 0) (get_or seats k 0) tag (partner_of p i) ≡ false
      → join_all (joined true p t) (key_pair ca ra i key cb rb marks keys k) ≡ joined true p t
  unfolding join_all key_pair hit_pair is_new seat_at
  none_new k h n =
      by (eqb (get_or keys k 0) key)
      (λ e.
      by (same_property ca ra i cb rb (number_at marks k 0))
      (λ f.
      let g : get_or tags k 0 ≡ tag = s.3 k h (eqb-true (get_or keys k 0) key e) f in
      let m : not (eqb (get_or seats k 0) (partner_of p i)) ≡ false = rw (eq-eqb (get_or tags k 0) tag g) at n in
      rw (e, f) (join_partner p t i (number_at marks k 0) (sym (s.4 k h) ∙ not_new (get_or seats k 0) (partner_of p i) m)))
      (λ f. rw (e, f)))
      (λ e. rw e)

  pub none_at_all : (n k : ℕ) → k + n ≤ length keys → count_new tags seats tag (partner_of p i) k n ≡ 0
      → join_all (joined true p t) (hit_pairs ca ra i key cb rb marks keys k n) ≡ joined true p t
  unfolding hit_pairs count_new join_all
  none_at_all zero k h e = refl
  none_at_all (suc n) k h e =
      let q : is_new (get_or tags k 0) (get_or seats k 0) tag (partner_of p i) ≡ false = no_one (is_new (get_or tags k 0) (get_or seats k 0) tag (partner_of p i)) (count_new tags seats tag (partner_of p i) (k + 1) n) e in
      join_append (joined true p t) (key_pair ca ra i key cb rb marks keys k) (hit_pairs ca ra i key cb rb marks keys (k + 1) n)
      ∙ ap (λ (z : Joined). join_all z (hit_pairs ca ra i key cb rb marks keys (k + 1) n)) (none_new k (omega arith) q)
      ∙ none_at_all n (k + 1) (omega arith) (omega (arith, e))

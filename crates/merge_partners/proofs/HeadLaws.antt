-- Lines of one property have one digest and one head, so that marks of one key have one tag. Assumes nothing.
use mathlib.Core.Path.{◌≡◌, refl, sym, ap, ◌∙◌}
use mathlib.Core.Bool.{true, false, false≢true}
use mathlib.Core.List.{List, [], ◌∷◌}
use Prim.Native.Nat.{ℕ, zero, suc, ◌+◌, ◌-◌, ◌<◌, ◌≤◌}
use native.Mathlib.Numerals.{add-one}
use native.Mathlib.Omega.{arith}
use lib.Dec.{eqb}
use lib.ListN.{length, get_or, take, drop, replicate, drop_of_length-le}
use lib.Seq.{drop-cons}
use borrow.Author.Tests.{eq-eqb, eqb-true}
use Rattle.std.specs.Prelude.{Some}
use Rattle.octets.specs.Cases.{lower, same}
use Rattle.octets.proofs.Bools.{by, and_both}
use Rattle.merge_sides.specs.Lines.{field_at, name_at, same_property}
use Rattle.merge_sides.proofs.Walks.{left, over}
use Rattle.merge_partners.specs.declared.Headed.{Headed}
use Rattle.merge_partners.specs.Keys.{sets_from, number_at, line}
use Rattle.merge_partners.specs.Heads.{with_octet, digest_from, digest_of, Digests, head_from, Known, tag_of, tag_at, seat_at, Tagged, Sifts}
use Rattle.merge_partners.proofs.WalkLaws.{taken_length, taken_at}

-- one turn of a digest, and its end
module _ (s : List ℕ) (digest i : ℕ) where
  pub digest_turn : i < length s → digest_from digest (drop i s) ≡ digest_from (with_octet digest (get_or s i 0)) (drop (i + 1) s)
  unfolding digest_from
  digest_turn h = rw (add-one, drop-cons s i 0)

  pub digest_end : length s ≤ i → digest_from digest (drop i s) ≡ digest
  unfolding digest_from
  digest_end h = rw (drop_of_length-le s h)

-- names that are equal without case have one digest, and a third is equal to both or to none
one_octet : (h x y : ℕ) → lower x ≡ lower y → with_octet h x ≡ with_octet h y
unfolding with_octet
one_octet h x y e = rw e

same_digest : (h : ℕ) (xs ys : List ℕ) → same xs ys ≡ true → digest_from h xs ≡ digest_from h ys
unfolding same digest_from
same_digest h [] [] e = refl
same_digest h [] (y ∷ ys) e = absurd (false≢true e)
same_digest h (x ∷ xs) [] e = absurd (false≢true e)
same_digest h (x ∷ xs) (y ∷ ys) e =
    let z = and_both (eqb (lower x) (lower y)) (same xs ys) e in
    ap (λ (k : ℕ). digest_from k xs) (one_octet h x y (eqb-true (lower x) (lower y) z.0)) ∙ same_digest (with_octet h y) xs ys z.1

same_swap : (xs ys zs : List ℕ) → same ys zs ≡ true → same xs ys ≡ same xs zs
unfolding same
same_swap xs [] [] e = refl
same_swap xs [] (z ∷ zs) e = absurd (false≢true e)
same_swap xs (y ∷ ys) [] e = absurd (false≢true e)
same_swap [] (y ∷ ys) (z ∷ zs) e = refl
same_swap (x ∷ xs) (y ∷ ys) (z ∷ zs) e =
    let f = and_both (eqb (lower y) (lower z)) (same ys zs) e in
    rw (eqb-true (lower y) (lower z) f.0, same_swap xs ys zs f.1)

module _ (ca ra : List ℕ) (i : ℕ) (cb rb : List ℕ) (j : ℕ) (e : same_property ca ra i cb rb j ≡ true) where
  one_row : field_at ra i 0 ≡ field_at rb j 0
  unfolding same_property
  one_row =
      by (eqb (field_at ra i 0) (field_at rb j 0))
      (λ f. eqb-true (field_at ra i 0) (field_at rb j 0) f)
      (λ f. absurd (false≢true (rw f at e)))

  one_name : eqb (field_at ra i 0) 0 ≡ true → same (name_at ca ra i) (name_at cb rb j) ≡ true
  unfolding same_property
  one_name h = rw (eq-eqb (field_at ra i 0) (field_at rb j 0) one_row, h) at e

  one_digest : digest_of ca ra i ≡ digest_of cb rb j
  unfolding digest_of
  one_digest =
      by (eqb (field_at ra i 0) 0)
      (λ h. rw (sym one_row, h) (same_digest 0 (name_at ca ra i) (name_at cb rb j) (one_name h)))
      (λ h. rw (sym one_row, h))

  one_like : (x : ℕ) → same_property ca ra x ca ra i ≡ same_property ca ra x cb rb j
  unfolding same_property
  one_like x =
      by (eqb (field_at ra x 0) (field_at ra i 0))
      (λ f.
      by (eqb (field_at ra x 0) 0)
      (λ g.
      let h : eqb (field_at ra i 0) 0 ≡ true = ap (λ (n : ℕ). eqb n 0) (sym (eqb-true (field_at ra x 0) (field_at ra i 0) f)) ∙ g in
      rw (sym one_row, f, g) (same_swap (name_at ca ra x) (name_at ca ra i) (name_at cb rb j) (one_name h)))
      (λ g. rw (sym one_row, f, g)))
      (λ f. rw (sym one_row, f))

  one_head : (n x : ℕ) → head_from ca ra ca ra i x n ≡ head_from ca ra cb rb j x n
  unfolding head_from
  one_head zero x = refl
  one_head (suc n) x = rw (one_like x, one_head n (x + 1))

-- lines with two digests have two properties
pub digests_apart : (ca ra : List ℕ) (i : ℕ) (cb rb : List ℕ) (j : ℕ) → (digest_of ca ra i ≡ digest_of cb rb j → ⊥) → same_property ca ra i cb rb j ≡ false
digests_apart ca ra i cb rb j h = by (same_property ca ra i cb rb j) (λ e. absurd (h (one_digest ca ra i cb rb j e))) (λ e. e)

-- one line more of those that are looked through, and none
module _ (ca ra c rs : List ℕ) (j n i : ℕ) where
  pub head_here : i < n → same_property ca ra i c rs j ≡ true → head_from ca ra c rs j i (n - i) ≡ i
  unfolding head_from
  head_here h e = rw (left n i h, e)

  pub head_turn : i < n → same_property ca ra i c rs j ≡ false → head_from ca ra c rs j i (n - i) ≡ head_from ca ra c rs j (i + 1) (n - (i + 1))
  unfolding head_from
  head_turn h e = rw (left n i h, e)

  pub head_over : n ≤ i → head_from ca ra c rs j i (n - i) ≡ 4096
  unfolding head_from
  head_over h = rw (over n i h)

-- what is known of the line that was looked at last
module _ (ca ra : List ℕ) (n : ℕ) (c rs : List ℕ) where
  pub look_same : (last : Headed) (j : ℕ) → Known ca ra n c rs (Some last) → last.line ≡ j
      → (last.line ≡ j) × (last.head ≡ head_from ca ra c rs j 0 n)
  look_same last j k e = (e, k ∙ ap (λ (m : ℕ). head_from ca ra c rs m 0 n) e)

  pub known_of : (a : Headed) (j : ℕ) → a.line ≡ j → a.head ≡ head_from ca ra c rs j 0 n → Known ca ra n c rs (Some a)
  known_of a j e f = f ∙ ap (λ (m : ℕ). head_from ca ra c rs m 0 n) (sym e)

-- the tag of line i and a key finds each mark that can join it
pub tagged_sifts : (ca ra : List ℕ) (n : ℕ) (cb rb marks keys tags seats : List ℕ) → Tagged ca ra n cb rb marks keys tags seats → (i key tag : ℕ)
    → tag ≡ tag_of (head_from ca ra ca ra i 0 n) key → Sifts ca ra i key tag cb rb marks keys tags seats
unfolding tag_at
tagged_sifts ca ra n cb rb marks keys tags seats t i key tag e = (
  t.0,
  t.1,
  t.2,
  λ k h f g. t.3 k h ∙ ap (tag_of (head_from ca ra cb rb (number_at marks k line) 0 n)) f
      ∙ ap (λ (m : ℕ). tag_of m key) (sym (one_head ca ra i cb rb (number_at marks k line) g n 0)) ∙ sym e,
  t.4,
)

-- the digests of the first n lines
pub digested : (c rs digests : List ℕ) (n : ℕ) → digests ≡ sets_from (digest_of c rs) (replicate 4096 0) 0 n → n ≤ 4096 → Digests c rs (take n digests)
digested c rs digests n e h = λ i l. taken_at (digest_of c rs) digests n e h i (omega (arith, l, taken_length (digest_of c rs) digests n e h))

-- the tags and seats of n marks
pub tagged : (ca ra : List ℕ) (m : ℕ) (cb rb marks keys tags seats : List ℕ) (n : ℕ) → length keys ≡ n → n ≤ 4096
    → tags ≡ sets_from (tag_at ca ra m cb rb marks keys) (replicate 4096 0) 0 (length keys) → seats ≡ sets_from (seat_at marks) (replicate 4096 0) 0 n
    → Tagged ca ra m cb rb marks keys (take n tags) (take n seats)
tagged ca ra m cb rb marks keys tags seats n e h x y =
    let f = tag_at ca ra m cb rb marks keys in
    let z : tags ≡ sets_from f (replicate 4096 0) 0 n = x ∙ ap (sets_from f (replicate 4096 0) 0) e in (
      taken_length f tags n z h ∙ sym e,
      taken_length (seat_at marks) seats n y h ∙ sym e,
      omega (arith, e, h),
      λ k l. taken_at f tags n z h k (omega (arith, l, e)),
      λ k l. taken_at (seat_at marks) seats n y h k (omega (arith, l, e)),
    )

-- Lists of partners, counted from 1, 0 for none: two lists that agree, and one pair more. Assumes nothing.
use mathlib.Core.Path.{◌≡◌, refl, sym, ap, subst, ◌∙◌}
use mathlib.Core.Bool.{true}
use mathlib.Core.List.{List, [], ◌∷◌}
use mathlib.Core.Logic.{◌⊎◌, inl, inr}
use Prim.Native.Nat.{ℕ, ◌+◌, ◌<◌}
use native.Mathlib.Omega.{arith}
use lib.Dec.{eqb}
use lib.ListN.{length, get_or, set}
use lib.Seq.{get_or-set_same, get_or-set_other}
use borrow.Author.Tests.{eqb-true, eqb-false}
use Rattle.octets.proofs.Bools.{by}
use Rattle.merge_partners.specs.Pairs.{Pair, pair, Joined, joined}
use Rattle.merge_words.specs.Lists.{Member}
use Rattle.merge_words.specs.Lists.Member.{there}
use Rattle.merge_words.proofs.Members.{member_cases, member_none}
use Rattle.merge_laws.proofs.Lists.{head_is}

-- a number put where there is none
module _ (l : List ℕ) (i v : ℕ) (low : i < length l) (free : get_or l i 0 ≡ 0) where
  pub put_new : get_or (set l i v) i 0 ≡ v
  put_new = get_or-set_same l i v 0 low

  pub put_other : (k : ℕ) → (k ≡ i → ⊥) → get_or (set l i v) k 0 ≡ get_or l k 0
  put_other k d = get_or-set_other l i k v 0 d

  pub put_kept : (k w : ℕ) → get_or l k 0 ≡ w + 1 → get_or (set l i v) k 0 ≡ w + 1
  put_kept k w e = put_other k (λ d. absurd (omega (arith, e, free, ap (λ (n : ℕ). get_or l n 0) d))) ∙ e

  pub put_only : (k w : ℕ) → get_or (set l i v) k 0 ≡ w + 1 → ((k ≡ i) × (v ≡ w + 1)) ⊎ (get_or l k 0 ≡ w + 1)
  put_only k w e =
      by (eqb k i)
      (λ q.
      let s : k ≡ i = eqb-true k i q in
      inl (s, sym put_new ∙ ap (λ (n : ℕ). get_or (set l i v) n 0) (sym s) ∙ e))
      (λ q. inr (sym (put_other k (eqb-false k i q)) ∙ e))

-- each partner of a line of one list has that line in the other
abbrev pub Forth : List ℕ → List ℕ → Type 0
Forth p t = (i j : ℕ) → get_or p i 0 ≡ j + 1 → get_or t j 0 ≡ i + 1

pub record Two (p t : List ℕ) : Type 0 where
  pub forth : Forth p t
  pub back : Forth t p

-- one pair more, of two lines without partners
pub record Free (p t : List ℕ) (i j : ℕ) : Type 0 where
  pub low : i < length p
  pub low_too : j < length t
  pub none : get_or p i 0 ≡ 0
  pub none_too : get_or t j 0 ≡ 0

pub turned : {p t : List ℕ} {i j : ℕ} → Free p t i j → Free t p j i
turned f = record { low = f.low_too; low_too = f.low; none = f.none_too; none_too = f.none }

link_forth : (p t : List ℕ) (i j : ℕ) → Free p t i j → Forth p t → Forth (set p i (j + 1)) (set t j (i + 1))
link_forth p t i j f two k w e = go (put_only p i (j + 1) f.low f.none k w e)
  where
    go : ((k ≡ i) × (j + 1 ≡ w + 1)) ⊎ (get_or p k 0 ≡ w + 1) → get_or (set t j (i + 1)) w 0 ≡ k + 1
    go (inl (s, r)) =
        let u : w ≡ j = omega arith in
        ap (λ (n : ℕ). get_or (set t j (i + 1)) n 0) u ∙ put_new t j (i + 1) f.low_too f.none_too ∙ ap (λ (n : ℕ). n + 1) (sym s)
    go (inr h) = put_kept t j (i + 1) f.low_too f.none_too w k (two k w h)

pub link : (p t : List ℕ) (i j : ℕ) → Free p t i j → Two p t → Two (set p i (j + 1)) (set t j (i + 1))
link p t i j f two = record { forth = link_forth p t i j f two.forth; back = link_forth t p j i (turned f) two.back }

-- the partners p became those of s by the pairs
pub record Done (qs : List Pair) (p : List ℕ) (s : Joined) : Type 0 where
  pub two : Two s.first s.second
  pub took : (i j : ℕ) → Member (pair i j) qs → get_or s.first i 0 ≡ j + 1
  pub kept : (i j : ℕ) → get_or p i 0 ≡ j + 1 → get_or s.first i 0 ≡ j + 1
  pub only : (i j : ℕ) → get_or s.first i 0 ≡ j + 1 → Member (pair i j) qs ⊎ (get_or p i 0 ≡ j + 1)

pub done_none : (p t : List ℕ) → Two p t → Done [] p (joined true p t)
done_none p t two = record { two = two; took = λ i j m. member_none m refl; kept = λ i j e. e; only = λ i j e. inr e }

took_cons : (q : Pair) (qs : List Pair) (s : Joined) → get_or s.first q.left 0 ≡ q.right + 1 → ((i j : ℕ) → Member (pair i j) qs → get_or s.first i 0 ≡ j + 1)
    → (i j : ℕ) → Member (pair i j) (q ∷ qs) → get_or s.first i 0 ≡ j + 1
took_cons q qs s h f i j m = go (member_cases m)
  where
    go : (pair i j ≡ q) ⊎ Member (pair i j) qs → get_or s.first i 0 ≡ j + 1
    go (inl e) = subst (λ (z : Pair). get_or s.first z.left 0 ≡ z.right + 1) (sym e) h
    go (inr r) = f i j r

-- a pair that was there
pub done_kept : (q : Pair) (qs : List Pair) (p : List ℕ) (s : Joined) → get_or p q.left 0 ≡ q.right + 1 → Done qs p s → Done (q ∷ qs) p s
done_kept q qs p s h d =
    record {
      two = d.two;
      took = took_cons q qs s (d.kept q.left q.right h) d.took;
      kept = d.kept;
      only = λ i j e. go i j (d.only i j e);
    }
  where
    go : (i j : ℕ) → Member (pair i j) qs ⊎ (get_or p i 0 ≡ j + 1) → Member (pair i j) (q ∷ qs) ⊎ (get_or p i 0 ≡ j + 1)
    go i j (inl m) = inl (there m)
    go i j (inr e) = inr e

-- a pair of two lines without partners
pub done_new : (q : Pair) (qs : List Pair) (p t : List ℕ) (s : Joined) → Free p t q.left q.right → Done qs (set p q.left (q.right + 1)) s → Done (q ∷ qs) p s
done_new q qs p t s f d =
    record {
      two = d.two;
      took = took_cons q qs s (d.kept q.left q.right (put_new p q.left (q.right + 1) f.low f.none)) d.took;
      kept = λ i j e. d.kept i j (put_kept p q.left (q.right + 1) f.low f.none i j e);
      only = λ i j e. go i j (d.only i j e);
    }
  where
    here_too : (i j : ℕ) → ((i ≡ q.left) × (q.right + 1 ≡ j + 1)) ⊎ (get_or p i 0 ≡ j + 1) → Member (pair i j) (q ∷ qs) ⊎ (get_or p i 0 ≡ j + 1)
    here_too i j (inl (e, g)) = inl (head_is q qs i j (sym e) (omega arith))
    here_too i j (inr e) = inr e

    go : (i j : ℕ) → Member (pair i j) qs ⊎ (get_or (set p q.left (q.right + 1)) i 0 ≡ j + 1) → Member (pair i j) (q ∷ qs) ⊎ (get_or p i 0 ≡ j + 1)
    go i j (inl m) = inl (there m)
    go i j (inr e) = here_too i j (put_only p q.left (q.right + 1) f.low f.none i j e)

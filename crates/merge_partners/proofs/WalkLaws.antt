-- Walks over entries, keys, marks and lines: one more of those that are left, and none. Assumes nothing.
use mathlib.Core.Path.{◌≡◌, refl, sym, ap, ◌∙◌}
use mathlib.Core.Bool.{Bool, true, false, not}
use Rattle.std.specs.Int.{from_bool}
use mathlib.Core.List.{List, [], ◌++◌}
use Prim.Native.Nat.{ℕ, zero, suc, ◌+◌, ◌-◌, ◌<◌, ◌≤◌, min}
use native.Mathlib.Numerals.{add-one}
use native.Mathlib.Omega.{arith}
use lib.Dec.{eqb}
use lib.ListN.{length, get_or, take, drop, set, drop_of_length-le, replicate, length-take, length-set, length-replicate}
use lib.Seq.{drop-cons, get_or-take, get_or-set_same, get_or-set_other}
use borrow.Author.Tests.{eqb-true, eqb-false}
use Rattle.std.specs.List.{filter}
use Rattle.octets.proofs.Bools.{by}
use Rattle.merge_sources.specs.declared.Row.{Row}
use Rattle.merge_sides.specs.Lines.{one}
use Rattle.merge_sides.proofs.Walks.{left, over}
use Rattle.merge_partners.specs.Keys.{sets_from, classes_of, number_at, line, key_at}
use Rattle.merge_partners.specs.Heads.{is_new, count_new}
use Rattle.merge_partners.specs.Pairs.{key_pair, hit_pairs, mark_pairs, shared_pairs, row_pairs, single_pairs, keys_of, demanded_pairs, pairs_from}

module _ (f : ℕ → ℕ) (xs : List ℕ) (n i : ℕ) where
  pub sets_turn : i < n → sets_from f xs i (n - i) ≡ sets_from f (set xs i (f i)) (i + 1) (n - (i + 1))
  unfolding sets_from
  sets_turn h = rw (left n i h)

  pub sets_over : n ≤ i → sets_from f xs i (n - i) ≡ xs
  unfolding sets_from
  sets_over h = rw (over n i h)

-- elements that became what f says
module _ (f : ℕ → ℕ) where
  sets_below : (k : ℕ) (xs : List ℕ) (i n : ℕ) → n < i → get_or (sets_from f xs i k) n 0 ≡ get_or xs n 0
  unfolding sets_from
  sets_below zero xs i n h = refl
  sets_below (suc k) xs i n h = sets_below k (set xs i (f i)) (i + 1) n (omega arith) ∙ get_or-set_other xs i n (f i) 0 (λ e. absurd (omega arith))

  pub sets_at : (k : ℕ) (xs : List ℕ) (i n : ℕ) → i ≤ n → n < i + k → i + k ≤ length xs → get_or (sets_from f xs i k) n 0 ≡ f n
  unfolding sets_from
  sets_at zero xs i n a b c = absurd (omega arith)
  sets_at (suc k) xs i n a b c =
      by (eqb i n)
      (λ e.
      let s : i ≡ n = eqb-true i n e in
      sets_below k (set xs i (f i)) (i + 1) n (omega arith) ∙ ap (λ (j : ℕ). get_or (set xs i (f i)) j 0) (sym s) ∙ get_or-set_same xs i (f i) 0 (omega arith) ∙ ap f s)
      (λ e. sets_at k (set xs i (f i)) (i + 1) n (omega (arith, eqb-false i n e)) (omega arith) (omega (arith, length-set xs i (f i))))

  pub sets_length : (k : ℕ) (xs : List ℕ) (i : ℕ) → length (sets_from f xs i k) ≡ length xs
  unfolding sets_from
  sets_length zero xs i = refl
  sets_length (suc k) xs i = sets_length k (set xs i (f i)) (i + 1) ∙ length-set xs i (f i)

-- and the first n of them alone
module _ (f : ℕ → ℕ) (xs : List ℕ) (n : ℕ) (e : xs ≡ sets_from f (replicate 4096 0) 0 n) (h : n ≤ 4096) where
  pub taken_length : length (take n xs) ≡ n
  taken_length =
      let size : length xs ≡ 4096 = ap (λ (ys : List ℕ). length ys) e ∙ sets_length f n (replicate 4096 0) 0 ∙ length-replicate {A = ℕ} 4096 0 in
      length-take n xs ∙ omega (arith, size, h)

  pub taken_at : (k : ℕ) → k < n → get_or (take n xs) k 0 ≡ f k
  taken_at k l =
      get_or-take n xs k 0 l ∙ ap (λ (ys : List ℕ). get_or ys k 0) e
      ∙ sets_at f n (replicate 4096 0) 0 k (omega arith) (omega arith) (omega (arith, h, length-replicate {A = ℕ} 4096 0))

-- a test counts as 1 where it holds
pub counted : (r : ℕ) (b t : Bool) → r ≡ from_bool b → b ≡ t → (r ≡ one t) × (r ≤ 1)
counted r true t e f = (e ∙ ap one f, omega (arith, e))
counted r false t e f = (e ∙ ap one f, omega (arith, e))

module _ (tags seats : List ℕ) (own partner n k : ℕ) where
  pub new_turn : k < n → count_new tags seats own partner k (n - k) ≡ one (is_new (get_or tags k 0) (get_or seats k 0) own partner) + count_new tags seats own partner (k + 1) (n - (k + 1))
  unfolding count_new
  new_turn h = rw (left n k h)

  pub new_over : n ≤ k → count_new tags seats own partner k (n - k) ≡ 0
  unfolding count_new
  new_over h = rw (over n k h)

module _ (p : List ℕ) where
  pub partners_counted : (i k : ℕ) → i + k ≡ length p → length (filter (λ n. not (eqb n 0)) (drop i p)) ≡ length (pairs_from p i k)
  unfolding pairs_from
  partners_counted i zero h = rw (drop_of_length-le p {i = i} (omega arith))
  partners_counted i (suc k) h =
      let here : i < length p = omega arith in
      let rest = rw add-one at (partners_counted (i + 1) k (omega arith)) in
      rw (drop-cons p i 0 here, add-one) (by (eqb (get_or p i 0) 0) (λ e. rw e (omega (arith, rest))) (λ e. rw e (omega (arith, rest))))

module _ (ca ra : List ℕ) (i key : ℕ) (cb rb marks keys : List ℕ) where
  pub hits_turn : (n k : ℕ) → k < n → hit_pairs ca ra i key cb rb marks keys k (n - k) ≡ key_pair ca ra i key cb rb marks keys k ++ hit_pairs ca ra i key cb rb marks keys (k + 1) (n - (k + 1))
  unfolding hit_pairs
  hits_turn n k h = rw (left n k h)

  pub hits_over : (n k : ℕ) → n ≤ k → hit_pairs ca ra i key cb rb marks keys k (n - k) ≡ []
  unfolding hit_pairs
  hits_over n k h = rw (over n k h)

module _ (ca ra firsts : List ℕ) (own : Row) (classes cb rb marks keys : List ℕ) (n k : ℕ) where
  pub shared_turn : k < n → shared_pairs ca ra firsts own classes cb rb marks keys k (n - k)
      ≡ mark_pairs ca ra (number_at firsts k line) (key_at firsts own classes k) cb rb marks keys ++ shared_pairs ca ra firsts own classes cb rb marks keys (k + 1) (n - (k + 1))
  unfolding shared_pairs
  shared_turn h = rw (left n k h)

  pub shared_over : n ≤ k → shared_pairs ca ra firsts own classes cb rb marks keys k (n - k) ≡ []
  unfolding shared_pairs
  shared_over h = rw (over n k h)

module _ (ra : List ℕ) (na : ℕ) (rb : List ℕ) (nb n row : ℕ) where
  pub singles_turn : row < n → single_pairs ra na rb nb row (n - row) ≡ row_pairs row ra na rb nb ++ single_pairs ra na rb nb (row + 1) (n - (row + 1))
  unfolding single_pairs
  singles_turn h = rw (left n row h)

  pub singles_over : n ≤ row → single_pairs ra na rb nb row (n - row) ≡ []
  unfolding single_pairs
  singles_over h = rw (over n row h)

-- the demanded pairs by the classes and keys that the code holds
module _ (ca ra : List ℕ) (na : ℕ) (firsts : List ℕ) (ka : ℕ) (a : Row) (cb rb : List ℕ) (nb : ℕ) (seconds : List ℕ) (kb : ℕ) (b : Row) where
  pub demanded_by : (in_a in_b keys : List ℕ) (n : ℕ) → in_a ≡ classes_of ca a ca a → in_b ≡ classes_of ca a cb b
      → keys ≡ sets_from (key_at seconds b in_b) (replicate 4096 0) 0 kb → n ≡ min kb 4096
      → demanded_pairs ca ra na firsts ka a cb rb nb seconds kb b
      ≡ shared_pairs ca ra firsts a in_a cb rb seconds (take n keys) 0 ka ++ single_pairs ra na rb nb 0 39
  unfolding demanded_pairs keys_of
  demanded_by in_a in_b keys n e f g h = rw (e, h, g, f)

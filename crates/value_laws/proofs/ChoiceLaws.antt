-- The rows chosen for a name are those that agree with it, at most two, and the search over them finds what the search over all rows does.
-- Assumes nothing.
use mathlib.Core.Path.{◌≡◌, refl, sym, ap, ◌∙◌}
use mathlib.Core.Bool.{Bool, true, false≢true}
use mathlib.Core.List.{List, [], ◌∷◌, Memᴰ}
use mathlib.Core.Logic.{◌⊎◌, inl, inr}
use Prim.Native.Nat.{ℕ, zero, suc, ◌+◌, ◌-◌, ◌<◌, ◌≤◌}
use native.Mathlib.Omega.{arith}
use lib.Dec.{eqb}
use lib.ListN.{length, get_or}
use borrow.Author.Tests.{eqb-true}
use Rattle.octets.specs.Pick.{pick}
use Rattle.octets.specs.Cases.{lower, same}
use Rattle.octets.specs.Ascii.{octets}
use Rattle.property_table.specs.declared.Edition.{Edition}
use Rattle.property_table.specs.declared.Edition.TheVariants.{First, Second}
use Rattle.property_table.specs.Rows.{Row, rows, newer, all_rows, row_count, row_at, initial, starts_as, agrees, choice, chosen}
use Rattle.octets.proofs.Bools.{by}
use Rattle.octets.proofs.Upto.{upto, alike}
use Rattle.property_table.proofs.RowLaws.{has_row, search_from, search_start, search_found, search_next, search_none, search_other, agree_both, choice_from, choice_in, choice_out, choice_none, none_starts}
use Rattle.value_laws.specs.Choice.{among, Choosing}

-- the rows from m on that pass a test
module _ (ed : Edition) (p : Row → Bool) where
  in_choice : (d m n : ℕ) → m + d ≡ row_count ed → Memᴰ n (choice_from ed p m) → (m ≤ n) × (n < row_count ed) × (p (row_at n) ≡ true)
  in_choice zero m n e h =
      let over : m ≡ row_count ed = omega arith in
      absurd (mathlib.Core.List.Memᴰ.not-nil (rw (over, choice_none ed p) at h))
  in_choice (suc d) m n e h =
      let low : m < row_count ed = omega arith in
      let later : Memᴰ n (choice_from ed p (m + 1)) → (m ≤ n) × (n < row_count ed) × (p (row_at n) ≡ true) =
      λ k. let r = in_choice d (m + 1) n (omega arith) k in (omega (arith, r.0), r.1, r.2) in
      by (p (row_at m)) (λ q. first low q later (mathlib.Core.List.Memᴰ.cases_cons (rw (choice_in ed p m low q) at h))) (λ q. later (rw (choice_out ed p m low q) at h))
    where
      first : {m n : ℕ} → m < row_count ed → p (row_at m) ≡ true → (Memᴰ n (choice_from ed p (m + 1)) → (m ≤ n) × (n < row_count ed) × (p (row_at n) ≡ true))
          → (n ≡ m) ⊎ Memᴰ n (choice_from ed p (m + 1)) → (m ≤ n) × (n < row_count ed) × (p (row_at n) ≡ true)
      first low q later (inl e) = (omega arith, omega arith, rw e q)
      first low q later (inr k) = later k

  to_choice : (d m n : ℕ) → m + d ≡ n → n < row_count ed → p (row_at n) ≡ true → Memᴰ n (choice_from ed p m)
  to_choice zero m n e h q =
      let here : m ≡ n = omega arith in
      rw (here, choice_in ed p n h q) (mathlib.Core.List.Memᴰ.head refl)
  to_choice (suc d) m n e h q =
      let low : m < row_count ed = omega arith in
      let rest = to_choice d (m + 1) n (omega arith) h q in
      by (p (row_at m)) (λ r. rw (choice_in ed p m low r) (mathlib.Core.List.Memᴰ.tail rest)) (λ r. rw (choice_out ed p m low r) rest)

  -- no row from m on passes, or there is a first one
  Split : ℕ → Type 0
  Split m = (choice_from ed p m ≡ []) ⊎ ((n : ℕ) × (m ≤ n) × (n < row_count ed) × (p (row_at n) ≡ true) × (choice_from ed p m ≡ n ∷ choice_from ed p (n + 1)))

  split : (d m : ℕ) → m + d ≡ row_count ed → Split m
  unfolding Split
  split zero m e =
      let over : m ≡ row_count ed = omega arith in
      inl (ap (choice_from ed p) over ∙ choice_none ed p)
  split (suc d) m e =
      let low : m < row_count ed = omega arith in
      by (p (row_at m)) (λ q. inr (m, omega arith, low, q, choice_in ed p m low q)) (λ q. later (choice_out ed p m low q) (split d (m + 1) (omega arith)))
    where
      later : {m : ℕ} → choice_from ed p m ≡ choice_from ed p (m + 1) → Split (m + 1) → Split m
      later q (inl e) = inl (q ∙ e)
      later q (inr (n, g, h, r, e)) = inr (n, omega arith, h, r, q ∙ e)

-- the search over the rows that agree, from row m on
among_from : (ed : Edition) (v : List ℕ) (d m : ℕ) → m + d ≡ row_count ed → among v (choice_from ed (agrees v) m) ≡ search_from ed v m
unfolding among
among_from ed v zero m e =
    let over : m ≡ row_count ed = omega arith in
    rw (over, choice_none ed (agrees v)) (sym (search_none ed v))
among_from ed v (suc d) m e =
    let low : m < row_count ed = omega arith in
    let rest = among_from ed v d (m + 1) (omega arith) in
    by (agrees v (row_at m))
    (λ q. rw (choice_in ed (agrees v) m low q)
    (by (same v (row_at m).name) (λ s. rw s (sym (search_found ed v m low s))) (λ s. rw s (rest ∙ sym (search_next ed v m low s)))))
    (λ q. rw (choice_out ed (agrees v) m low q) (rest ∙ sym (search_other ed v m low q)))

-- the row after row n that agrees with its name
unfoldable next_in : Edition → ℕ → ℕ
next_in ed n = get_or (choice_from ed (agrees (row_at n).name) (n + 1)) 0 0

next_agrees : (ed : Edition) (v : List ℕ) (n : ℕ) → agrees v (row_at n) ≡ true → get_or (choice_from ed (agrees v) (n + 1)) 0 0 ≡ next_in ed n
unfolding next_in agrees
next_agrees ed v n e = let b = agree_both v (row_at n) e in rw (b.0, b.1)

-- the test of each row: LANG is followed by LOGO, UID by URL, and no other row by one that agrees with it
next_row : (ed : Edition) (n : ℕ) → n < row_count ed → next_in ed n ≡ pick (eqb n 17) 22 (pick (eqb n 31) 33 0)
unfolding upto next_in choice_from choice agrees starts_as initial lower row_at rows newer all_rows octets
next_row First n h = alike (next_in First) (λ j. pick (eqb j 17) 22 (pick (eqb j 31) 33 0)) 39 refl n h
next_row Second n h = alike (next_in Second) (λ j. pick (eqb j 17) 22 (pick (eqb j 31) 33 0)) 44 refl n h

next_pair : (ed : Edition) (n m : ℕ) → n < row_count ed → 0 < m → next_in ed n ≡ m → ((n ≡ 17) × (m ≡ 22)) ⊎ ((n ≡ 31) × (m ≡ 33))
next_pair ed n m h p e =
    let row = next_row ed n h in
    by (eqb n 17)
    (λ q. inl (eqb-true n 17 q, sym e ∙ (rw q at row)))
    (λ q. by (eqb n 31)
    (λ r. inr (eqb-true n 31 r, sym e ∙ (rw (q, r) at row)))
    (λ r. let none : next_in ed n ≡ 0 = rw (q, r) at row in absurd (omega arith)))

module _ (ed : Edition) (v : List ℕ) where
  abbrev on : ℕ → List ℕ
  on n = choice_from ed (agrees v) n

  abbrev Pairs : List ℕ → Type 0
  Pairs s = (length s ≤ 2) × (length s ≡ 2 → (s ≡ 17 ∷ 22 ∷ []) ⊎ (s ≡ 31 ∷ 33 ∷ []))

  -- a third row would follow a second that no row follows
  third : (n m : ℕ) → ((n ≡ 17) × (m ≡ 22)) ⊎ ((n ≡ 31) × (m ≡ 33)) → Split ed (agrees v) (m + 1) → m < row_count ed → agrees v (row_at m) ≡ true → Pairs (n ∷ m ∷ on (m + 1))
  unfolding Split
  third n m w (inl e) h q = rw e (omega arith, λ two. named w)
    where
      named : ((n ≡ 17) × (m ≡ 22)) ⊎ ((n ≡ 31) × (m ≡ 33)) → (n ∷ m ∷ [] ≡ 17 ∷ 22 ∷ []) ⊎ (n ∷ m ∷ [] ≡ 31 ∷ 33 ∷ [])
      named (inl (a, b)) = inl (rw (a, b))
      named (inr (a, b)) = inr (rw (a, b))
  third n m w (inr (k, g, l, r, e)) h q =
      let follows = next_pair ed m k h (omega arith) (sym (next_agrees ed v m q) ∙ ap (λ (s : List ℕ). get_or s 0 0) e) in
      absurd (not_both w follows)
    where
      not_both : {k : ℕ} → ((n ≡ 17) × (m ≡ 22)) ⊎ ((n ≡ 31) × (m ≡ 33)) → ((m ≡ 17) × (k ≡ 22)) ⊎ ((m ≡ 31) × (k ≡ 33)) → ⊥
      not_both (inl (a, b)) (inl (c, d)) = omega arith
      not_both (inl (a, b)) (inr (c, d)) = omega arith
      not_both (inr (a, b)) (inl (c, d)) = omega arith
      not_both (inr (a, b)) (inr (c, d)) = omega arith

  second : (n : ℕ) → Split ed (agrees v) (n + 1) → n < row_count ed → agrees v (row_at n) ≡ true → Pairs (n ∷ on (n + 1))
  unfolding Split
  second n (inl e) h q = rw e (omega arith, λ two. absurd (omega arith))
  second n (inr (m, g, l, r, e)) h q =
      let follows = next_pair ed n m h (omega arith) (sym (next_agrees ed v n q) ∙ ap (λ (s : List ℕ). get_or s 0 0) e) in
      rw e (third n m follows (split ed (agrees v) (row_count ed - (m + 1)) (m + 1) (omega arith)) l r)

  first : Split ed (agrees v) 1 → Pairs (on 1)
  unfolding Split
  first (inl e) = rw e (omega arith, λ two. absurd (omega arith))
  first (inr (n, g, l, r, e)) = rw e (second n (split ed (agrees v) (row_count ed - (n + 1)) (n + 1) (omega arith)) l r)

  whole : 1 + (row_count ed - 1) ≡ row_count ed
  whole = let some = has_row ed in omega arith

  at_most : Pairs (chosen ed v)
  unfolding chosen choice_from
  at_most = first (split ed (agrees v) (row_count ed - 1) 1 whole)

  pub choosing : Choosing ed v
  unfolding chosen choice_from agrees
  choosing =
      record {
        exact = λ n. (in_choice ed (agrees v) (row_count ed - 1) 1 n whole, λ q. to_choice ed (agrees v) (n - 1) 1 n (omega arith) q.1 q.2);
        most = at_most.0;
        pairs = at_most.1;
        letterless = λ e. none_starts ed (length v) (initial v) (λ g h l. false≢true (sym e ∙ l));
        answers = among_from ed v (row_count ed - 1) 1 whole ∙ sym (search_start ed v);
      }

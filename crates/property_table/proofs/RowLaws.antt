-- The search of a name from a row on, and what the table says of a row. Assumes nothing.
use mathlib.Core.Path.{◌≡◌, refl, sym, ap, ◌∙◌}
use mathlib.Core.Bool.{Bool, true, false, false≢true}
use mathlib.Core.List.{List, [], ◌∷◌, ◌++◌}
use mathlib.Core.Logic.{◌⊎◌, inl, inr}
use Prim.Native.Nat.{ℕ, zero, suc, ◌+◌, ◌-◌, ◌*◌, ◌<◌, ◌≤◌}
use native.Mathlib.Numerals.{add-one}
use native.Mathlib.Omega.{arith}
use lib.Dec.{eqb, leb, ltb}
use lib.ListN.{length, get_or, take, drop}
use lib.Seq.{drop-cons, get_or-drop, get_or-take}
use borrow.Author.Tests.{leb-true, lt-ltb, le-ltb, ltb-true, ltb-false, eq-eqb, eqb-true}
use Rattle.octets.specs.Pick.{pick}
use Rattle.octets.specs.Classes.{within}
use Rattle.octets.specs.Cases.{lower, same}
use Rattle.octets.specs.Ascii.{octets}
use Rattle.property_table.specs.Rows.{Row, no_row, rows, newer, all_rows, rows_of, row_count, search, row_of, row_at, initial, starts_as, agrees, choice, first_of, next_of, kind_at, single, marks, once_at, framing, takes_value, rule_at, name_entries, entries, firsts, index_entries, Lists}
use Rattle.property_table.specs.declared.Edition.{Edition}
use Rattle.property_table.specs.declared.Edition.TheVariants.{First, Second}
use Rattle.octets.proofs.Bools.{by, and_both}
use Rattle.octets.proofs.Upto.{upto, alike}
use Rattle.octets.proofs.TableLaws.{entry_at}

-- the rows of an edition, row 0 before them
abbrev all : Edition → List Row
all e = no_row ∷ rows_of e

all_length : (e : Edition) → length (all e) ≡ row_count e
unfolding rows newer all_rows
all_length First = refl
all_length Second = refl

pub has_row : (e : Edition) → 0 < row_count e
has_row First = omega arith
has_row Second = omega arith

pub count_low : (e : Edition) → row_count e ≤ 44
count_low First = omega arith
count_low Second = omega arith

-- a row has one number in both editions
row_in : (e : Edition) (n : ℕ) → n < row_count e → get_or (all e) n no_row ≡ row_at n
unfolding upto row_at rows newer all_rows
row_in First n h = alike (λ j. get_or (all First) j no_row) row_at 39 refl n h
row_in Second n h = refl

row_cons : (e : Edition) (n : ℕ) → n < row_count e → drop n (all e) ≡ row_at n ∷ drop (suc n) (all e)
row_cons e n h =
    let low : n < length (all e) = omega (arith, all_length e) in
    drop-cons (all e) n no_row low ∙ ap (λ (r : Row). r ∷ drop (suc n) (all e)) (row_in e n h)

row_over : (e : Edition) → drop (row_count e) (all e) ≡ []
unfolding rows newer all_rows
row_over First = refl
row_over Second = refl

-- the search from row n on
unfoldable pub search_from : Edition → List ℕ → ℕ → ℕ
search_from e v n = search v n (drop n (all e))

pub search_start : (e : Edition) (v : List ℕ) → row_of e v ≡ search_from e v 1
unfolding row_of search_from
search_start e v = refl

search_at : (e : Edition) (v : List ℕ) (n : ℕ) → n < row_count e → search_from e v n ≡ pick (same v (row_at n).name) n (search_from e v (n + 1))
unfolding search_from search
search_at e v n h = rw (add-one n) (ap (search v n) (row_cons e n h))

pub search_found : (e : Edition) (v : List ℕ) (n : ℕ) → n < row_count e → same v (row_at n).name ≡ true → search_from e v n ≡ n
search_found e v n h q = rw (search_at e v n h, q)

pub search_next : (e : Edition) (v : List ℕ) (n : ℕ) → n < row_count e → same v (row_at n).name ≡ false → search_from e v n ≡ search_from e v (n + 1)
search_next e v n h q = rw (search_at e v n h, q)

pub search_none : (e : Edition) (v : List ℕ) → search_from e v (row_count e) ≡ 0
unfolding search_from search
search_none e v = rw (row_over e)

-- names that are the same have one length and start with one letter
same_start : (a b : List ℕ) → same a b ≡ true → (length b ≡ length a) × (initial b ≡ initial a)
unfolding same initial
same_start [] [] e = (refl, refl)
same_start [] (y ∷ b) e = absurd (false≢true e)
same_start (x ∷ a) [] e = absurd (false≢true e)
same_start (x ∷ a) (y ∷ b) e =
    let h = and_both (eqb (lower x) (lower y)) (same a b) e in
    (ap suc (same_start a b h.1).0, sym (eqb-true (lower x) (lower y) h.0))

pub same_agrees : (v : List ℕ) (r : Row) → same v r.name ≡ true → agrees v r ≡ true
unfolding agrees starts_as
same_agrees v r e =
    let h = same_start v r.name e in
    rw (eq-eqb _ _ h.0, eq-eqb _ _ h.1)

pub search_other : (e : Edition) (v : List ℕ) (n : ℕ) → n < row_count e → agrees v (row_at n) ≡ false → search_from e v n ≡ search_from e v (n + 1)
search_other e v n h f =
    by (same v (row_at n).name)
    (λ q. absurd (false≢true (sym f ∙ same_agrees v (row_at n) q)))
    (λ q. search_next e v n h q)

-- each name has at most thirteen octets, and each but row 0's at least one
pub name_short : (n : ℕ) → n < 44 → length (row_at n).name < 14
unfolding upto row_at rows newer all_rows octets
name_short n h = ltb-true _ _ (alike (λ j. ltb (length (row_at j).name) 14) (λ j. true) 44 refl n h)

name_some : (n : ℕ) → 1 ≤ n → n < 44 → 0 < length (row_at n).name
unfolding upto row_at rows newer all_rows octets
name_some n g h = ltb-true _ _ (alike (λ j. ltb 0 (length (row_at j).name)) (ltb 0) 44 refl n h ∙ lt-ltb 0 n g)

-- each but row 0's starts with a letter
name_letter : (n : ℕ) → 1 ≤ n → n < 44 → within 97 122 (initial (row_at n).name) ≡ true
unfolding upto row_at rows newer all_rows octets initial lower
name_letter n g h = alike (λ j. within 97 122 (initial (row_at j).name)) (ltb 0) 44 refl n h ∙ lt-ltb 0 n g

-- the length and the letter of a row that passes
pub start_both : (l c : ℕ) (r : Row) → starts_as l c r ≡ true → (length r.name ≡ l) × (initial r.name ≡ c)
unfolding starts_as
start_both l c r e =
    let h = and_both (eqb (length r.name) l) (eqb (initial r.name) c) e in
    (eqb-true _ _ h.0, eqb-true _ _ h.1)

pub agree_both : (v : List ℕ) (r : Row) → agrees v r ≡ true → (length r.name ≡ length v) × (initial r.name ≡ initial v)
unfolding agrees
agree_both v r e = start_both (length v) (initial v) r e

-- the rows from n on that pass the test p
unfoldable pub choice_from : Edition → (Row → Bool) → ℕ → List ℕ
choice_from e p n = choice p n (drop n (all e))

choice_at : (e : Edition) (p : Row → Bool) (n : ℕ) → n < row_count e
    → choice_from e p n ≡ pick (p (row_at n)) (n ∷ choice_from e p (n + 1)) (choice_from e p (n + 1))
unfolding choice_from choice
choice_at e p n h = rw (add-one n) (ap (choice p n) (row_cons e n h))

pub choice_in : (e : Edition) (p : Row → Bool) (n : ℕ) → n < row_count e → p (row_at n) ≡ true → choice_from e p n ≡ n ∷ choice_from e p (n + 1)
choice_in e p n h q = rw (choice_at e p n h, q)

pub choice_out : (e : Edition) (p : Row → Bool) (n : ℕ) → n < row_count e → p (row_at n) ≡ false → choice_from e p n ≡ choice_from e p (n + 1)
choice_out e p n h q = rw (choice_at e p n h, q)

pub choice_none : (e : Edition) (p : Row → Bool) → choice_from e p (row_count e) ≡ []
unfolding choice_from choice
choice_none e p = rw (row_over e)

-- where no row from n on passes
unlike : (e : Edition) (p : Row → Bool) (d n : ℕ) → n + d ≡ row_count e → ((k : ℕ) → n ≤ k → k < row_count e → p (row_at k) ≡ true → ⊥) → choice_from e p n ≡ []
unlike e p zero n h f =
    let over : n ≡ row_count e = omega arith in
    ap (choice_from e p) over ∙ choice_none e p
unlike e p (suc d) n h f =
    by (p (row_at n))
    (λ q. absurd (f n (omega arith) (omega arith) q))
    (λ q. choice_out e p n (omega arith) q ∙ unlike e p d (n + 1) (omega arith) (λ k g. f k (omega arith)))

-- no row has a name of this length and letter
pub none_starts : (e : Edition) (l c : ℕ) → (0 < l → l < 14 → within 97 122 c ≡ true → ⊥) → choice (starts_as l c) 1 (rows_of e) ≡ []
unfolding choice_from
none_starts e l c f =
    let some : 1 ≤ row_count e = has_row e in
    unlike e (starts_as l c) (row_count e - 1) 1 (omega arith) (λ k g h q.
    let b = start_both l c (row_at k) q in
    let low : k < 44 = omega (arith, count_low e) in
    f (omega (arith, b.0, name_some k g low)) (omega (arith, b.0, name_short k low)) (rw b.1 at (name_letter k g low)))

pub first_none : (l c : ℕ) → (0 < l → l < 14 → within 97 122 c ≡ true → ⊥) → first_of l c ≡ 0
unfolding first_of
first_none l c f = ap (λ (s : List ℕ). get_or s 0 0) (none_starts Second l c f)

-- the search of a name goes on at row r, which agrees with it, or is over where r is 0
pub record Along (v : List ℕ) (r : ℕ) : Type 0 where
  pub low : r < 44
  pub over : r ≡ 0 → row_of Second v ≡ 0
  pub here : 0 < r → row_of Second v ≡ search_from Second v r
  pub agree : 0 < r → agrees v (row_at r) ≡ true

-- the same, and r is no row before n
pub record Onward (v : List ℕ) (n r : ℕ) : Type 0 where
  pub on : Along v r
  pub after : 0 < r → n ≤ r

-- the first row from n on that agrees
first_from : List ℕ → ℕ → ℕ
first_from v n = get_or (choice_from Second (agrees v) n) 0 0

onward : (v : List ℕ) (d n : ℕ) → n + d ≡ 44 → 0 < n → row_of Second v ≡ search_from Second v n → Onward v n (first_from v n)
unfolding first_from
onward v zero n h p e =
    let over : n ≡ 44 = omega arith in
    let none : choice_from Second (agrees v) n ≡ [] = ap (choice_from Second (agrees v)) over ∙ choice_none Second (agrees v) in
    rw none (record {
      on = record { low = omega arith; over = λ z. e ∙ ap (search_from Second v) over ∙ search_none Second v; here = λ g. absurd (omega arith); agree = λ g. absurd (omega arith) };
      after = λ g. absurd (omega arith);
    })
onward v (suc d) n h p e =
    let low : n < 44 = omega arith in
    by (agrees v (row_at n))
    (λ q. rw (choice_in Second (agrees v) n low q) (record { on = record { low = low; over = λ z. absurd (omega arith); here = λ g. e; agree = λ g. q }; after = λ g. omega arith }))
    (λ q.
    let s = onward v d (n + 1) (omega arith) (omega arith) (e ∙ search_other Second v n low q) in
    rw (choice_out Second (agrees v) n low q) (record { on = s.on; after = λ g. omega (arith, s.after g) }))

pub along_first : (v : List ℕ) → Along v (first_of (length v) (initial v))
unfolding first_of first_from choice_from agrees
along_first v = (onward v 43 1 refl (omega arith) (search_start Second v)).on

pub onward_next : (v : List ℕ) (n : ℕ) → 0 < n → Along v n → same v (row_at n).name ≡ false → Onward v (suc n) (next_of n)
unfolding next_of first_from choice_from agrees
onward_next v n p a f =
    let on = a.here p ∙ search_next Second v n a.low f ∙ ap (search_from Second v) (add-one n) in
    let b = agree_both v (row_at n) (a.agree p) in
    rw (b.0, b.1) (onward v (43 - n) (suc n) (omega (arith, a.low)) (omega arith) on)

-- a search from number i on finds none, or a number from i on, before i and the rows
found_low : (v : List ℕ) (i : ℕ) (rs : List Row) → (search v i rs ≡ 0) ⊎ ((i ≤ search v i rs) × (search v i rs < i + length rs))
unfolding search
found_low v i [] = inl refl
found_low v i (r ∷ rs) =
    by (same v r.name)
    (λ q. rw q (inr (omega arith, omega arith)))
    (λ q. rw q (later (found_low v (suc i) rs)))
  where
    later : (search v (suc i) rs ≡ 0) ⊎ ((suc i ≤ search v (suc i) rs) × (search v (suc i) rs < suc i + length rs))
        → (search v (suc i) rs ≡ 0) ⊎ ((i ≤ search v (suc i) rs) × (search v (suc i) rs < i + suc (length rs)))
    later (inl e) = inl e
    later (inr (g, h)) = inr (omega arith, omega arith)

pub row_low : (e : Edition) (v : List ℕ) → row_of e v < row_count e
unfolding row_of rows newer all_rows
row_low First v = below (found_low v 1 rows)
  where
    below : (search v 1 rows ≡ 0) ⊎ ((1 ≤ search v 1 rows) × (search v 1 rows < 39)) → search v 1 rows < 39
    below (inl e) = omega arith
    below (inr (g, h)) = h
row_low Second v = below (found_low v 1 all_rows)
  where
    below : (search v 1 all_rows ≡ 0) ⊎ ((1 ≤ search v 1 all_rows) × (search v 1 all_rows < 44)) → search v 1 all_rows < 44
    below (inl e) = omega arith
    below (inr (g, h)) = h

-- a search in rows and then in further ones: what the first rows have, else what the others have
search_more : (v : List ℕ) (i : ℕ) (rs ss : List Row) → 0 < i
    → search v i (rs ++ ss) ≡ pick (ltb 0 (search v i rs)) (search v i rs) (search v (i + length rs) ss)
unfolding search
search_more v i [] ss p = ap (λ (n : ℕ). search v n ss) (omega arith)
search_more v i (r ∷ rs) ss p =
    let there : suc i + length rs ≡ i + suc (length rs) = omega arith in
    by (same v r.name)
    (λ q. rw (q, lt-ltb 0 i p))
    (λ q. rw q (search_more v (suc i) rs ss (omega arith) ∙ ap (λ (n : ℕ). pick (ltb 0 (search v (suc i) rs)) (search v (suc i) rs) (search v n ss)) there))

-- the row of a name in edition two: that of edition one, else one of the newer rows
pub second_row : (v : List ℕ) → row_of Second v ≡ pick (ltb 0 (row_of First v)) (row_of First v) (search v 39 newer)
unfolding row_of all_rows rows
second_row v = search_more v 1 rows newer (omega arith)

-- the row of a name in edition one is that in edition two, where edition one has it
pub first_row : (v : List ℕ) → row_of First v ≡ pick (ltb (row_of Second v) 39) (row_of Second v) 0
first_row v =
    by (ltb 0 (row_of First v))
    (λ q.
    let e : row_of Second v ≡ row_of First v = second_row v ∙ rw q in
    rw (e, lt-ltb (row_of First v) 39 (row_low First v)))
    (λ q.
    let none : row_of First v ≡ 0 = zero_of (row_of First v) q in
    let e : row_of Second v ≡ search v 39 newer = second_row v ∙ rw q in
    rw (e, none) (sym (over (found_low v 39 newer))))
  where
    zero_of : (n : ℕ) → ltb 0 n ≡ false → n ≡ 0
    zero_of n q = let h = ltb-false 0 n q in omega arith

    over : (search v 39 newer ≡ 0) ⊎ ((39 ≤ search v 39 newer) × (search v 39 newer < 39 + length newer)) → pick (ltb (search v 39 newer) 39) (search v 39 newer) 0 ≡ 0
    over (inl e) = rw e
    over (inr (g, h)) = rw (le-ltb _ _ g)

pub row_clipped : (e : Edition) (v : List ℕ) → row_of e v ≡ pick (ltb (row_of Second v) (row_count e)) (row_of Second v) 0
row_clipped First v = first_row v
row_clipped Second v = rw (lt-ltb (row_of Second v) 44 (row_low Second v))

pub kind_low : (n : ℕ) → n < 44 → kind_at n < 12
unfolding upto kind_at row_at rows newer all_rows
kind_low n h = ltb-true _ _ (alike (λ j. ltb (kind_at j) 12) (λ j. true) 44 refl n h)

-- a rule is one of the four
pub rule_low : (n : ℕ) → n < 44 → rule_at n < 4
unfolding upto rule_at takes_value framing kind_at row_at rows newer all_rows
rule_low n h = ltb-true _ _ (alike (λ j. ltb (rule_at j) 4) (λ j. true) 44 refl n h)

-- the flags of a card have room for the rows marked *1
pub once_low : (n : ℕ) → n < 44 → once_at n ≤ 32
unfolding upto once_at single marks row_at rows newer all_rows
once_low n h = leb-true _ _ (alike (λ j. leb (once_at j) 32) (λ j. true) 44 refl n h)

-- what the table has for a row
pub record Listed (t : List ℕ) (n : ℕ) : Type 0 where
  pub spelt : (i : ℕ) → 0 < i → i < length (row_at n).name → get_or t (n * 16 + i) 0 ≡ get_or (row_at n).name i 0
  pub mark : get_or t (n * 16 + 0) 0 ≡ once_at n
  pub sort : get_or t (n * 16 + 13) 0 ≡ kind_at n
  pub link : get_or t (n * 16 + 14) 0 ≡ next_of n
  pub rule : get_or t (n * 16 + 15) 0 ≡ rule_at n

row_length : (n : ℕ) → n < 44 → length (entries n) ≡ 16
unfolding upto entries name_entries row_at rows newer all_rows octets
row_length n h = alike (λ j. length (entries j)) (λ j. 16) 44 refl n h

-- the entries behind the first start with the name behind its first letter
name_front : (n : ℕ) → n < 44 → drop 1 (take (length (row_at n).name) (entries n)) ≡ drop 1 (row_at n).name
unfolding upto entries name_entries row_at rows newer all_rows octets
name_front n h = alike (λ j. drop 1 (take (length (row_at j).name) (entries j))) (λ j. drop 1 (row_at j).name) 44 refl n h

module _ (t : List ℕ) (table : Lists t) (n : ℕ) (h : n < 44) where
  at : (i : ℕ) → i < 16 → get_or t (n * 16 + i) 0 ≡ get_or (entries n) i 0
  at i l = sym (get_or-take 704 t (n * 16 + i) 0 (omega arith)) ∙ entry_at entries 16 44 row_length (take 704 t) table.lines n h i l

  name_at : (i : ℕ) → 0 < i → i < length (row_at n).name → get_or (entries n) i 0 ≡ get_or (row_at n).name i 0
  name_at i p l =
      let back : 1 + (i - 1) ≡ i = omega arith in
      let own = (row_at n).name in
      sym (get_or-take (length own) (entries n) i 0 l)
      ∙ ap (λ (j : ℕ). get_or (take (length own) (entries n)) j 0) (sym back)
      ∙ sym (get_or-drop 1 (take (length own) (entries n)) (i - 1) 0)
      ∙ ap (λ (s : List ℕ). get_or s (i - 1) 0) (name_front n h)
      ∙ get_or-drop 1 own (i - 1) 0
      ∙ ap (λ (j : ℕ). get_or own j 0) back

  pub listed : Listed t n
  unfolding upto entries name_entries row_at choice agrees starts_as initial lower next_of kind_at single marks once_at framing takes_value rule_at rows newer all_rows octets
  listed =
      record {
        spelt = λ i p l. at i (omega (arith, name_short n h)) ∙ name_at i p l;
        mark = at 0 (omega arith) ∙ alike (λ j. get_or (entries j) 0 0) once_at 44 refl n h;
        sort = at 13 (omega arith) ∙ alike (λ j. get_or (entries j) 13 0) kind_at 44 refl n h;
        link = at 14 (omega arith) ∙ alike (λ j. get_or (entries j) 14 0) next_of 44 refl n h;
        rule = at 15 (omega arith) ∙ alike (λ j. get_or (entries j) 15 0) rule_at 44 refl n h;
      }

firsts_at : (c l k i : ℕ) → i < k → get_or (firsts c l k) i 0 ≡ first_of (l + i) c + (l + i)
unfolding firsts
firsts_at c l zero i h = absurd (omega arith)
firsts_at c l (suc k) zero h = ap (λ (n : ℕ). first_of n c + n) (omega arith)
firsts_at c l (suc k) (suc i) h = firsts_at c (suc l) k i (omega arith) ∙ ap (λ (n : ℕ). first_of n c + n) (omega arith)

firsts_length : (c l k : ℕ) → length (firsts c l k) ≡ k
unfolding firsts
firsts_length c l zero = refl
firsts_length c l (suc k) = ap suc (firsts_length c (suc l) k)

index_length : (n : ℕ) → n < 26 → length (index_entries n) ≡ 16
unfolding index_entries
index_length n h = firsts_length (97 + n) 0 16

-- the index's entry for a letter and names of l octets
pub index_at : (t : List ℕ) → Lists t → (n l : ℕ) → n < 26 → l < 16 → get_or t (704 + n * 16 + l) 0 ≡ first_of l (97 + n) + l
unfolding index_entries
index_at t table n l g h =
    let there : 704 + n * 16 + l ≡ 704 + (n * 16 + l) = omega arith in
    let size : 0 + l ≡ l = omega arith in
    ap (λ (j : ℕ). get_or t j 0) there
    ∙ sym (get_or-drop 704 t (n * 16 + l) 0)
    ∙ entry_at index_entries 16 26 index_length (drop 704 t) table.index n g l h
    ∙ firsts_at (97 + n) 0 16 l h
    ∙ ap (λ (j : ℕ). first_of j (97 + n) + j) size

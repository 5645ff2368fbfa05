-- The laws of the words of a line: the first one, those after it, and how many there are; joined by spaces they are the line, none has
-- a space, and words without spaces are those of the line that joins them. Assumes nothing.
use mathlib.Core.Path.{◌≡◌, refl, sym, ap, ◌∙◌}
use mathlib.Core.Bool.{Bool, true, false, not, ◌&&◌, cond}
use mathlib.Core.List.{List, [], ◌∷◌, ◌++◌}
use Prim.Native.Nat.{ℕ, zero, suc, ◌+◌, ◌-◌, ◌≤◌, ◌<◌}
use native.Mathlib.Nat.{not-suc-le-zero}
use native.Mathlib.Omega.{arith}
use lib.Dec.{eqb}
use lib.ListN.{length, get_or, take, drop, length-append, length-drop, drop_of_length-le}
use lib.Seq.{drop-cons, get_or-append_seam, take-append_seam}
use borrow.Author.Tests.{eq-eqb, ne_eqb, eqb-true, ltb-false}
use Rattle.std.specs.Prelude.{Option, Some, None, MatchOption, nat_lt, unwrap_or}
use Rattle.std.specs.List.{slice_get, slice_split, onto_first, count_by, position, position_or_len}
use Rattle.std.specs.Option.{option_map}
use Rattle.std.proofs.lemmas.Option.{unwrap_or-slice_get}
use Rattle.std.specs.Cmp.Lexicographic.{pointwise}
use Rattle.std.proofs.lemmas.Slice.Eq.{strip_suffix_is}
use Rattle.std.proofs.lemmas.Bool.Decides.{Decides-eqb}
use denote.Ref.{Bor}
use Rattle.std.proofs.lemmas.List.Splits.{length-slice_split}
use Rattle.std.proofs.lemmas.List.Recursion.{is_position_or_len}
use Rattle.octets.specs.Classes.{run, more}
use Rattle.octets.proofs.Bools.{and_both}
use Rattle.octets.specs.Counts.{all_in}
use Rattle.console_words.specs.Words.{other, next_of, before, words_of, word_at, joined, without_cr}

-- the first word
head_step : (t : Bool) (x : ℕ) (xs : List ℕ) (ws : List (List ℕ)) (n : ℕ) → get_or ws 0 [] ≡ take n xs
    → get_or (before t x ws) 0 [] ≡ take (more (not t) n) (x ∷ xs)
head_step true x xs ws n e = refl
head_step false x xs [] n e = ap (λ (l : List ℕ). x ∷ l) e
head_step false x xs (w ∷ ws) n e = ap (λ (l : List ℕ). x ∷ l) e

pub first_word : (l : List ℕ) → word_at l 0 ≡ take (run (other 32) l) l
unfolding word_at words_of run
first_word [] = refl
first_word (x ∷ xs) = head_step (eqb x 32) x xs (words_of xs) (run (other 32) xs) (first_word xs)

-- the words after the first
tail_step : (t : Bool) (x : ℕ) (xs : List ℕ) (ws : List (List ℕ)) (n k : ℕ) → ws ≡ words_of xs
    → get_or ws (suc k) [] ≡ get_or (words_of (drop (suc n) xs)) k []
    → get_or (before t x ws) (suc k) [] ≡ get_or (words_of (drop (suc (more (not t) n)) (x ∷ xs))) k []
tail_step true x xs ws n k e h = ap (λ (v : List (List ℕ)). get_or v k []) e
tail_step false x xs [] n k e h = h
tail_step false x xs (w ∷ ws) n k e h = h

later_words : (l : List ℕ) (k : ℕ) → word_at l (suc k) ≡ word_at (drop (suc (run (other 32) l)) l) k
unfolding word_at words_of run
later_words [] zero = refl
later_words [] (suc k) = refl
later_words (x ∷ xs) k = tail_step (eqb x 32) x xs (words_of xs) (run (other 32) xs) k refl (later_words xs k)

run_le : (p : ℕ → Bool) (l : List ℕ) → run p l ≤ length l
unfolding run
run_le p [] = omega arith
run_le p (x ∷ xs) = step (p x) (run p xs) (length xs) (run_le p xs)
  where
    step : (t : Bool) (m n : ℕ) → m ≤ n → more t m ≤ suc n
    step true m n h = omega arith
    step false m n h = omega arith

pub next_inside : (b : ℕ) (s : List ℕ) (i : ℕ) → i ≤ length s → next_of b s i ≤ length s
unfolding next_of
next_inside b s i h = omega (arith, run_le (other b) (drop i s), length-drop i s)

-- what the library says of a split at spaces, and of the first place of an octet
words_split : (l : List ℕ) → words_of l ≡ slice_split (λ x. eqb x 32) l
unfolding words_of
words_split [] = refl
words_split (x ∷ xs) = rw (words_split xs) (step (eqb x 32) (slice_split (λ y. eqb y 32) xs))
  where
    step : (t : Bool) (ws : List (List ℕ)) → before t x ws ≡ cond t ([] ∷ ws) (onto_first x ws)
    step true ws = refl
    step false [] = refl
    step false (w ∷ ws) = refl

pub words_counted : (l : List ℕ) → length (words_of l) ≡ count_by (λ x. eqb x 32) l + 1
words_counted l = ap length (words_split l) ∙ length-slice_split (λ x. eqb x 32) l

word_split : (l : List ℕ) (k : ℕ) → word_at l k ≡ get_or (slice_split (λ x. eqb x 32) l) k []
unfolding word_at
word_split l k = ap (λ (ws : List (List ℕ)). get_or ws k []) (words_split l)

pub word_told : (l : List ℕ) (k : ℕ) (r : Option (Bor (List ℕ))) (none v : Bor (List ℕ))
    → option_map (λ x. x.now) r ≡ slice_get (slice_split (λ x. eqb x 32) l) k → none.now ≡ [] → v ≡ unwrap_or r none → v.now ≡ word_at l k
word_told l k r none v e n f =
    ap (λ (x : Bor (List ℕ)). x.now) f
    ∙ by r
    ∙ ap (λ (o : Option (List ℕ)). unwrap_or o []) e
    ∙ unwrap_or-slice_get (slice_split (λ x. eqb x 32) l) k []
    ∙ sym (word_split l k)
  where
    by : (o : Option (Bor (List ℕ))) → (unwrap_or o none).now ≡ unwrap_or (option_map (λ x. x.now) o) []
    by None = n
    by (Some x) = refl

run_placed : (b : ℕ) (l : List ℕ) → run (other b) l ≡ position_or_len (λ x. eqb x b) l
unfolding run
run_placed b l = is_position_or_len (run (other b)) (λ x. eqb x b) refl (λ x xs. step (eqb x b) (run (other b) xs)) l
  where
    step : (t : Bool) (n : ℕ) → more (not t) n ≡ cond t 0 (1 + n)
    step true n = refl
    step false n = omega arith

pub next_placed : (b : ℕ) (s : List ℕ) (i : ℕ) (r : Option ℕ) (n : ℕ) → r ≡ position (λ x. eqb x b) (drop i s) → n ≡ unwrap_or r (length (drop i s)) → i + n ≡ next_of b s i
unfolding next_of
next_placed b s i r n e f =
    let p : ℕ → Bool = λ x. eqb x b in
    let m = position_or_len p (drop i s) in
    let short : m ≤ length (drop i s) = omega (arith, run_placed b (drop i s), run_le (other b) (drop i s)) in
    ap (λ (k : ℕ). i + k) (f ∙ ap (λ (o : Option ℕ). unwrap_or o (length (drop i s))) e ∙ by (nat_lt m (length (drop i s))) m (length (drop i s)) short refl ∙ sym (run_placed b (drop i s)))
  where
    by : (t : Bool) (m l : ℕ) → m ≤ l → nat_lt m l ≡ t → unwrap_or (cond t (Some m) None) l ≡ m
    by true m l h q = refl
    by false m l h q = omega (arith, ltb-false m l q)

-- there is at least one word
some_before : (t : Bool) (x : ℕ) (ws : List (List ℕ)) → 1 ≤ length (before t x ws)
some_before true x ws = omega arith
some_before false x [] = omega arith
some_before false x (w ∷ ws) = omega arith

pub some_word : (l : List ℕ) → 1 ≤ length (words_of l)
unfolding words_of
some_word [] = omega arith
some_word (x ∷ xs) = some_before (eqb x 32) x (words_of xs)

-- the words joined by spaces are the line
join_step : (t : Bool) (x : ℕ) (ws : List (List ℕ)) (xs : List ℕ) → 1 ≤ length ws → (t ≡ true → x ≡ 32) → joined ws ≡ xs
    → joined (before t x ws) ≡ x ∷ xs
unfolding joined
join_step t x [] xs h e q = absurd (not-suc-le-zero h)
join_step true x (w ∷ []) xs h e q = rw (e refl, q)
join_step true x (w ∷ v ∷ ws) xs h e q = rw (e refl, q)
join_step false x (w ∷ []) xs h e q = rw q
join_step false x (w ∷ v ∷ ws) xs h e q = rw q

pub words_joined : (l : List ℕ) → joined (words_of l) ≡ l
unfolding words_of joined
words_joined [] = refl
words_joined (x ∷ xs) = join_step (eqb x 32) x (words_of xs) xs (some_word xs) (eqb-true x 32) (words_joined xs)

-- no word has a space
taken_clean : (p : ℕ → Bool) (l : List ℕ) → all_in p (take (run p l) l) ≡ true
unfolding all_in run
taken_clean p [] = refl
taken_clean p (x ∷ xs) = step (p x) refl (taken_clean p xs)
  where
    step : (t : Bool) → p x ≡ t → all_in p (take (run p xs) xs) ≡ true → all_in p (take (more t (run p xs)) (x ∷ xs)) ≡ true
    step true e h = rw e h
    step false e h = refl

pub words_clean : (k : ℕ) (l : List ℕ) → all_in (other 32) (word_at l k) ≡ true
words_clean zero l = rw (first_word l) (taken_clean (other 32) l)
words_clean (suc k) l = rw (later_words l k) (words_clean k (drop (suc (run (other 32) l)) l))

-- words without spaces, joined by spaces, are the words of that line
unfoldable pub clean : List (List ℕ) → Bool
clean [] = true
clean (w ∷ ws) = all_in (other 32) w && clean ws

word_on : (t : Bool) (x : ℕ) (w : List ℕ) (ws : List (List ℕ)) → not t ≡ true → before t x (w ∷ ws) ≡ (x ∷ w) ∷ ws
word_on true x w ws e = let z : ◌≡◌ {A = ℕ} 0 1 = cc in absurd (omega arith)
word_on false x w ws e = refl

one_word : (w : List ℕ) → all_in (other 32) w ≡ true → words_of w ≡ w ∷ []
unfolding words_of all_in
one_word [] h = refl
one_word (x ∷ xs) h =
    rw (one_word xs (and_both (other 32 x) (all_in (other 32) xs) h).1) (word_on (eqb x 32) x xs [] (and_both (other 32 x) (all_in (other 32) xs) h).0)

more_words : (w l : List ℕ) → all_in (other 32) w ≡ true → words_of (w ++ 32 ∷ l) ≡ w ∷ words_of l
unfolding words_of all_in
more_words [] l h = refl
more_words (x ∷ xs) l h =
    rw (more_words xs l (and_both (other 32 x) (all_in (other 32) xs) h).1) (word_on (eqb x 32) x xs (words_of l) (and_both (other 32 x) (all_in (other 32) xs) h).0)

pub words_back : (w : List ℕ) (ws : List (List ℕ)) → clean (w ∷ ws) ≡ true → words_of (joined (w ∷ ws)) ≡ w ∷ ws
unfolding joined clean
words_back w [] h = one_word w (and_both (all_in (other 32) w) true h).0
words_back w (v ∷ ws) h =
    more_words w (joined (v ∷ ws)) (and_both (all_in (other 32) w) (clean (v ∷ ws)) h).0
    ∙ ap (λ (vs : List (List ℕ)). w ∷ vs) (words_back v ws (and_both (all_in (other 32) w) (clean (v ∷ ws)) h).1)

-- a CR at the end is taken off, and any other line stays as it is
pub cr_off : (l : List ℕ) → without_cr (l ++ 13 ∷ []) ≡ l
unfolding without_cr
cr_off l =
    let n : length (l ++ 13 ∷ []) - 1 ≡ length l = omega (arith, length-append l (13 ∷ [])) in
    rw (n, get_or-append_seam l 13 [] 0, take-append_seam l (13 ∷ []))

pub no_cr : (l : List ℕ) → (get_or l (length l - 1) 0 ≡ 13 → ⊥) → without_cr l ≡ l
unfolding without_cr
no_cr l h = rw (ne_eqb (get_or l (length l - 1) 0) 13 h)

-- what the library says of a line whose CR is taken off
ends : (s : List ℕ) → get_or s (length s - 1) 0 ≡ 13 → pointwise eqb (drop (length s - 1) s) (13 ∷ []) ≡ true
ends [] e = absurd (omega arith)
ends (x ∷ xs) e =
    let h : length (x ∷ xs) - 1 < length (x ∷ xs) = omega arith in
    let g : length (x ∷ xs) ≤ suc (length (x ∷ xs) - 1) = omega arith in
    rw (drop-cons (x ∷ xs) (length (x ∷ xs) - 1) 0 h, drop_of_length-le (x ∷ xs) {i = suc (length (x ∷ xs) - 1)} g, eq-eqb _ 13 e)

pub cr_told : (line : Bor (List ℕ)) (r : Option (Bor (List ℕ)))
    → MatchOption r (pointwise eqb (drop (length line.now - 1) line.now) (13 ∷ []) ≡ false) (λ x. (pointwise eqb (drop (length line.now - 1) line.now) (13 ∷ []) ≡ true) × (x.now ≡ take (length line.now - 1) line.now) × (length x.now + 1 ≡ length line.now))
    → (unwrap_or r line).now ≡ without_cr line.now
cr_told line None h = sym (no_cr line.now (λ e. let z : true ≡ false = sym (ends line.now e) ∙ h in cc))
cr_told line (Some x) h = sym (ap without_cr (strip_suffix_is Decides-eqb line.now (13 ∷ []) (Some x) h) ∙ cr_off x.now)

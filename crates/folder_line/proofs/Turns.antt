-- What one turn of a folding loop does: a line that fits is not cut, one that does not is cut behind its first piece, at the last start
-- of a character in reach. Assumes nothing.
use mathlib.Core.Path.{◌≡◌, refl, sym, ap, ◌∙◌}
use mathlib.Core.Bool.{Bool, true, false}
use mathlib.Core.List.{List, [], ◌∷◌, ◌++◌, append_assoc, flatten}
use Prim.Native.Nat.{ℕ, zero, suc, pred, ◌+◌, ◌-◌, ◌<◌, ◌≤◌}
use native.Mathlib.Omega.{arith}
use lib.ListN.{length, get_or, take, drop, length-append, length-drop}
use lib.Seq.{take-append_seam, drop-drop, get_or-drop, length-take-le}
use Rattle.utf8.specs.Characters.{tail, allowed}
use Rattle.utf8.proofs.Chains.{Chars, end, start, inner, char_four, char_inside, good_chars, chars_good, chars_tail, chars_next, nope}
use Rattle.folder_line.specs.Pieces.{first, later, cut_from, joined, Clean}
use Rattle.folder_line.proofs.PieceLaws.{Room, short, roomy, room, first_over, first_goes, later_over, later_goes, over_yes, over_no, over_tail, rejoin, first_fits}

-- a clean line is whole characters, and the other way round
pub clean_chars : (l : List ℕ) → Clean l → Chars (allowed false) 0 l
unfolding Clean
clean_chars l c = good_chars (allowed false) l c

pub chars_clean : (l : List ℕ) → Chars (allowed false) 0 l → Clean l
unfolding Clean
chars_clean l c = chars_good (allowed false) l c

-- the rest of a line folded, from a place where r octets are left in the physical line
abbrev pub folded_from : List ℕ → ℕ → List ℕ
folded_from l r = joined (cut_from l r) ++ (13 ∷ 10 ∷ [])

-- a line that fits is not cut
last_first : {p : ℕ → Bool} {k : ℕ} {l : List ℕ} → Chars p k l → (r : ℕ) → length l ≤ r → first l r ≡ l
unfolding first
last_first end r h = refl
last_first (start {x} {m} {xs} a e c) r h =
    first_goes x xs r (over_no x xs r m e (omega (arith, char_inside (x ∷ xs) m e)))
    ∙ ap (λ (q : List ℕ). x ∷ q) (last_first c (pred r) (omega arith))
last_first (inner {x} {k} {xs} e c) r h =
    first_goes x xs r (over_tail x xs r e) ∙ ap (λ (q : List ℕ). x ∷ q) (last_first c (pred r) (omega arith))

last_later : {p : ℕ → Bool} {k : ℕ} {l : List ℕ} → Chars p k l → (r : ℕ) → length l ≤ r → later l r ≡ []
unfolding later
last_later end r h = refl
last_later (start {x} {m} {xs} a e c) r h =
    later_goes x xs r (over_no x xs r m e (omega (arith, char_inside (x ∷ xs) m e))) ∙ last_later c (pred r) (omega arith)
last_later (inner {x} {k} {xs} e c) r h = later_goes x xs r (over_tail x xs r e) ∙ last_later c (pred r) (omega arith)

pub last_piece : (l : List ℕ) (r : ℕ) → Clean l → length l ≤ r → folded_from l r ≡ l ++ (13 ∷ 10 ∷ [])
unfolding joined
last_piece l r c h = rw (last_first (clean_chars l c) r h, last_later (clean_chars l c) r h)

-- how much of l the first piece takes
abbrev size : List ℕ → ℕ → ℕ
size l r = length (first l r)

-- behind the first piece whole characters follow
left_whole : {p : ℕ → Bool} {k : ℕ} {l : List ℕ} → Chars p k l → (r : ℕ) → k ≤ r → Chars p 0 (drop (size l r) l)
unfolding first
left_whole end r h = end
left_whole {p} (start {x} {m} {xs} a e c) r h = go (room m r) (λ f. left_whole c (pred r) f)
  where
    go : Room m r → (m ≤ pred r → Chars p 0 (drop (size xs (pred r)) xs)) → Chars p 0 (drop (size (x ∷ xs) r) (x ∷ xs))
    go (short q) f = rw (first_over x xs r (over_yes x xs r m e q)) (start a e c)
    go (roomy q) f = rw (first_goes x xs r (over_no x xs r m e q)) (f (omega arith))
left_whole (inner {x} {k} {xs} e c) r h = rw (first_goes x xs r (over_tail x xs r e)) (left_whole c (pred r) (omega arith))

-- and are cut anew
left_later : {p : ℕ → Bool} {k : ℕ} {l : List ℕ} → Chars p k l → (r : ℕ) → k ≤ r → size l r < length l
    → later l r ≡ cut_from (drop (size l r) l) 74
unfolding first
left_later end r h = λ lt. absurd (omega arith)
left_later (start {x} {m} {xs} a e c) r h = go (room m r) (λ f. left_later c (pred r) f)
  where
    go : Room m r → (m ≤ pred r → size xs (pred r) < length xs → later xs (pred r) ≡ cut_from (drop (size xs (pred r)) xs) 74)
        → size (x ∷ xs) r < length (x ∷ xs) → later (x ∷ xs) r ≡ cut_from (drop (size (x ∷ xs) r) (x ∷ xs)) 74
    go (short q) f =
        let fresh = over_no x xs 74 m e (omega (arith, char_four (x ∷ xs) m e)) in
        rw (first_over x xs r (over_yes x xs r m e q)) (λ lt. later_over x xs r (over_yes x xs r m e q) ∙ rw (first_goes x xs 74 fresh, later_goes x xs 74 fresh))
    go (roomy q) f =
        rw (first_goes x xs r (over_no x xs r m e q)) (λ lt. later_goes x xs r (over_no x xs r m e q) ∙ f (omega arith) (omega arith))
left_later (inner {x} {k} {xs} e c) r h =
    rw (first_goes x xs r (over_tail x xs r e)) (λ lt. later_goes x xs r (over_tail x xs r e) ∙ left_later c (pred r) (omega arith) (omega arith))

first_take : (l : List ℕ) (r : ℕ) → first l r ≡ take (size l r) l
first_take l r = sym (take-append_seam (first l r) (flatten (later l r))) ∙ ap (take (size l r)) (rejoin l r)

some : {p : ℕ → Bool} {l : List ℕ} → Chars p 0 l → (r : ℕ) → 4 ≤ r → 1 ≤ length l → 1 ≤ size l r
unfolding first
some end r h g = g
some (start {x} {m} {xs} a e c) r h g =
    rw (first_goes x xs r (over_no x xs r m e (omega (arith, char_four (x ∷ xs) m e)))) (omega arith)

-- one turn at a place of a line that does not fit
module _ (s : List ℕ) (a r e : ℕ) (clean : Clean (drop a s)) (h : 4 ≤ r) (g : r < length s - a) (q : e ≡ a + size (drop a s) r) where
  longer : r < length (drop a s)
  longer = rw (length-drop a s) g

  pub turn_fits : (a < e) × (e ≤ a + r) × (e < length s)
  turn_fits =
      let lt = longer in
      let c = clean_chars (drop a s) clean in
      let f = first_fits c r (omega arith) in
      let p = some c r h (omega arith) in
      (omega arith, omega arith, omega arith)

  pub turn_clean : Clean (drop e s)
  turn_clean =
      rw (q, sym (drop-drop (size (drop a s) r) a s))
      (chars_clean (drop (size (drop a s) r) (drop a s)) (left_whole (clean_chars (drop a s) clean) r (omega arith)))

  pub turn : folded_from (drop a s) r ≡ (take (e - a) (drop a s) ++ (13 ∷ 10 ∷ 32 ∷ [])) ++ folded_from (drop e s) 74
  unfolding joined
  turn =
      let lt = longer in
      let f = first_fits (clean_chars (drop a s) clean) r (omega arith) in
      let k = left_later (clean_chars (drop a s) clean) r (omega arith) (omega arith) in
      let d : drop (size (drop a s) r) (drop a s) ≡ drop e s = drop-drop (size (drop a s) r) a s ∙ ap (λ (i : ℕ). drop i s) (sym q) in
      let n : e - a ≡ size (drop a s) r = omega arith in
      let t : first (drop a s) r ≡ take (e - a) (drop a s) = first_take (drop a s) r ∙ ap (λ (i : ℕ). take i (drop a s)) (sym n) in
      ap (λ (ps : List (List ℕ)). joined (first (drop a s) r ∷ ps) ++ (13 ∷ 10 ∷ [])) (k ∙ ap (λ (l : List ℕ). cut_from l 74) d)
      ∙ ap (λ (p : List ℕ). (p ++ (13 ∷ 10 ∷ 32 ∷ joined (cut_from (drop e s) 74))) ++ (13 ∷ 10 ∷ [])) t
      ∙ simp append_assoc

  piece_length : length (take (e - a) (drop a s)) ≡ e - a
  piece_length = let f = turn_fits in length-take-le (e - a) (drop a s) (rw (length-drop a s) (omega arith))

  pub turn_length : length (folded_from (drop a s) r) ≡ (e - a) + 3 + length (folded_from (drop e s) 74)
  turn_length =
      ap length turn
      ∙ length-append (take (e - a) (drop a s) ++ (13 ∷ 10 ∷ 32 ∷ [])) (folded_from (drop e s) 74)
      ∙ ap (λ (k : ℕ). k + length (folded_from (drop e s) 74)) (length-append (take (e - a) (drop a s)) (13 ∷ 10 ∷ 32 ∷ []) ∙ ap (λ (k : ℕ). k + 3) piece_length)

pub last_length : (s : List ℕ) (a r : ℕ) → Clean (drop a s) → length s - a ≤ r → length (folded_from (drop a s) r) ≡ length s - a + 2
last_length s a r c h =
    let d : length (drop a s) ≤ r = rw (length-drop a s) h in
    ap length (last_piece (drop a s) r c d) ∙ length-append (drop a s) (13 ∷ 10 ∷ []) ∙ ap (λ (k : ℕ). k + 2) (length-drop a s)

-- the last start of a character that is in reach is the size of the first piece
cut_at : {p : ℕ → Bool} {k : ℕ} {l : List ℕ} → Chars p k l → (r j : ℕ) → k ≤ r → j ≤ r → r < length l → tail (get_or l j 0) ≡ false
    → ((i : ℕ) → j < i → i ≤ r → tail (get_or l i 0) ≡ true) → size l r ≡ j
unfolding first
cut_at end r j h g lt t f = absurd (omega arith)
cut_at (start {x} {m} {xs} a e c) r j h g lt t f = go (room m r) j g t f (λ i p q w u v. cut_at c (pred r) i p q w u v)
  where
    go : Room m r → (j : ℕ) → j ≤ r → tail (get_or (x ∷ xs) j 0) ≡ false → ((i : ℕ) → j < i → i ≤ r → tail (get_or (x ∷ xs) i 0) ≡ true)
        → ((i : ℕ) → m ≤ pred r → i ≤ pred r → pred r < length xs → tail (get_or xs i 0) ≡ false → ((n : ℕ) → i < n → n ≤ pred r → tail (get_or xs n 0) ≡ true) → size xs (pred r) ≡ i)
        → size (x ∷ xs) r ≡ j
    go (short q) zero g t f k = rw (first_over x xs r (over_yes x xs r m e q)) refl
    go (short q) (suc j) g t f k = absurd (nope (sym (chars_tail c j (omega arith)) ∙ t))
    go (roomy q) zero g t f k = absurd (nope (sym (f (suc m) (omega arith) q) ∙ chars_next c (omega arith)))
    go (roomy q) (suc j) g t f k =
        rw (first_goes x xs r (over_no x xs r m e q)) (ap suc (k j (omega arith) (omega arith) (omega arith) t (λ i a b. f (suc i) (omega arith) (omega arith))))
cut_at (inner {x} {k} {xs} e c) r zero h g lt t f = absurd (nope (sym e ∙ t))
cut_at (inner {x} {k} {xs} e c) r (suc j) h g lt t f =
    rw (first_goes x xs r (over_tail x xs r e)) (ap suc (cut_at c (pred r) j (omega arith) (omega arith) (omega arith) t (λ i a b. f (suc i) (omega arith) (omega arith))))

-- the same at a place of a line
module _ (s : List ℕ) (a : ℕ) (clean : Clean (drop a s)) where
  pub inside : (e : ℕ) → a < length s → a ≤ e → tail (get_or s e 0) ≡ true → a < e
  inside e lt h t = go (room a e)
    where
      go : Room a e → a < e
      go (roomy p) = p
      go (short p) =
          let q : a + 0 ≡ e = omega arith in
          let d : 0 < length (drop a s) = rw (length-drop a s) (omega arith) in
          let n : tail (get_or s e 0) ≡ false = rw (sym q, sym (get_or-drop a s 0 0)) (chars_next (clean_chars (drop a s) clean) d) in
          absurd (nope (sym t ∙ n))

  pub cut_place : (r e : ℕ) → a + r < length s → a ≤ e → e ≤ a + r → tail (get_or s e 0) ≡ false
      → ((i : ℕ) → e < i → i ≤ a + r → tail (get_or s i 0) ≡ true) → e ≡ a + size (drop a s) r
  cut_place r e lt lo hi t f =
      let j : a + (e - a) ≡ e = omega arith in
      let z = cut_at (clean_chars (drop a s) clean) r (e - a) (omega arith) (omega arith) (rw (length-drop a s) (omega arith))
      (dropped (e - a) false (rw j t)) (λ i p q. dropped i true (f (a + i) (omega arith) (omega arith))) in
      omega arith
    where
      dropped : (i : ℕ) (b : Bool) → tail (get_or s (a + i) 0) ≡ b → tail (get_or (drop a s) i 0) ≡ b
      dropped i b e = ap tail (get_or-drop a s i 0) ∙ e

-- what holds at e and behind it
pub one_more : (P : ℕ → Type 0) (e i : ℕ) → e ≤ i → P e → (e < i → P i) → P i
one_more P e i h p f = go (room e i)
  where
    go : Room e i → P i
    go (roomy q) = f q
    go (short q) = let z : e ≡ i = omega arith in rw (sym z) p

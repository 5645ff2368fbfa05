-- The pieces of a clean line are a greedy cutting of it. Assumes nothing.
use mathlib.Core.Path.{◌≡◌}
use mathlib.Core.Bool.{Bool, false}
use mathlib.Core.List.{List, [], ◌∷◌, flatten}
use Prim.Native.Nat.{ℕ, suc, pred, ◌≤◌}
use native.Mathlib.Omega.{arith}
use lib.ListN.{length}
use Rattle.utf8.specs.Characters.{char_length, allowed}
use Rattle.utf8.proofs.Chains.{Chars, end, start, inner, char_four, char_less, chars_fit}
use Rattle.folder_line.specs.Pieces.{first, later, Clean, All}
use Rattle.folder_line.proofs.PieceLaws.{Room, short, roomy, room, first_over, first_goes, later_over, later_goes, over_yes, over_no, over_tail, rejoin, first_fits}
use Rattle.folder_line.proofs.Turns.{clean_chars, chars_clean}
use Rattle.folder_laws.specs.Cuttings.{UpTo}
use Rattle.folder_laws.proofs.Cut.{Tight, AllTight, Cut}

-- a character stays whole in its piece
stays : (x m r : ℕ) (xs : List ℕ) → char_length (x ∷ xs) ≡ suc m → m ≤ length (first xs r) → char_length (x ∷ first xs r) ≡ suc m
stays x m r xs e h = char_less (x ∷ first xs r) (flatten (later xs r)) m (omega arith) (rw (rejoin xs r) e)

-- the first piece is whole characters
pub first_whole : {p : ℕ → Bool} {k : ℕ} {l : List ℕ} → Chars p k l → (r : ℕ) → k ≤ r → Chars p k (first l r)
unfolding first
first_whole end r h = end
first_whole {p} (start {x} {m} {xs} a e c) r h = go (room m r) (λ f. first_whole c (pred r) f)
  where
    go : Room m r → (m ≤ pred r → Chars p m (first xs (pred r))) → Chars p 0 (first (x ∷ xs) r)
    go (short q) f = rw (first_over x xs r (over_yes x xs r m e q)) end
    go (roomy q) f =
        let w = f (omega arith) in
        rw (first_goes x xs r (over_no x xs r m e q)) (start a (stays x m (pred r) xs e (chars_fit w)) w)
first_whole (inner {x} {k} {xs} e c) r h =
    rw (first_goes x xs r (over_tail x xs r e)) (inner e (first_whole c (pred r) (omega arith)))

-- pieces of whole characters that fit n octets each
pub data Pieces (n : ℕ) : List (List ℕ) → Type 0 where
  nil : Pieces n []
  one : {p : List ℕ} {ps : List (List ℕ)} → Chars (allowed false) 0 p → length p ≤ n → Pieces n ps → Pieces n (p ∷ ps)

pub later_good : {k : ℕ} {l : List ℕ} → Chars (allowed false) k l → (r : ℕ) → k ≤ r → Pieces 74 (later l r)
unfolding later
later_good end r h = nil
later_good (start {x} {m} {xs} a e c) r h = go (room m r) (λ q f. later_good c q f)
  where
    go : Room m r → ((q : ℕ) → m ≤ q → Pieces 74 (later xs q)) → Pieces 74 (later (x ∷ xs) r)
    go (short p) f =
        let w = first_whole (start a e c) 74 (omega arith) in
        let same = first_goes x xs 74 (over_no x xs 74 m e (omega (arith, char_four (x ∷ xs) m e))) in
        rw (later_over x xs r (over_yes x xs r m e p))
        (one (rw same at w) (rw same at (first_fits (start a e c) 74 (omega arith))) (f 73 (omega (arith, char_four (x ∷ xs) m e))))
    go (roomy p) f = rw (later_goes x xs r (over_no x xs r m e p)) (f (pred r) (omega arith))
later_good (inner {x} {k} {xs} e c) r h =
    rw (later_goes x xs r (over_tail x xs r e)) (later_good c (pred r) (omega arith))

pub pieces_clean : {n : ℕ} {ps : List (List ℕ)} → Pieces n ps → All Clean ps
unfolding All
pieces_clean nil = tt
pieces_clean (one {p = p} w b g) = (chars_clean p w, pieces_clean g)

pub pieces_fit : {n : ℕ} {ps : List (List ℕ)} → Pieces n ps → All (UpTo n) ps
unfolding All
pieces_fit nil = tt
pieces_fit (one w b g) = (b, pieces_fit g)

pub to_pieces : (n : ℕ) (qs : List (List ℕ)) → All Clean qs → All (UpTo n) qs → Pieces n qs
unfolding All
to_pieces n [] c f = nil
to_pieces n (q ∷ qs) c f = one (clean_chars q c.0) f.0 (to_pieces n qs c.1 f.1)

-- each cut is the last that fits
full_more : (x r : ℕ) (p : List ℕ) (ps : List (List ℕ)) → Tight (pred r) p ps → 1 ≤ r → Tight r (x ∷ p) ps
full_more x r p [] f h = tt
full_more x r p (q ∷ qs) f h = omega arith

full_first : {p : ℕ → Bool} {k : ℕ} {l : List ℕ} → Chars p k l → (r : ℕ) → k ≤ r → Tight r (first l r) (later l r)
unfolding first later
full_first end r h = tt
full_first (start {x} {m} {xs} a e c) r h = go (room m r) (λ f. full_first c (pred r) f)
  where
    go : Room m r → (m ≤ pred r → Tight (pred r) (first xs (pred r)) (later xs (pred r))) → Tight r (first (x ∷ xs) r) (later (x ∷ xs) r)
    go (short p) f =
        let o = over_yes x xs r m e p in
        let w = chars_fit (first_whole c 73 (omega (arith, char_four (x ∷ xs) m e))) in
        rw (first_over x xs r o, later_over x xs r o) (omega (arith, stays x m 73 xs e w))
    go (roomy p) f =
        let o = over_no x xs r m e p in
        rw (first_goes x xs r o, later_goes x xs r o) (full_more x r (first xs (pred r)) (later xs (pred r)) (f (omega arith)) (omega arith))
full_first (inner {x} {k} {xs} e c) r h =
    let o = over_tail x xs r e in
    rw (first_goes x xs r o, later_goes x xs r o) (full_more x r (first xs (pred r)) (later xs (pred r)) (full_first c (pred r) (omega arith)) (omega arith))

full_later : {p : ℕ → Bool} {k : ℕ} {l : List ℕ} → Chars p k l → (r : ℕ) → k ≤ r → AllTight (later l r)
unfolding later AllTight
full_later end r h = tt
full_later (start {x} {m} {xs} a e c) r h = go (room m r) (λ q f. full_later c q f)
  where
    go : Room m r → ((q : ℕ) → m ≤ q → AllTight (later xs q)) → AllTight (later (x ∷ xs) r)
    go (short p) f =
        let b : m ≤ 73 = omega (arith, char_four (x ∷ xs) m e) in
        rw (later_over x xs r (over_yes x xs r m e p)) (full_more x 74 (first xs 73) (later xs 73) (full_first c 73 b) (omega arith), f 73 b)
    go (roomy p) f = rw (later_goes x xs r (over_no x xs r m e p)) (f (pred r) (omega arith))
full_later (inner {x} {k} {xs} e c) r h = rw (later_goes x xs r (over_tail x xs r e)) (full_later c (pred r) (omega arith))

-- The pieces are a greedy cutting.
pub cutting : (l : List ℕ) → Clean l → Cut l (first l 75) (later l 75)
unfolding All flatten
cutting l clean =
    let c = clean_chars l clean in
    let g = later_good c 75 (omega arith) in
    record {
      whole = rejoin l 75;
      clean = (chars_clean (first l 75) (first_whole c 75 (omega arith)), pieces_clean g);
      start = first_fits c 75 (omega arith);
      others = pieces_fit g;
      full = full_first c 75 (omega arith);
      fulls = full_later c 75 (omega arith);
    }

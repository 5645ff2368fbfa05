-- A line that stands folded: up to its first CR it is a full physical line, and behind the fold it stands folded again. Assumes nothing.
use mathlib.Core.Path.{◌≡◌, refl, sym, ap, ◌∙◌}
use mathlib.Core.Bool.{Bool, true, false, not}
use mathlib.Core.List.{List, [], ◌∷◌, ◌++◌, append_assoc}
use Prim.Native.Nat.{ℕ, ◌+◌, ◌-◌, ◌<◌, ◌≤◌}
use native.Mathlib.Omega.{arith}
use lib.Dec.{eqb}
use lib.ListN.{length, get_or, take, drop, length-append, length-drop, take-append-drop}
use lib.Seq.{take_all, take-append_seam, drop-append_seam, get_or-append-add, drop-drop, length-take-le}
use borrow.Author.Tests.{eqb-false}
use Rattle.std.specs.List.{starts_with}
use Rattle.std.proofs.lemmas.Slice.Eq.{starts_is}
use Rattle.std.proofs.lemmas.Bool.Decides.{Decides-eqb}
use Rattle.octets.specs.Classes.{run, more}
use Rattle.utf8.specs.Characters.{tail}
use Rattle.line_folds.specs.Folds.{fold_at, unfolded, not_cr}
use Rattle.line_folds.proofs.FoldLaws.{not_cr_lem, fold_next, octet_next}
use Rattle.line_folds.proofs.QuickLaws.{no_fold}
use Rattle.folder_line.specs.Pieces.{first, Clean}
use Rattle.folder_line.proofs.Turns.{folded_from, last_piece, turn, turn_clean, cut_place}

-- p stands at i where what is left there starts with it
pub starts_at : (p s : List ℕ) (i : ℕ) (r : Bool) → r ≡ starts_with eqb (take (length s - i) (drop i s)) p → r ≡ true → drop i s ≡ p ++ drop (i + length p) s
starts_at p s i r h e =
    let all : take (length s - i) (drop i s) ≡ drop i s = take_all (length s - i) (drop i s) (rw length-drop (omega arith)) in
    (starts_is Decides-eqb (drop i s) p r (rw all at h)).0 e ∙ ap (λ (t : List ℕ). p ++ t) (drop-drop (length p) i s)

-- up to the first CR nothing is unfolded, and then the rest is
unfold_run : (l : List ℕ) → unfolded l ≡ take (run not_cr l) l ++ unfolded (drop (run not_cr l) l)
unfolding unfolded run not_cr
unfold_run [] = refl
unfold_run (x ∷ xs) = by (eqb x 13) refl (unfold_run xs)
  where
    by : (t : Bool) → eqb x 13 ≡ t → unfolded xs ≡ take (run not_cr xs) xs ++ unfolded (drop (run not_cr xs) xs)
        → unfolded (x ∷ xs) ≡ take (more (not t) (run not_cr xs)) (x ∷ xs) ++ unfolded (drop (more (not t) (run not_cr xs)) (x ∷ xs))
    by true e f = refl
    by false e f = octet_next (x ∷ xs) 0 (omega arith) (not_cr_lem (x ∷ xs) 0 (eqb-false x 13 e)) ∙ ap (λ (r : List ℕ). x ∷ r) f

-- a full physical line with more behind it is cut there
module _ (x v : List ℕ) (r : ℕ) (n : length x ≡ r) (h : 4 ≤ r) (some : 1 ≤ length v) (t : tail (get_or v 0 0) ≡ false) (c : Clean (x ++ v)) where
  longer : r < length (x ++ v)
  longer = rw (length-append x v) (omega arith)

  start_at : get_or (x ++ v) r 0 ≡ get_or v 0 0
  start_at = let z : r ≡ length x + 0 = omega arith in ap (λ (k : ℕ). get_or (x ++ v) k 0) z ∙ get_or-append-add x v 0 0

  at_room : r ≡ 0 + length (first (drop 0 (x ++ v)) r)
  at_room = let l = longer in cut_place (x ++ v) 0 c r r (omega arith) (omega arith) (omega arith) (ap tail start_at ∙ t) (λ i p q. absurd (omega arith))

  pub cut_full : folded_from (x ++ v) r ≡ x ++ (13 ∷ 10 ∷ 32 ∷ folded_from v 74)
  cut_full =
      let l = longer in
      let z : r - 0 ≡ length x = omega arith in
      turn (x ++ v) 0 r r c h (omega arith) at_room
      ∙ ap (λ (k : ℕ). (take k (x ++ v) ++ (13 ∷ 10 ∷ 32 ∷ [])) ++ folded_from (drop r (x ++ v)) 74) z
      ∙ ap (λ (y : List ℕ). (y ++ (13 ∷ 10 ∷ 32 ∷ [])) ++ folded_from (drop r (x ++ v)) 74) (take-append_seam x v)
      ∙ ap (λ (y : List ℕ). (x ++ (13 ∷ 10 ∷ 32 ∷ [])) ++ folded_from y 74) (ap (λ (k : ℕ). drop k (x ++ v)) (sym n) ∙ drop-append_seam x v)
      ∙ append_assoc x (13 ∷ 10 ∷ 32 ∷ []) (folded_from v 74)

  pub clean_full : Clean v
  clean_full =
      let l = longer in
      rw (ap (λ (k : ℕ). drop k (x ++ v)) (sym n) ∙ drop-append_seam x v) at (turn_clean (x ++ v) 0 r r c h (omega arith) at_room)

-- at a place of a line, whose next CR stands at cr
module _ (s : List ℕ) (i cr r : ℕ) (he : cr ≡ i + run not_cr (drop i s)) (c : Clean (unfolded (drop i s))) where
  -- there is none: the rest is the last physical line
  pub stands_last : i ≤ length s → cr ≡ length s → cr - i ≤ r → folded_from (unfolded (drop i s)) r ≡ drop i s ++ (13 ∷ 10 ∷ [])
  stands_last le e h =
      let t : take (run not_cr (drop i s)) (drop i s) ≡ drop i s = take_all (run not_cr (drop i s)) (drop i s) (rw (length-drop i s) (omega arith)) in
      let w : unfolded (drop i s) ≡ drop i s = rw t at (no_fold (drop i s) (run not_cr (drop i s)) refl) in
      ap (λ (l : List ℕ). folded_from l r) w ∙ last_piece (drop i s) r (rw w at c) (rw (length-drop i s) (omega arith))

  -- a fold stands there, and the physical line is full
  module _ (n : cr - i ≡ r) (h : 4 ≤ r) (lt : cr + 3 < length s) (d : drop cr s ≡ 13 ∷ 10 ∷ 32 ∷ drop (cr + 3) s) (b : get_or s (cr + 3) 0 ≡ 13 → ⊥)
      (t : tail (get_or s (cr + 3) 0) ≡ false) where
    abbrev x : List ℕ
    x = take (cr - i) (drop i s)

    abbrev v : List ℕ
    v = unfolded (drop (cr + 3) s)

    behind : drop (cr - i) (drop i s) ≡ drop cr s
    behind = let k : i + (cr - i) ≡ cr = omega arith in drop-drop (cr - i) i s ∙ ap (λ (j : ℕ). drop j s) k

    fold_there : fold_at (drop cr s) ≡ true
    unfolding fold_at
    fold_there = ap fold_at d

    split : unfolded (drop i s) ≡ x ++ v
    unfolding unfolded
    split =
        let k : run not_cr (drop i s) ≡ cr - i = omega arith in
        unfold_run (drop i s)
        ∙ ap (λ (q : ℕ). take q (drop i s) ++ unfolded (drop q (drop i s))) k
        ∙ ap (λ (q : List ℕ). x ++ unfolded q) behind
        ∙ ap (λ (q : List ℕ). x ++ q) (fold_next s cr (omega arith) fold_there)

    head : v ≡ get_or s (cr + 3) 0 ∷ unfolded (drop (cr + 3 + 1) s)
    unfolding unfolded
    head = octet_next s (cr + 3) lt (not_cr_lem s (cr + 3) b)

    full : length x ≡ r
    full = length-take-le (cr - i) (drop i s) (rw (length-drop i s) (omega arith)) ∙ n

    some_left : 1 ≤ length v
    some_left = rw head (omega arith)

    starts : tail (get_or v 0 0) ≡ false
    starts = ap (λ (l : List ℕ). tail (get_or l 0 0)) head ∙ t

    pub stands_clean : Clean (unfolded (drop (cr + 3) s))
    stands_clean = clean_full x v r full h some_left starts (rw split at c)

    pub stands_next : folded_from (unfolded (drop (cr + 3) s)) 74 ≡ drop (cr + 3) s ++ (13 ∷ 10 ∷ []) → folded_from (unfolded (drop i s)) r ≡ drop i s ++ (13 ∷ 10 ∷ [])
    stands_next f =
        ap (λ (l : List ℕ). folded_from l r) split
        ∙ cut_full x v r full h some_left starts (rw split at c)
        ∙ ap (λ (q : List ℕ). x ++ (13 ∷ 10 ∷ 32 ∷ q)) f
        ∙ sym (append_assoc x (13 ∷ 10 ∷ 32 ∷ drop (cr + 3) s) (13 ∷ 10 ∷ []))
        ∙ ap (λ (q : List ℕ). (x ++ q) ++ (13 ∷ 10 ∷ [])) (sym d ∙ sym behind)
        ∙ ap (λ (q : List ℕ). q ++ (13 ∷ 10 ∷ [])) (take-append-drop (cr - i) (drop i s))

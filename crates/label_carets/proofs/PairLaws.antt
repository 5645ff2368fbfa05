-- The pair or the octet at a place of a label, and what a label stands for from there on. Assumes nothing.
use mathlib.Core.Path.{◌≡◌, refl, sym, ap, ◌∙◌}
use mathlib.Core.Bool.{Bool, true, false, ◌&&◌, ◌||◌, and-false, true≢false}
use mathlib.Core.List.{List, [], ◌∷◌, ◌++◌}
use Prim.Native.Nat.{ℕ, zero, suc, pred, ◌+◌, ◌<◌, ◌≤◌}
use native.Mathlib.Nat.{add-zero}
use native.Mathlib.Omega.{arith}
use lib.Dec.{eqb, ltb}
use lib.ListN.{length, get_or, drop, get_or-eq_default}
use lib.Seq.{get_or-drop}
use borrow.Author.Tests.{ltb-true, ltb-false}
use Rattle.octets.specs.Counts.{any}
use Rattle.octets.specs.Scan.{gather}
use Rattle.octets.proofs.Bools.{or_none_left, or_none_right}
use Rattle.octets.proofs.Scans.{gather_step, gather_end}
use Rattle.label_marks.specs.Seen.{mark}
use Rattle.label_carets.specs.Decoded.{code, meant, pair_at, passed, standing, decoded}
use Rattle.label_carets.specs.declared.Rule.{Rule}
use Rattle.label_carets.specs.declared.Rule.TheVariants.{Rfc6350, Rfc6868}

module _ (s : List ℕ) (i : ℕ) where
  pub pair_eq : pair_at Rfc6868 (drop i s) ≡ (eqb (get_or s i 0) 94 && code (get_or s (i + 1) 0))
  pair_eq = simp (get_or-drop, add-zero)

  pub pair_short : length s ≤ i + 1 → pair_at Rfc6868 (drop i s) ≡ false
  unfolding code
  pair_short h = pair_eq ∙ simp (get_or-eq_default s 0 h, and-false)

  pub pair_inside : pair_at Rfc6868 (drop i s) ≡ true → i + 2 ≤ length s
  pair_inside e = by (ltb (i + 1) (length s)) refl
    where
      by : (t : Bool) → ltb (i + 1) (length s) ≡ t → i + 2 ≤ length s
      by true q = omega (arith, ltb-true (i + 1) (length s) q)
      by false q = absurd (true≢false (sym e ∙ pair_short (ltb-false (i + 1) (length s) q)))

  decoded_step : i < length s → (n b : ℕ) → passed Rfc6868 (drop i s) ≡ n → 1 ≤ n → standing Rfc6868 (drop i s) ≡ b
      → decoded Rfc6868 (drop i s) ≡ (b ∷ []) ++ decoded Rfc6868 (drop (i + n) s)
  unfolding decoded
  decoded_step h n b e pos q =
      gather_step (passed Rfc6868) (λ (w : List ℕ). standing Rfc6868 w ∷ []) s i n h e pos
      ∙ ap (λ (x : ℕ). (x ∷ []) ++ gather (passed Rfc6868) (λ (w : List ℕ). standing Rfc6868 w ∷ []) (drop (i + n) s) 0) q

  module _ (h : i < length s) where
    pub decoded_pair : pair_at Rfc6868 (drop i s) ≡ true → decoded Rfc6868 (drop i s) ≡ (meant (get_or s (i + 1) 0) ∷ []) ++ decoded Rfc6868 (drop (i + 2) s)
    unfolding passed standing
    decoded_pair e = decoded_step h 2 (meant (get_or s (i + 1) 0)) (rw e) (omega arith) (rw e (simp get_or-drop))

    pub decoded_octet : pair_at Rfc6868 (drop i s) ≡ false → decoded Rfc6868 (drop i s) ≡ (get_or s i 0 ∷ []) ++ decoded Rfc6868 (drop (i + 1) s)
    unfolding passed standing
    decoded_octet e = decoded_step h 1 (get_or s i 0) (rw e) (omega arith) (rw e (simp (get_or-drop, add-zero)))

  pub decoded_end : length s ≤ i → decoded Rfc6868 (drop i s) ≡ []
  unfolding decoded
  decoded_end h = gather_end (passed Rfc6868) (λ (w : List ℕ). standing Rfc6868 w ∷ []) s i h

-- a label stands for no more octets than it has
shorter : (r : Rule) (l : List ℕ) (k : ℕ) → length (gather (passed r) (λ (w : List ℕ). standing r w ∷ []) l k) ≤ length l
unfolding gather
shorter r [] k = omega arith
shorter r (x ∷ xs) zero = omega (arith, shorter r xs (pred (passed r (x ∷ xs))))
shorter r (x ∷ xs) (suc k) = omega (arith, shorter r xs k)

pub decoded_short : (r : Rule) (l : List ℕ) → length (decoded r l) ≤ length l
unfolding decoded
decoded_short r l = shorter r l 0

-- one step of decoding, at the start of a label
pub one_step : (r : Rule) (x : ℕ) (xs : List ℕ) → pair_at r (x ∷ xs) ≡ false → decoded r (x ∷ xs) ≡ x ∷ decoded r xs
unfolding decoded gather passed standing
one_step r x xs e = rw e

pub two_step : (r : Rule) (x y : ℕ) (w : List ℕ) → pair_at r (x ∷ y ∷ w) ≡ true → decoded r (x ∷ y ∷ w) ≡ meant y ∷ decoded r w
unfolding decoded gather passed standing
two_step r x y w e = rw e

pub no_pair : (r : Rule) (x : ℕ) (xs : List ℕ) → eqb x 94 ≡ false → pair_at r (x ∷ xs) ≡ false
no_pair Rfc6350 x xs n = refl
no_pair Rfc6868 x xs n = rw n

nothing : (r : Rule) → decoded r [] ≡ []
unfolding decoded gather
nothing r = refl

-- a label without a caret stands for itself under either rule, and so does any label under RFC 6350
pub bare : (r : Rule) (l : List ℕ) → any (mark 94 94) l ≡ false → decoded r l ≡ l
unfolding any mark
bare r [] e = nothing r
bare r (x ∷ xs) e =
    let n = or_none_left (eqb x 94) (eqb x 94 || eqb x 94) (or_none_left (mark 94 94 x) (any (mark 94 94) xs) e) in
    one_step r x xs (no_pair r x xs n) ∙ ap (λ (l : List ℕ). x ∷ l) (bare r xs (or_none_right (mark 94 94 x) (any (mark 94 94) xs) e))

pub old_decoded : (l : List ℕ) → decoded Rfc6350 l ≡ l
old_decoded [] = nothing Rfc6350
old_decoded (x ∷ xs) = one_step Rfc6350 x xs refl ∙ ap (λ (l : List ℕ). x ∷ l) (old_decoded xs)

-- Where raising leaves a line as it is, octet by octet. Assumes nothing.
use mathlib.Core.Path.{◌≡◌, refl, sym, ap, ◌∙◌}
use mathlib.Core.Bool.{Bool, true, false, not}
use mathlib.Core.List.{List, ◌∷◌}
use Prim.Native.Nat.{ℕ, suc, ◌+◌, ◌<◌, ◌≤◌}
use native.Mathlib.Numerals.{add-one}
use native.Mathlib.Omega.{arith}
use lib.ListN.{length, get_or, drop, drop_of_length-le}
use lib.Seq.{drop-cons}
use borrow.Author.Tests.{lt-leb, ne_eqb}
use Rattle.octets.specs.Pick.{pick}
use Rattle.folder_raising.specs.Letters.{upper}
use Rattle.folder_raising.specs.Walk.{after, turned, raised_from, Kept}
use Rattle.folder_raising.specs.declared.Spot.{Spot}
use Rattle.folder_raising.specs.declared.Spot.TheVariants.{Name, Values, Quotes, Past}
use Rattle.folder_raising.proofs.Steps.{past}

-- an octet below the small letters stays
low_upper : (b : ℕ) → b ≤ 90 → upper b ≡ b
unfolding upper
low_upper b h = simp (lt-leb 97 b (omega arith))

pub kept_end : (s : List ℕ) (i : ℕ) (k : Spot) → length s ≤ i → Kept k i s
unfolding raised_from
kept_end s i k h = let e = drop_of_length-le s h in ap (raised_from k) e ∙ sym e

module _ (s : List ℕ) (i : ℕ) (h : i < length s) where
  kept_step : (k k' : Spot) → turned k (get_or s i 0) ≡ get_or s i 0 → after k (get_or s i 0) ≡ k' → Kept k' (i + 1) s → Kept k i s
  unfolding raised_from
  kept_step k k' t a q =
      let x : ℕ = get_or s i 0 in
      let n : raised_from k' (drop (suc i) s) ≡ drop (suc i) s = rw (sym (add-one i)) q in
      ap (raised_from k) (drop-cons s i 0 h)
      ∙ ap (λ (y : ℕ). y ∷ raised_from (after k x) (drop (suc i) s)) t
      ∙ ap (λ (j : Spot). x ∷ raised_from j (drop (suc i) s)) a
      ∙ ap (λ (r : List ℕ). x ∷ r) n
      ∙ sym (drop-cons s i 0 h)

  -- in a name
  pub kept_colon : get_or s i 0 ≡ 58 → Kept Name i s
  unfolding upper
  kept_colon e = kept_step Name Past (rw e refl) (rw e refl) (past (drop (i + 1) s))

  pub kept_equals : get_or s i 0 ≡ 61 → Kept Values (i + 1) s → Kept Name i s
  unfolding upper
  kept_equals e q = kept_step Name Values (rw e refl) (rw e refl) q

  pub kept_name : get_or s i 0 ≤ 90 → (get_or s i 0 ≡ 58 → ⊥) → (get_or s i 0 ≡ 61 → ⊥) → Kept Name (i + 1) s → Kept Name i s
  kept_name l c e q =
      kept_step Name Name (low_upper (get_or s i 0) l) (simp (ne_eqb (get_or s i 0) 58 c, ne_eqb (get_or s i 0) 61 e)) q

  -- in a parameter's values, between quote marks or not
  pub kept_quote : (t : Bool) → get_or s i 0 ≡ 34 → Kept (pick (not t) Quotes Values) (i + 1) s → Kept (pick t Quotes Values) i s
  kept_quote true e q = kept_step Quotes Values refl (rw e refl) q
  kept_quote false e q = kept_step Values Quotes refl (rw e refl) q

  pub kept_quoted : (get_or s i 0 ≡ 34 → ⊥) → Kept Quotes (i + 1) s → Kept Quotes i s
  kept_quoted n q = kept_step Quotes Quotes refl (simp (ne_eqb (get_or s i 0) 34 n)) q

  pub kept_value : (get_or s i 0 ≡ 34 → ⊥) → (get_or s i 0 ≡ 59 → ⊥) → (get_or s i 0 ≡ 58 → ⊥) → Kept Values (i + 1) s → Kept Values i s
  kept_value n m c q =
      kept_step Values Values refl (simp (ne_eqb (get_or s i 0) 34 n, ne_eqb (get_or s i 0) 59 m, ne_eqb (get_or s i 0) 58 c)) q

  -- the semicolon and the colon end them, and are passed alike as the end of a name
  ends_alike : (b : ℕ) → upper b ≡ b → after Name b ≡ after Values b → get_or s i 0 ≡ b → Kept Name i s → Kept Values i s
  unfolding raised_from
  ends_alike b u a e q =
      let l : drop i s ≡ b ∷ drop (suc i) s = drop-cons s i 0 h ∙ ap (λ (y : ℕ). y ∷ drop (suc i) s) e in
      ap (raised_from Values) l
      ∙ ap (λ (j : Spot). b ∷ raised_from j (drop (suc i) s)) (sym a)
      ∙ ap (λ (y : ℕ). y ∷ raised_from (after Name b) (drop (suc i) s)) (sym u)
      ∙ sym (ap (raised_from Name) l)
      ∙ q

  pub kept_semicolon : get_or s i 0 ≡ 59 → Kept Name i s → Kept Values i s
  unfolding upper
  kept_semicolon e q = ends_alike 59 refl refl e q

  pub kept_end_colon : get_or s i 0 ≡ 58 → Kept Name i s → Kept Values i s
  unfolding upper
  kept_end_colon e q = ends_alike 58 refl refl e q

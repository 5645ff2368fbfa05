-- A settled value matches its kind. Assumes nothing.
use mathlib.Core.Path.{◌≡◌, refl, sym, ap, ◌∙◌}
use mathlib.Core.Bool.{true, false, not, ◌&&◌, false≢true, and-true}
use mathlib.Core.List.{List, [], ◌∷◌}
use mathlib.Core.Logic.{inr, ⊎_elim}
use Prim.Native.Nat.{ℕ}
use lib.Dec.{eqb}
use Rattle.text_marks.specs.Marks.{backslash as is_backslash}
use Rattle.text_marks.specs.Pairs.{coded, settled}
use Rattle.text_marks.proofs.PairLaws.{coded_is, settled_all}
use Rattle.property_table.specs.declared.Edition.{Edition}
use Rattle.value_kinds.specs.Octets.{Octets, plain, inner, comma, semicolon, backslash, escapee, neither, holds}
use Rattle.value_kinds.specs.Shapes.{one, ◌then◌, ◌or◌, joined, Every, Matches}
use Rattle.value_kinds.specs.Kinds.{text_of, text, texts, components, split, shape_in, kind_in}
use Rattle.value_kinds.specs.ByPairs.{fits_by_pairs}
use Rattle.value_kinds.specs.declared.Fault.TheVariants.{Fits}
use Rattle.value_kinds.proofs.ShapeLaws.{fits_from}
use Rattle.value_kinds.proofs.QuietLaws.{put, bare, grow, cut, nothing, comma_or, semicolon_or, chosen}

coded_escapee : (x : ℕ) → coded x ≡ true → holds escapee x ≡ true
unfolding holds
coded_escapee = coded_is (λ k. holds escapee k ≡ true) refl refl refl refl

-- an escape before a text, and before a list of texts
module _ (own : Octets) (x y : ℕ) (b : is_backslash x ≡ true) (c : holds escapee y ≡ true) where
  pub put_escape : (ys : List ℕ) → Matches (text_of own) ys → Matches (text_of own) (x ∷ y ∷ ys)
  unfolding Matches joined Every holds
  put_escape ys (vs, e, k) =
      ((x ∷ y ∷ []) ∷ vs, ap (λ (l : List ℕ). x ∷ y ∷ l) e, (inr (x ∷ [], y ∷ [], refl, (x, b, refl), (y, c, refl)), k))

  pub grow_escape : (mark : Octets) (ys : List ℕ) → Matches (split mark (text_of own)) ys → Matches (split mark (text_of own)) (x ∷ y ∷ ys)
  unfolding Matches
  grow_escape mark ys (u, w, e, f, g) = (x ∷ y ∷ u, w, ap (λ (l : List ℕ). x ∷ y ∷ l) e, put_escape u f, g)

-- an octet that is no backslash, and no comma where texts are not listed
unlisted : (x : ℕ) → is_backslash x ≡ false → (eqb x 44 && not false) ≡ false → holds plain x ≡ true
unfolding holds
unlisted x b c = rw (b, sym (and-true (eqb x 44)) ∙ c)

flat : (x : ℕ) → is_backslash x ≡ false → neither 92 92 x ≡ true
flat x b = rw b

none : Matches (text_of plain) []
unfolding Matches joined Every
none = ([], refl, tt)

settled_text : (ed : Edition) (v : List ℕ) → settled false 0 v ≡ true → kind_in ed 1 v ≡ Fits
unfolding kind_in shape_in text
settled_text ed v e =
    fits_from text 0 v
    (settled_all false (Matches (text_of plain)) none
    (λ x xs b c h. put (one plain or one backslash then one escapee) x xs (bare plain x (unlisted x b c)) h)
    (λ x y ys b c n h. put_escape plain x y b (coded_escapee y c) ys h)
    v e)

settled_texts : (ed : Edition) (v : List ℕ) → settled true 0 v ≡ true → kind_in ed 2 v ≡ Fits
unfolding kind_in shape_in text texts
settled_texts ed v e =
    fits_from texts 0 v
    (settled_all true (Matches (split comma (text_of plain))) (nothing comma plain)
    (λ x xs b c h. ⊎_elim (λ k. cut comma plain x xs k h) (λ k. grow comma plain x xs k h) (comma_or x (flat x b)))
    (λ x y ys b c n h. grow_escape plain x y b (coded_escapee y c) comma ys h)
    v e)

settled_components : (ed : Edition) (v : List ℕ) → settled false 0 v ≡ true → kind_in ed 6 v ≡ Fits
unfolding kind_in shape_in components
settled_components ed v e =
    fits_from components 0 v
    (settled_all false (Matches (split semicolon (text_of inner))) (nothing semicolon inner)
    (λ x xs b c h. ⊎_elim (λ k. cut semicolon inner x xs k h) (λ k. grow semicolon inner x xs k.0 h) (semicolon_or x (unlisted x b c)))
    (λ x y ys b c n h. grow_escape inner x y b (coded_escapee y c) semicolon ys h)
    v e)

-- a value fits its kind where the look at pairs says so
pub by_pairs : (ed : Edition) (k : ℕ) (v : List ℕ) → fits_by_pairs k v ≡ true → kind_in ed k v ≡ Fits
unfolding fits_by_pairs
by_pairs ed k v e =
    chosen k 1 (settled false 0 v) _ (λ q h. its 1 q (settled_text ed v h))
    (chosen k 2 (settled true 0 v) _ (λ q h. its 2 q (settled_texts ed v h))
    (chosen k 6 (settled false 0 v) false (λ q h. its 6 q (settled_components ed v h)) (λ h. absurd (false≢true h))))
    e
  where
    its : (n : ℕ) → k ≡ n → kind_in ed n v ≡ Fits → kind_in ed k v ≡ Fits
    its n q h = ap (λ (m : ℕ). kind_in ed m v) q ∙ h

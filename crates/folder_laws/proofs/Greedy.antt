-- A line has no other greedy cutting than its pieces. Assumes nothing.
use mathlib.Core.Path.{◌≡◌, refl, sym, ap, ◌∙◌}
use mathlib.Core.Bool.{Bool}
use mathlib.Core.List.{List, [], ◌∷◌, ◌++◌, flatten}
use Prim.Native.Nat.{ℕ, pred, ◌<◌, ◌≤◌}
use native.Mathlib.Omega.{arith}
use lib.ListN.{length}
use Rattle.utf8.specs.Characters.{char_length, length_by}
use Rattle.utf8.proofs.Chains.{Chars, end, start, inner, char_more, char_inside, char_four}
use Rattle.folder_line.specs.Pieces.{first, later, pieces, All}
use Rattle.folder_line.proofs.PieceLaws.{first_over, first_goes, later_over, later_goes, over_yes, over_no, over_tail}
use Rattle.folder_line.proofs.Turns.{clean_chars}
use Rattle.folder_laws.proofs.Cut.{Tight, AllTight, Cut}
use Rattle.folder_laws.proofs.CutLaws.{Pieces, nil, one, to_pieces}

-- ours, from a place where r octets are left, is q and then qs
abbrev Same : List ℕ → ℕ → List ℕ → List (List ℕ) → Type 0
Same l r q qs = (first l r ≡ q) × (later l r ≡ qs)

full_less : (x r : ℕ) (p : List ℕ) (ps : List (List ℕ)) → 1 ≤ r → Tight r (x ∷ p) ps → Tight (pred r) p ps
full_less x r p [] h f = tt
full_less x r p (q ∷ qs) h f = omega arith

-- through a piece of any cutting ours goes along
along : {p : ℕ → Bool} {k : ℕ} {q : List ℕ} → Chars p k q → (t : List ℕ) (qs : List (List ℕ)) (r : ℕ) → length q ≤ r → Tight r q qs
    → ((s : ℕ) → Tight s [] qs → Same t s [] qs) → Same (q ++ t) r q qs
along end t qs r h f g = g r f
along (start {x} {m} {xs} a e c) t qs r h f g =
    let o = over_no x (xs ++ t) r m (char_more (x ∷ xs) t m e) (omega (arith, char_inside (x ∷ xs) m e)) in
    let i = along c t qs (pred r) (omega arith) (full_less x r xs qs (omega arith) f) g in
    (first_goes x (xs ++ t) r o ∙ ap (λ (p : List ℕ). x ∷ p) i.0, later_goes x (xs ++ t) r o ∙ i.1)
along (inner {x} {k} {xs} e c) t qs r h f g =
    let o = over_tail x (xs ++ t) r e in
    let i = along c t qs (pred r) (omega arith) (full_less x r xs qs (omega arith) f) g in
    (first_goes x (xs ++ t) r o ∙ ap (λ (p : List ℕ). x ∷ p) i.0, later_goes x (xs ++ t) r o ∙ i.1)

-- where the next piece's first character does not fit, ours cuts, and begins anew with 74
anew : {p : ℕ → Bool} {q : List ℕ} → Chars p 0 q → (t : List ℕ) (qs : List (List ℕ)) (s : ℕ) → s < char_length q → Same (q ++ t) 74 q qs
    → Same (q ++ t) s [] (q ∷ qs)
unfolding char_length length_by
anew end t qs s h i = absurd (omega arith)
anew (start {x} {m} {xs} a e c) t qs s h i =
    let u = char_more (x ∷ xs) t m e in
    let o = over_yes x (xs ++ t) s m u (omega arith) in
    let n = over_no x (xs ++ t) 74 m u (omega (arith, char_four (x ∷ xs) m e)) in (
      first_over x (xs ++ t) s o,
      later_over x (xs ++ t) s o
          ∙ ap (λ (p : List ℕ). p ∷ later (xs ++ t) 73) (sym (first_goes x (xs ++ t) 74 n) ∙ i.0)
          ∙ ap (λ (ps : List (List ℕ)). (x ∷ xs) ∷ ps) (sym (later_goes x (xs ++ t) 74 n) ∙ i.1),
    )

rest_same : {qs : List (List ℕ)} → Pieces 74 qs → AllTight qs → (s : ℕ) → Tight s [] qs → Same (flatten qs) s [] qs
unfolding flatten first later AllTight
rest_same nil a s f = (refl, refl)
rest_same (one {p} {ps} w b g) a s f =
    anew w (flatten ps) ps s (omega arith) (along w (flatten ps) ps 74 b a.0 (λ z y. rest_same g a.1 z y))

-- There is no other greedy cutting.
pub only : (l p : List ℕ) (ps : List (List ℕ)) → Cut l p ps → p ∷ ps ≡ pieces l
unfolding flatten pieces All
only l p ps c =
    let e = along (clean_chars p c.clean.0) (flatten ps) ps 75 c.start c.full (rest_same (to_pieces 74 ps c.clean.1 c.others) c.fulls) in
    let q = c.whole in
    rw (← q) (ap (λ (x : List ℕ). x ∷ ps) (sym e.0) ∙ ap (λ (xs : List (List ℕ)). first (p ++ flatten ps) 75 ∷ xs) (sym e.1))

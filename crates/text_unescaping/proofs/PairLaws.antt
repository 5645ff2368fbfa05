-- A settled text has no fault, and each of its backslashes starts an escape. Assumes nothing.
use mathlib.Core.Path.{◌≡◌, refl, sym, ap, ◌∙◌}
use mathlib.Core.Bool.{true, false, and-true}
use mathlib.Core.List.{List, [], ◌∷◌}
use Prim.Native.Nat.{ℕ, suc, ◌+◌}
use native.Mathlib.Omega.{arith}
use lib.Dec.{eqb}
use lib.ListN.{length}
use Rattle.octets.specs.Counts.{count}
use Rattle.octets.specs.Scan.{after, scan, gather}
use Rattle.text_marks.specs.Marks.{backslash, special}
use Rattle.text_marks.specs.Pairs.{coded, settled}
use Rattle.text_marks.proofs.PairLaws.{coded_is, settled_all}
use Rattle.text_unescaping.specs.Unescaped.{code, escape_at, text_step, first_fault, unescaped}
use Rattle.text_unescaping.proofs.UnescapeLaws.{first_octet, first_escape}

abbrev pub Sound : List ℕ → Type 0
Sound l = (first_fault l ≡ length l) × (length (unescaped l) + count backslash l ≡ length l)

-- an octet that stands for itself, before sound text
module _ (x : ℕ) (xs : List ℕ) (b : backslash x ≡ false) where
  pub flat : escape_at (x ∷ xs) ≡ false
  unfolding escape_at
  flat = simp b

  one_step : eqb x 44 ≡ false → text_step (x ∷ xs) ≡ 1
  unfolding text_step
  one_step c = simp (flat, b, c)

  pub fault_past : eqb x 44 ≡ false → first_fault xs ≡ length xs → first_fault (x ∷ xs) ≡ suc (length xs)
  unfolding first_fault scan
  fault_past c h = ap (λ (k : ℕ). after k (scan text_step xs)) (one_step c) ∙ ap suc h

  octet : eqb x 44 ≡ false → Sound xs → Sound (x ∷ xs)
  unfolding count
  octet c h = (fault_past c h.0, rw (first_octet x xs flat, b) (omega (arith, h.1)))

-- an escape that is no escaped backslash, before sound text
module _ (x y : ℕ) (ys : List ℕ) (b : backslash x ≡ true) (c : code y ≡ true) (n : backslash y ≡ false) where
  whole : escape_at (x ∷ y ∷ ys) ≡ true
  unfolding escape_at
  whole = simp (b, c)

  two_step : text_step (x ∷ y ∷ ys) ≡ 2
  unfolding text_step
  two_step = simp whole

  escape : Sound ys → Sound (x ∷ y ∷ ys)
  unfolding first_fault scan count unescaped gather
  escape h =
      (ap (λ (k : ℕ). after k (scan text_step (y ∷ ys))) two_step ∙ ap (λ (k : ℕ). suc (suc k)) h.0, rw (first_escape x (y ∷ ys) whole, b, n) (omega (arith, h.1)))

-- what is coded ends an escape
coded_code : (x : ℕ) → coded x ≡ true → code x ≡ true
unfolding code special
coded_code = coded_is (λ k. code k ≡ true) refl refl refl refl

nothing : Sound []
unfolding first_fault scan unescaped gather count
nothing = (refl, refl)

pub settled_sound : (l : List ℕ) → settled false 0 l ≡ true → Sound l
settled_sound =
    settled_all false Sound nothing (λ x xs b e h. octet x xs b (sym (and-true (eqb x 44)) ∙ e) h) (λ x y ys b c n h. escape x y ys b (coded_code y c) n h)

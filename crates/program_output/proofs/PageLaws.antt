-- Text added piece by piece to a page. Assumes nothing.
use mathlib.Core.Path.{◌≡◌, refl, sym, ap, ◌∙◌}
use mathlib.Core.List.{List, [], ◌∷◌, ◌++◌}
use Prim.Native.Nat.{ℕ, zero, suc, ◌+◌, ◌-◌, ◌<◌, ◌≤◌}
use native.Mathlib.Numerals.{add-one}
use native.Mathlib.Omega.{arith}
use borrow.Author.Tests.{lt-ltb, le-ltb}
use Prim.Native.String.{String, [] as blank, ◌∷◌ as ◌and◌}
use Prim.Native.Char.{code}
use Rattle.octets.specs.Ascii.{octets}
use lib.ListN.{length, get_or, drop, set, replicate, drop_of_length-le}
use lib.Seq.{drop-cons}
use Rattle.program_output.specs.Pages.{Page, page, one, added}

pub one_fits : (x n : ℕ) (room : List ℕ) → n < length room → page (n + 1) (set room n x) ≡ one x (page n room)
unfolding one
one_fits x n room h = rw (lt-ltb n (length room) h)

pub one_full : (x n : ℕ) (room : List ℕ) → length room ≤ n → page n room ≡ one x (page n room)
unfolding one
one_full x n room h = rw (le-ltb n (length room) h)

-- a text and then another
pub added_append : (a b : List ℕ) (p : Page) → added (a ++ b) p ≡ added b (added a p)
unfolding added
added_append [] b p = refl
added_append (x ∷ xs) b p = added_append xs b (one x p)

pub then : (a b : List ℕ) (p : Page) {q r : Page} → q ≡ added a p → r ≡ added b q → r ≡ added (a ++ b) p
then a b p e f = f ∙ ap (added b) e ∙ sym (added_append a b p)

-- a piece of a text is added, and the rest is left
pub added_piece : (whole a rest : List ℕ) (p q : Page) → whole ≡ a ++ rest → q ≡ added a p → added rest q ≡ added whole p
added_piece whole a rest p q e f = then a rest p f refl ∙ ap (λ (t : List ℕ). added t p) (sym e)

-- a loop that adds the text of each element of a list: f says an element's text, g that of those left
module _ (f : ℕ → List ℕ) (g : List ℕ → List ℕ) where
  pub turn : ((x : ℕ) (xs : List ℕ) → g (x ∷ xs) ≡ f x ++ g xs) → (s : List ℕ) (i : ℕ) → i < length s → (p : Page) {q : Page} → q ≡ added (f (get_or s i 0)) p
      → added (g (drop (i + 1) s)) q ≡ added (g (drop i s)) p
  turn gives s i h p {q} e =
      rw add-one (added_piece (g (drop i s)) (f (get_or s i 0)) (g (drop (suc i) s)) p q (rw (drop-cons s i 0 h) (gives (get_or s i 0) (drop (suc i) s))) e)

  pub stop : g [] ≡ [] → (s : List ℕ) (i : ℕ) → length s ≤ i → (p : Page) → added (g (drop i s)) p ≡ p
  unfolding added
  stop none s i h p = rw (drop_of_length-le s h, none)

-- the next of k octets that are alike
pub added_like : (x k : ℕ) (p : Page) → 0 < k → added (replicate k x) p ≡ added (replicate (k - 1) x) (one x p)
unfolding added
added_like x zero p h = absurd (omega arith)
added_like x (suc k) p h =
    let e : suc k - 1 ≡ k = omega arith in
    rw e

pub added_no_more : (x k : ℕ) (p : Page) → k ≤ 0 → added (replicate k x) p ≡ p
unfolding added
added_no_more x zero p h = refl
added_no_more x (suc k) p h = absurd (omega arith)

-- what was added to a page so far
pub record Adds (a : List ℕ) (p q : Page) : Type 0 where
  pub sum : q ≡ added a p

pub nothing : (p : Page) → Adds [] p p
unfolding added
nothing p = record { sum = refl }

-- a piece after it
pub piece : (b : List ℕ) {a : List ℕ} {p q r : Page} → Adds a p q → r ≡ added b q → Adds (a ++ b) p r
piece b {a} {p} e f = record { sum = then a b p e.sum f }

-- the octets of a text, computed
abbrev spelt : String → List ℕ
spelt blank = []
spelt (c and s) = code c ∷ spelt s

spelt_is : (s : String) → spelt s ≡ octets s
unfolding octets
spelt_is blank = refl
spelt_is (c and s) = ap (λ (l : List ℕ). code c ∷ l) (spelt_is s)

-- a text after it
pub text : (s : String) {a : List ℕ} {p q r : Page} → Adds a p q → r ≡ added (spelt s) q → Adds (a ++ octets s) p r
text s {a} {p} {q} e f = piece (octets s) e (f ∙ ap (λ (t : List ℕ). added t q) (spelt_is s))

-- no text after it
pub pause : {a : List ℕ} {p q : Page} → Adds a p q → Adds (a ++ []) p q
unfolding added
pause {a} {p} {q} e = piece [] e refl
